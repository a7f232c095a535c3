use Rattle.std.proofs.Common.{◌∷◌, [], sym, ap, subst, ◌∙◌}
use Rattle.jr_new_words.specs.Mappings.{MadeLocal, Renumbering}
use Rattle.jr_new_words.specs.MappingView.{renumbering_of}
use Rattle.jr_extract_lists.specs.Walked.{FramesPiece}
use Rattle.jr_extract_lists.proofs.Numbers.{numbers, outer_piece, inner_piece, place_frames}
use Rattle.jr_extract_lists.proofs.walks.piece_output.Goals as goal

pub piece_by-requires : goal.piece_by-requires
piece_by-requires c =
    let t = c.args.of.now in
    let kept = c.as_slice-kept.result.now in
    let next = c.in_ok-next.next in
    let inner = c.renumbered-inner.ensures ∙ ap (λ (m : MadeLocal). numbers kept next (m ∷ []) c.args.at.now.depth) c.made_local.ensures in
    subst (λ (o : Renumbering). FramesPiece t o (renumbering_of c.renumbered-inner.result)) (sym c.renumbered-outer.ensures)
    (subst (λ (r : Renumbering). FramesPiece t (numbers kept next [] 0) r) (sym inner)
    (place_frames t kept next c.in_ok-next.ensures c.args.at.now (c.as_slice-kept.ensures.value ∙ c.in_ok-firsts.ensures) c.requires))

pub returns : goal.returns
returns c = λ p x place.
    let t = c.args.of.now in
    let kept = c.as_slice-kept.result.now in
    let next = c.in_ok-next.next in
    let are = c.as_slice-kept.ensures.value ∙ c.in_ok-firsts.ensures in
    let inner = c.renumbered-inner.ensures ∙ ap (λ (m : MadeLocal). numbers kept next (m ∷ []) c.args.at.now.depth) c.made_local.ensures in
    c.piece_by.ensures p x
    (c.renumbered-outer.ensures ∙ outer_piece p t x kept next c.in_ok-next.ensures are)
    (inner ∙ inner_piece p t x kept next c.in_ok-next.ensures are c.args.at.now.depth (sym place.scope))
