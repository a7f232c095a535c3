use Rattle.std.proofs.Common.{◌∷◌, [], refl, sym, ap, subst, ◌∙◌}
use Rattle.std.specs.Prelude.{string_bytes}
use Rattle.jr_text.specs.declared.spans.Span.{Span}
use Rattle.jr_bind.specs.Programs.{Program}
use Rattle.jr_new_words.specs.Mappings.{MadeLocal, Renumbering}
use Rattle.jr_new_words.specs.MappingView.{renumbering_of}
use Rattle.jr_new_bodies.specs.OutputView.{gathered}
use Rattle.jr_new_bodies.specs.Spotting.{PartSpot}
use Rattle.jr_extract_lists.specs.Targets.{IsTarget}
use Rattle.jr_extract_lists.specs.Walked.{FramesList}
use Rattle.jr_extract_lists.proofs.Numbers.{numbers, outer_list, inner_list, piece_frames}
use Rattle.jr_extract_lists.proofs.Spotting.{puts_name}
use Rattle.jr_extract_lists.proofs.walks.list_output.Goals as goal

pub list_by-requires : goal.list_by-requires
list_by-requires c =
    let t = c.args.of.now in
    let kept = c.as_slice-kept.result.now in
    let next = c.in_ok-next.next in
    let bytes = c.as_str-bytes.result.now in
    let one : PartSpot = record { at = t.value.now.mark; binds = 10; bare = bytes; grouped = bytes; respelled = 0 } in
    let inner = c.renumbered-inner.ensures ∙ ap (λ (m : MadeLocal). numbers kept next (m ∷ []) c.args.at.now.depth) c.made_local.ensures in
    let puts = λ (p : Program Span) (x : IsTarget p t). puts_name p t x one (string_bytes c.in_ok-text.text) refl c.as_str-bytes.ensures.value c.as_str-bytes.ensures.value refl c.in_ok-text.ensures in
    subst (λ (o : Renumbering). FramesList t o (renumbering_of c.renumbered-inner.result) (one ∷ []) (gathered c.args.piece)) (sym c.renumbered-outer.ensures)
    (subst (λ (r : Renumbering). FramesList t (numbers kept next [] 0) r (one ∷ []) (gathered c.args.piece)) (sym inner)
    (piece_frames t kept next c.in_ok-next.ensures c.args.at.now (gathered c.args.piece) (one ∷ []) (c.as_slice-kept.ensures.value ∙ c.in_ok-firsts.ensures) puts c.requires))

pub returns : goal.returns
returns c = λ p x place moves.
    let t = c.args.of.now in
    let kept = c.as_slice-kept.result.now in
    let next = c.in_ok-next.next in
    let bytes = c.as_str-bytes.result.now in
    let one : PartSpot = record { at = t.value.now.mark; binds = 10; bare = bytes; grouped = bytes; respelled = 0 } in
    let are = c.as_slice-kept.ensures.value ∙ c.in_ok-firsts.ensures in
    let inner = c.renumbered-inner.ensures ∙ ap (λ (m : MadeLocal). numbers kept next (m ∷ []) c.args.at.now.depth) c.made_local.ensures in
    c.list_by.ensures p x
    (c.renumbered-outer.ensures ∙ outer_list p t x kept next c.in_ok-next.ensures are)
    (inner ∙ inner_list p t x kept next c.in_ok-next.ensures are c.args.at.now.depth (sym place.scope))
    (puts_name p t x one (string_bytes c.in_ok-text.text) refl c.as_str-bytes.ensures.value c.as_str-bytes.ensures.value refl c.in_ok-text.ensures) moves
