use Rattle.std.proofs.Common.{◌≤◌, List, map, length, sym, ap, subst, ◌∙◌, arith}
use Rattle.std.proofs.lemmas.List.{length-take-le}
use Rattle.jr_scopes.specs.Helds.{Held, held_of}
use Rattle.jr_scopes.specs.Tracked.{locals_of}
use Rattle.jr_new_words.specs.Scopes.{mapping_of, member_of, IsDeep, AreDepths}
use Rattle.jr_new_words.proofs.Growing.{take_new, cut_depths, map_take}
use Rattle.jr_new_words.proofs.Oks.{on_both, on_one}
use Rattle.jr_new_words.proofs.scopes.Scopes.cut.Goals as goal

pub returns-clause-kept : goal.returns-clause-kept
returns-clause-kept c =
    let s = c.args.self.now in
    let m = mapping_of s in
    let k = member_of s in
    let d = c.args.depth in
    let hs = locals_of s.locals in
    let rs = locals_of s.renamed in
    let kept = c.requires.kept in
    let within = c.requires.within in
    let le : d ≤ length (map held_of hs) = omega (arith, within) in
    let image = c.in_ok-truncate.ensures in
    on_both c.truncate-3.result _ _ _ (λ locals tracked.
    let are = ap (map held_of) locals ∙ map_take held_of d hs in
    let size = ap length are ∙ length-take-le d (map held_of hs) le in
    record {
      rows = kept.rows;
      images = kept.images;
      class = kept.class;
      no_locals = kept.no_locals;
      image = kept.image;
      image_class = kept.image_class;
      image_static = kept.image_static;
      image_locals = kept.image_locals;
      tracked = tracked;
      renamed_tracked = image.tracked;
      renamed = take_new m k d c.images_in-images.result rs hs _ _ image.locals locals c.images_in-images.ensures c.requires.deep le kept.renamed;
      deep = subst (IsDeep m.locals) (sym size) c.requires.deep;
      depths = subst (λ (zs : List Held). AreDepths m m.locals k zs c.truncate.new.self.items) (sym are) (cut_depths m k m.locals (map held_of hs) s.depths.items c.truncate.new.self.items d c.truncate.ensures.items le kept.depths);
    }) c.truncate-3.ensures.locals c.truncate-3.ensures.tracked

pub returns-clause-locals : goal.returns-clause-locals
returns-clause-locals c =
    let s = c.args.self.now in
    on_one c.truncate-3.result _ _ (λ locals. ap (map held_of) locals ∙ map_take held_of c.args.depth (locals_of s.locals)) c.truncate-3.ensures.locals
