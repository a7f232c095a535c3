use Rattle.std.proofs.Common.{List, map, length, sym, ap, subst, ◌∙◌, arith}
use Rattle.std.proofs.lemmas.List.{length-append}
use Rattle.jr_scopes.specs.Helds.{Held, held_of}
use Rattle.jr_scopes.specs.Tracked.{locals_of}
use Rattle.jr_new_words.specs.Scopes.{mapping_of, member_of, AreDepths}
use Rattle.jr_new_words.proofs.Growing.{push_new, put_depths, count_new, deeper, map_push}
use Rattle.jr_new_words.proofs.Oks.{on_both, on_one}
use Rattle.jr_new_words.proofs.scopes.Scopes.push.Goals as goal

pub returns-clause-kept : goal.returns-clause-kept
returns-clause-kept c =
    let s = c.args.self.now in
    let m = mapping_of s in
    let k = member_of s in
    let hs = locals_of s.locals in
    let rs = locals_of s.renamed in
    let held = c.args.held in
    let kept = c.requires in
    let puts = c.in_ok-put_depth.ensures in
    let image = c.in_ok-put_image.ensures in
    let count = count_new m k rs hs c.len.result c.len.ensures kept.renamed in
    on_both c.push.result _ _ _ (λ locals tracked.
    let are = ap (map held_of) locals ∙ map_push held_of hs held in
    let size = ap length are ∙ length-append (map held_of hs) _ in
    record {
      rows = kept.rows;
      images = kept.images;
      class = kept.class;
      no_locals = kept.no_locals;
      image = kept.image;
      image_class = kept.image_class;
      image_static = kept.image_static;
      image_locals = kept.image_locals;
      tracked = tracked;
      renamed_tracked = image.tracked;
      renamed = push_new m k rs hs _ _ c.in_ok-image.image held image.locals locals c.in_ok-image.ensures kept.deep kept.renamed;
      deep = deeper m.locals (length (map held_of hs)) _ (omega (arith, size)) kept.deep;
      depths = subst (λ (zs : List Held). AreDepths m m.locals k zs c.put_depth.new.depths.items) (sym are) (put_depths m k m.locals (map held_of hs) (held_of held) s.depths.items c.put_depth.new.depths.items c.len.result puts count kept.depths);
    }) c.push.ensures.locals c.push.ensures.tracked

pub returns-clause-locals : goal.returns-clause-locals
returns-clause-locals c =
    let s = c.args.self.now in
    on_one c.push.result _ _ (λ locals. ap (map held_of) locals ∙ map_push held_of (locals_of s.locals) c.args.held) c.push.ensures.locals
