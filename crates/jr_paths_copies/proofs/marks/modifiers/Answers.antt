use Rattle.jr_ast.specs.View.{modifier_of}
use Rattle.jr_ast.specs.Remarked as maps
use Rattle.jr_paths_copies.proofs.Marking.{none_yet, one_more, all_done, same_maps}
use Rattle.jr_paths_copies.proofs.marks.modifiers.Goals as goal

pub loop-part-init : goal.loop-part-init
loop-part-init g c = λ h k agree. none_yet (λ x. maps.map_modifier h (modifier_of x)) (λ x. maps.map_modifier k (modifier_of x)) c.new-copies.result.items c.args.parts.now c.new-copies.ensures.items

pub loop-part-preserved : goal.loop-part-preserved
loop-part-preserved g c = λ h k agree.
    one_more (λ x. maps.map_modifier h (modifier_of x)) (λ x. maps.map_modifier k (modifier_of x)) c.loop-part.copies.items _ c.modifier.result c.args.parts.now c.loop-part.part-index c.part-item.result
    c.loop-part-test.true c.part-item.is c.in_ok-push.ensures.items (c.loop-part.invariant h k agree) (c.modifier.ensures h k agree)

pub returns : goal.returns
returns g c = λ h k agree.
    same_maps (maps.map_modifier h) modifier_of (maps.map_modifier k) modifier_of c.loop-part.copies.items c.args.parts.now
    (all_done (λ x. maps.map_modifier h (modifier_of x)) (λ x. maps.map_modifier k (modifier_of x)) _ _ c.loop-part.part-index c.loop-part-test.false (c.loop-part.invariant h k agree))
