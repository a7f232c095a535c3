use Rattle.std.proofs.lemmas.Result.{IfOk-weaker}
use Rattle.jr_ast.specs.View.{class_of}
use Rattle.jr_ast.specs.Remarked as maps
use Rattle.jr_paths_copies.proofs.MadeOf.{one_more_made}
use Rattle.jr_paths_copies.proofs.Marking.{none_yet, all_done, same_maps}
use Rattle.jr_paths_copies.proofs.member_marks.classes.Goals as goal

pub loop-part-init : goal.loop-part-init
loop-part-init g c = λ h k agree. none_yet (λ x. maps.map_class h (class_of x)) (λ x. maps.map_class k (class_of x)) c.new-copies.result.items c.args.parts.now c.new-copies.ensures.items

pub loop-part-preserved : goal.loop-part-preserved
loop-part-preserved g c = λ h k agree.
    one_more_made (λ x. maps.map_class h (class_of x)) (λ x. maps.map_class k (class_of x)) c.loop-part.copies.items _ c.args.parts.now c.loop-part.part-index c.part-item.result c.class.result
    c.loop-part-test.true c.part-item.is c.in_ok-push_made.ensures (c.loop-part.invariant h k agree) (IfOk-weaker c.class.result _ _ (λ x copied. copied h k agree) c.class.ensures)

pub returns : goal.returns
returns g c = λ h k agree.
    same_maps (maps.map_class h) class_of (maps.map_class k) class_of c.loop-part.copies.items c.args.parts.now
    (all_done (λ x. maps.map_class h (class_of x)) (λ x. maps.map_class k (class_of x)) _ _ c.loop-part.part-index c.loop-part-test.false (c.loop-part.invariant h k agree))
