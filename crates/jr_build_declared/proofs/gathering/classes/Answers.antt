use Rattle.std.proofs.Common.{map, refl, Option, None}
use Rattle.jr_ast.specs.View.{class_of}
use Rattle.jr_build_declared.specs.Fitting.{begins_by, ClassFits, ClassesFit}
use Rattle.jr_table.specs.DeclaredItems.{class_declarations, classes_declarations}
use Rattle.jr_build_declared.specs.Gathers.{in_file}
use Rattle.jr_build_declared.proofs.DeclarationLists as lists
use Rattle.jr_build_declared.proofs.gathering.classes.Goals as goal

pub class-requires : goal.class-requires
class-requires g c =
    let B = begins_by g.A.Mark.span_from in
    lists.each_meets (λ xs. ClassesFit B g.A.Mark.fits_at c.args.at.base (map class_of xs)) (λ x. ClassFits B g.A.Mark.fits_at c.args.at.base (class_of x)) (λ x xs h. h)
    c.args.classes.now c.loop-part.part-index c.part-item.result c.loop-part-test.true c.part-item.is c.requires

pub loop-part-preserved : goal.loop-part-preserved
loop-part-preserved g c =
    let B = begins_by g.A.Mark.span_from in
    lists.one_more (λ xs. in_file c.args.at.file (classes_declarations B c.args.at.base (map class_of xs))) (λ x. in_file c.args.at.file (class_declarations B c.args.at.base None (class_of x)))
    (λ x xs. lists.map_join _ (class_declarations B c.args.at.base None (class_of x)) (classes_declarations B c.args.at.base (map class_of xs)))
    _ _ _ c.args.classes.now c.loop-part.part-index c.part-item.result
    c.loop-part-test.true c.part-item.is c.in_ok-class.ensures c.loop-part.invariant

pub returns : goal.returns
returns g c =
    let B = begins_by g.A.Mark.span_from in
    lists.none_left (λ xs. in_file c.args.at.file (classes_declarations B c.args.at.base (map class_of xs))) (λ x. in_file c.args.at.file (class_declarations B c.args.at.base None (class_of x)))
    (λ x xs. lists.map_join _ (class_declarations B c.args.at.base None (class_of x)) (classes_declarations B c.args.at.base (map class_of xs)))
    _ _ c.args.classes.now c.loop-part.part-index c.loop-part-test.false refl c.loop-part.invariant
