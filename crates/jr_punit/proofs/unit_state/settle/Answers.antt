use Rattle.std.proofs.Common.{◌∙◌, sym, subst}
use Rattle.jr_punit_laws.specs.ClassMachine as Classes
use Rattle.jr_punit.specs.ClassView.{class_state}
use Rattle.jr_pstmt.specs.InPlace.{GoesTo}
use Rattle.jr_punit_laws.specs.UnitMachine as machine
use Rattle.jr_punit.specs.UnitView.{classes_view}
use Rattle.jr_punit.proofs.ClassSteps.{settles}
use Rattle.jr_punit.proofs.unit_state.settle.Goals as goal

pub returns-then-is_done : goal.returns-then-is_done
returns-then-is_done c ws =
    let cs = classes_view c.args.classes.now in
    subst (GoesTo c.take_class.result (machine.in_classes ws (classes_view c.take_class.new.classes) (class_state c.take_class.new.class)))
    (sym (settles (machine.in_classes ws cs) (machine.behind_class ws cs) Classes.whole (class_state c.args.class.now) (sym c.is_done.ensures ∙ c.if-is_done.true)))
    (c.take_class.ensures ws)
