use Rattle.std.proofs.Common.{◌≡◌, ◌∙◌, [], Some, sym, ap, map}
use Rattle.jr_ast.specs.View.{word_of, class_of}
use Rattle.jr_pexpr.specs.Marked.{join}
use Rattle.jr_pexpr.specs.TokenView.{token_view}
use Rattle.jr_punit.specs.ClassView.{class_state}
use Rattle.jr_punit_laws.specs.UnitMachine as machine
use Rattle.jr_punit.specs.UnitView.{classes_view}
use Rattle.jr_pstmt.proofs.InPlace.{went, stayed}
use Rattle.jr_punit.proofs.unit_state.first_class.Goals as goal

pub returns-then-goes_on : goal.returns-then-goes_on
returns-then-goes_on c =
    ap (λ xs. Some (machine.in_classes (map word_of xs) (classes_view c.class_on.new.classes) (class_state c.class_on.new.class))) c.new.ensures.items
    ∙ sym (went c.in-Ok.goes_on _ _ (c.in-Ok.ensures []) c.if-goes_on.true)
    ∙ (λ i. machine.from_classes join [] (map class_of (c.new-classes.ensures.items i)) (c.new-class.ensures i) c.args.at (token_view c.args.token))

pub returns-else-goes_on : goal.returns-else-goes_on
returns-else-goes_on c =
    sym (stayed c.in-Ok.goes_on _ _ (c.in-Ok.ensures []) c.if-goes_on.false)
    ∙ (λ i. machine.from_classes join [] (map class_of (c.new-classes.ensures.items i)) (c.new-class.ensures i) c.args.at (token_view c.args.token))
