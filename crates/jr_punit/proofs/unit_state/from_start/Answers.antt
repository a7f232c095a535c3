use Rattle.std.proofs.Common.{◌∙◌, sym, ap, subst, Some, map}
use Rattle.jr_ast.specs.View.{word_of}
use Rattle.jr_pexpr.specs.Marked.{join}
use Rattle.jr_pexpr.specs.TokenView.{token_view}
use Rattle.jr_pstmt.specs.Cues.{cue_of}
use Rattle.jr_punit_laws.specs.UnitMachine as machine
use Rattle.jr_punit.specs.UnitView.{IsNextUnit}
use Rattle.jr_punit.proofs.ClassSteps.{package_is, no_package}
use Rattle.jr_punit.proofs.unit_state.from_start.Goals as goal

pub returns-then-is_package : goal.returns-then-is_package
returns-then-is_package c =
    ap (λ xs. Some (machine.in_package (map word_of xs))) c.new.ensures.items
    ∙ sym (ap (machine.from_start join c.args.at (token_view c.args.token)) (package_is (cue_of (token_view c.args.token)) (sym c.is_package.ensures ∙ c.if-is_package.true)))

pub returns-else-is_package : goal.returns-else-is_package
returns-else-is_package c =
    subst (IsNextUnit c.first_class.result)
    (sym (no_package join c.args.at (token_view c.args.token) (cue_of (token_view c.args.token)) (sym c.is_package.ensures ∙ c.if-is_package.false)))
    c.first_class.ensures
