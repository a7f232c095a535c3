use Rattle.std.proofs.Common.{◌≡◌, List, [], ◌∷◌, ◌++◌, map, cond, subst, sym, ap, ◌∙◌}
use Rattle.std.specs.Prelude.{is_ok}
use Rattle.jr_text.specs.declared.spans.Span.{Span}
use Rattle.jr_ast.specs.declared.members.Unit.{Unit}
use Rattle.jr_ast.specs.View.{unit_of}
use Rattle.jr_build_rows.specs.Heads.{UnitsHeads}
use Rattle.jr_reading_tests.proofs.Heads.{units_pushed}
use Rattle.jr_reading_tests.proofs.building.units_in.Goals as goal

pub loop-text-init : goal.loop-text-init
loop-text-init g c = subst (λ (us : List (Unit Span)). UnitsHeads (map unit_of us)) (sym c.new-units.ensures.items) tt

pub loop-text-preserved : goal.loop-text-preserved
loop-text-preserved g c =
    let old = c.loop-text.units.items in
    let unit = c.unit_in.result in
    let pushed : c.push.new.self.items ≡ old ++ unit ∷ [] = c.push.ensures.items ∙ ap (λ r. cond (is_ok r) (old ++ unit ∷ []) old) c.expect.ensures in
    subst (λ (us : List (Unit Span)). UnitsHeads (map unit_of us)) (sym pushed) (units_pushed old unit c.loop-text.invariant c.unit_in.ensures)

pub returns : goal.returns
returns g c = c.loop-text.invariant
