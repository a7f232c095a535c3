use Rattle.std.proofs.Common.{◌≡◌, List, [], ◌∷◌, ◌++◌, map, cond, subst, sym, ap, ◌∙◌}
use Rattle.std.specs.Prelude.{is_ok}
use Rattle.jr_text.specs.declared.spans.Span.{Span}
use Rattle.jr_ast.specs.declared.members.Unit.{Unit}
use Rattle.jr_ast.specs.View.{unit_of}
use Rattle.jr_build_rows.specs.Heads.{UnitsHeads}
use Rattle.jr_sources.proofs.Heads.{classes_heads}
use Rattle.jr_reading_tests.proofs.members.units_in.Goals as goal

pub returns-clause-heads : goal.returns-clause-heads
returns-clause-heads g c =
    let old = c.new-units.result.items in
    let unit = c.unit_in-unit.result in
    let pushed : c.push.new.self.items ≡ old ++ unit ∷ [] = c.push.ensures.items ∙ ap (λ r. cond (is_ok r) (old ++ unit ∷ []) old) c.expect.ensures in
    let one : c.push.new.self.items ≡ unit ∷ [] = pushed ∙ ap (λ (us : List (Unit Span)). us ++ unit ∷ []) c.new-units.ensures.items in
    subst (λ (us : List (Unit Span)). UnitsHeads (map unit_of us)) (sym one) (classes_heads (unit_of unit).classes c.unit_in-unit.ensures.2.shaped, tt)
