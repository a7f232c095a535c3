-- What names do, by what they mean.
use Rattle.std.proofs.Common.{◌≡◌, ℕ, Bool, true, false, ◌&&◌, List, ◌++◌, Option, Some, is_none, refl, sym, ap, ◌∙◌}
use Rattle.jr_code.specs.RunKeys.{RunKeys}
use Rattle.jr_table.specs.Keys.{FieldKey}
use Rattle.jr_table.specs.Rows.{Row}
use Rattle.jr_cover.specs.Facts.{Variable}
use Rattle.jr_cover.specs.Facts as facts
use Rattle.jr_cover.specs.Ways.{Way}
use Rattle.jr_cover.specs.Sites.{Site}
use Rattle.jr_expr_sites.specs.Steps.{steps_of}
use Rattle.jr_expr_sites.specs.StepView.{steps_in}
use Rattle.jr_expr_sites.specs.Meanings.{Meaning, local, field, class, nothing, variable_of, field_variable, is_class}
use Rattle.jr_expr_sites.specs.KnownFacts.{Given, meaning_at}
use Rattle.jr_expr_sites.specs.Routes.{Steps}

-- a static field and one of objects are alike
pub field_is : (R : Option (Variable RunKeys) → Way (Site RunKeys)) (w : Way (Site RunKeys)) (b : Bool) (k : FieldKey) → w ≡ R (Some (facts.is_static_field k)) → w ≡ R (Some (facts.is_instance_field k)) → w ≡ R (Some (field_variable b k))
field_is R w true k e f = e
field_is R w false k e f = f

-- the way of what is known by a name's meaning
pub via : (g : Given) (at : ℕ) (R : Option (Variable RunKeys) → Way (Site RunKeys)) (m : Meaning) (w : Way (Site RunKeys)) (old new : Steps) → meaning_at g at ≡ m → w ≡ R (variable_of g.rows m)
    → steps_in g.member new ≡ steps_in g.member old ++ steps_of w → steps_in g.member new ≡ steps_in g.member old ++ steps_of (R (variable_of g.rows (meaning_at g at)))
via g at R m w old new e f h =
    h ∙ ap (λ (v : Way (Site RunKeys)). steps_in g.member old ++ steps_of v) (f ∙ ap (λ (n : Meaning). R (variable_of g.rows n)) (sym e))

-- what means a class is no variable
pub class_only : (rows : List Row) (m : Meaning) → is_none (variable_of rows m) && is_class m ≡ is_class m
class_only rows (local n) = refl
class_only rows (field k) = refl
class_only rows class = refl
class_only rows nothing = refl
