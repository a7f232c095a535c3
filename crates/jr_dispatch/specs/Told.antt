-- What of a method's new name is told: that the prelude's methods would change.
use Rattle.std.specs.Prelude.{◌≡◌, ℕ, List, Option, Some, None, Bool, false, nat_lt, ◌⊎◌}
use Rattle.jr_table.specs.Decls.{
  Decl,
  class_decl,
  field_decl,
  method_decl,
  constructor_decl,
  local_decl,
}
use Rattle.jr_table.specs.Rows.{Row}
use Rattle.jr_table.specs.Entries.{number_of}
use Rattle.jr_table.specs.ExpressionRules.{IsObjectMethod}
use Rattle.jr_names.specs.DeclTexts.{decl_text}
use Rattle.jr_images.specs.Targets.{IsOfPrelude}
use Rattle.jr_images.specs.Families.{Among}
use Rattle.jr_images.specs.Refusals.{IsMethod}

-- one of these is a method of the prelude
pub record HasPrelude (rows : List Row) (decls : List Decl) (text : List ℕ) : Type 0 where
  pub decl : Decl
  pub among : Among decls decl
  pub method : IsMethod decl
  pub of_prelude : IsOfPrelude rows decl
  pub told : text ≡ decl_text decl

-- or else a method is to get the name of one of Object's
abbrev pub IsTold : List Row → List Decl → (new text : List ℕ) → Type 0
IsTold rows decls new text = HasPrelude rows decls text
    ⊎ (((other : List ℕ) → HasPrelude rows decls other → ⊥) × IsObjectMethod new × (text ≡ new))

-- exact

-- a number of the prelude's rows
abbrev pub is_early : Option ℕ → Bool
is_early None = false
is_early (Some n) = nat_lt n 8

abbrev pub is_prelude_method : List Row → Decl → Bool
is_prelude_method rows (method_decl k) = is_early (number_of rows (method_decl k))
is_prelude_method rows (class_decl k) = false
is_prelude_method rows (field_decl k) = false
is_prelude_method rows (constructor_decl k) = false
is_prelude_method rows (local_decl k) = false
