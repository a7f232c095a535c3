-- How what is declared with a type stands in front of a dot: a value, where the type is a class of
-- the program.
use Rattle.std.specs.Prelude.{◌≡◌, ℕ, List, Option, Some, None}
use Rattle.jr_table.specs.Keys.{ClassKey, Ty, int, boolean, void, null, class}
use Rattle.jr_table.specs.Decls.{
  Decl,
  class_decl,
  field_decl,
  method_decl,
  constructor_decl,
  local_decl,
}
use Rattle.jr_table.specs.Rows.{Row}
use Rattle.jr_table.specs.Entries.{IsRowOf}
use Rattle.jr_table.specs.Found.{Found, one}
use Rattle.jr_table.specs.Lookup.{FindsTypeNamed, FindsTypeOf}
use Rattle.jr_table.specs.Context.{Context, scope_of}
use Rattle.jr_table.specs.Binding.{FindsIn}
use Rattle.jr_images.specs.Words.{InFront, class_name, value_of, neither}
use Rattle.jr_new_words.specs.Mappings.{Mapping, class_to}

-- of this type
abbrev pub of_type : Option Ty → InFront
of_type None = neither
of_type (Some int) = neither
of_type (Some boolean) = neither
of_type (Some void) = neither
of_type (Some null) = neither
of_type (Some (class k)) = value_of k

-- of the declared class
abbrev pub of_decl : Option Decl → InFront
of_decl None = neither
of_decl (Some (class_decl k)) = value_of k
of_decl (Some (field_decl k)) = neither
of_decl (Some (method_decl k)) = neither
of_decl (Some (constructor_decl k)) = neither
of_decl (Some (local_decl k)) = neither

-- of the image of the class that has the property, where it has a row
abbrev pub IsValue : List Row → Mapping → (Has : ClassKey → Type 0) → InFront → Type 0
IsValue rows g Has (class_name b) = ⊥
IsValue rows g Has (value_of b) =
    (t : ClassKey) × (j : ℕ) × Has t × IsRowOf rows (class_decl t) j × (b ≡ class_to g t)
IsValue rows g Has neither =
    (t : ClassKey) (j : ℕ) → Has t → IsRowOf rows (class_decl t) j → ⊥

-- what a written type finds
abbrev pub WritesFound : List Row → Context → Option (List ℕ) → List ℕ → Found → Type 0
WritesFound rows c None name f = FindsTypeNamed rows (scope_of c) name f
WritesFound rows c (Some outer) name f =
    FindsIn (λ k. FindsTypeNamed rows (scope_of c) outer (one (class_decl k)))
    (λ k x. FindsTypeOf rows (scope_of c) k name x) f
