-- Tests of clashes among rows, and the first row that has a property.
use Rattle.std.specs.Prelude.{ℕ, ◌≤◌, List, Option, Some, None, Bool, false, ◌&&◌, not, nat_eq}
use Rattle.std.specs.Cmp.Lexicographic.{pointwise}
use Rattle.std.specs.List.{list_any}
use Rattle.std.specs.Option.{option_eq}
use Rattle.jr_table.specs.Keys.{ClassKey}
use Rattle.jr_table.specs.Decls.{Decl, class_decl, field_decl, method_decl}
use Rattle.jr_table.specs.SameKeys.{same_name, same_class, same_types}
use Rattle.jr_table.specs.Rows.{Row}
use Rattle.jr_table.specs.Entries.{IsRowOf}
use Rattle.jr_images.specs.Families.{Among}
use Rattle.jr_images.specs.Clashes.{TakesPlace}

-- ---- tests

abbrev pub has_none : Option (List ℕ) → Bool
has_none o = option_eq (pointwise nat_eq) None o

abbrev pub is_outer : Option (List ℕ) → List ℕ → Bool
is_outer o name = option_eq (pointwise nat_eq) o (Some name)

abbrev pub is_member_class : ClassKey → (of : ClassKey) → (name : List ℕ) → Bool
is_member_class o of name = has_none of.outer && (same_name o.name name && is_outer o.outer of.name)

-- where `Clashes: TakesPlace` holds
abbrev pub takes_place : (renamed : Decl) → (new : List ℕ) → Decl → Bool
takes_place (field_decl f) new (field_decl o) = same_name o.name new && same_class o.class f.class
takes_place (field_decl f) new (class_decl o) = is_member_class o f.class new
takes_place (method_decl m) new (method_decl o) =
    same_name o.name new && same_class o.class m.class && same_types o.params m.params
takes_place (method_decl m) new (class_decl o) = is_member_class o m.class new
takes_place _ new _ = false

-- a declaration has the name; a constructor and a local have none
abbrev pub is_named : Decl → List ℕ → Bool
is_named (class_decl k) name = same_name k.name name
is_named (field_decl f) name = same_name f.name name
is_named (method_decl m) name = same_name m.name name
is_named _ name = false

-- one of the renamed declarations takes the place of this one
unfoldable pub one_takes_place : (renamed : List Decl) → (new : List ℕ) → Decl → Bool
one_takes_place renamed new d = list_any (λ r. takes_place r new d) renamed

abbrev pub is_within : (k of : ClassKey) → Bool
is_within k of = is_outer k.outer of.name && has_none of.outer

-- where `Clashes: ClassClashes` holds
abbrev pub class_clashes : ClassKey → (new : List ℕ) → Decl → Bool
class_clashes k new (class_decl o) = same_name o.name new && not (same_class o k)
class_clashes k new (field_decl f) = same_name f.name new && is_within k f.class
class_clashes k new (method_decl m) = same_name m.name new && is_within k m.class
class_clashes k new _ = false

-- ---- rows

-- the same, as a relation
abbrev pub OneTakesPlace : (renamed : List Decl) → (new : List ℕ) → Decl → Type 0
OneTakesPlace renamed new d = (r : Decl) × Among renamed r × TakesPlace r new d

-- the declaration of the first row that has the property
pub record IsFirstRow (rows : List Row) (Has : Decl → Type 0) (d : Decl) : Type 0 where
  pub number : ℕ
  pub stands : IsRowOf rows d number
  pub has : Has d
  pub first : (e : Decl) (n : ℕ) → IsRowOf rows e n → Has e → number ≤ n

abbrev pub NoRowHas : List Row → (Has : Decl → Type 0) → Type 0
NoRowHas rows Has = (d : Decl) (n : ℕ) → IsRowOf rows d n → Has d → ⊥
