-- The first row with which a new name collides, and what is answered of a class.
use Rattle.std.specs.Prelude.{◌≡◌, ◌⊎◌, ℕ, List, Option, Some, None, codes}
use Rattle.jr_table.specs.Keys.{ClassKey}
use Rattle.jr_table.specs.Decls.{
  Decl,
  class_decl,
  field_decl,
  method_decl,
  constructor_decl,
  local_decl,
}
use Rattle.jr_table.specs.Rows.{Row}
use Rattle.jr_table.specs.Entries.{IsRowOf}
use Rattle.jr_table.specs.Prelude.{top_key}
use Rattle.jr_images.specs.Clashes.{ClassClashes}
use Rattle.jr_rename.specs.RowClashes.{IsFirstRow, NoRowHas}

-- the declaration of the first row that has the property, or none has it
abbrev pub IsFirstOf : List Row → (Has : Decl → Type 0) → Option Decl → Type 0
IsFirstOf rows Has None = NoRowHas rows Has
IsFirstOf rows Has (Some d) = IsFirstRow rows Has d

-- the name of the prelude's that no class has, where the new name is that one
abbrev pub IsReservedHere : List Row → (new : List ℕ) → Decl → Type 0
IsReservedHere rows new d = (d ≡ class_decl (top_key (codes "Runnable")))
    × (new ≡ codes "Runnable") × ((n : ℕ) → IsRowOf rows d n → ⊥)

-- it comes before all rows
abbrev pub TellsClass : List Row → ClassKey → (new : List ℕ) → Option Decl → Type 0
TellsClass rows k new None = ((d : Decl) → IsReservedHere rows new d → ⊥)
    × NoRowHas rows (ClassClashes k new)
TellsClass rows k new (Some d) = IsReservedHere rows new d
    ⊎ (((e : Decl) → IsReservedHere rows new e → ⊥) × IsFirstRow rows (ClassClashes k new) d)

-- a field, method or constructor
abbrev pub IsOfMember : Decl → Type 0
IsOfMember (class_decl k) = ⊥
IsOfMember (field_decl k) = Unit {0}
IsOfMember (method_decl k) = Unit {0}
IsOfMember (constructor_decl k) = Unit {0}
IsOfMember (local_decl k) = ⊥
