-- Places of a program at which each type is of a class that it declares.
use Rattle.std.specs.Prelude.{◌≡◌, ℕ, List, Some, slice_get}
use Rattle.jr_table.specs.Keys.{ClassKey, Ty, class}
use Rattle.jr_table.specs.Decls.{class_decl}
use Rattle.jr_table.specs.Rows.{Row}
use Rattle.jr_table.specs.Entries.{IsRowOf, class_of_member}
use Rattle.jr_table.specs.Context.{Context, Local, known}

-- if it is a class, that class has a row
abbrev pub IsKnown : List Row → Ty → Type 0
IsKnown rows t = (k : ClassKey) → t ≡ class k → (j : ℕ) × IsRowOf rows (class_decl k) j

-- A place of a program: its class has a row, and so has each class that is a parameter's type.
pub record IsPlace (rows : List Row) (c : Context) : Type 0 where
  pub class : (j : ℕ) × IsRowOf rows (class_decl (class_of_member c.member)) j
  pub locals : (i : ℕ) (l : Local) → slice_get c.locals i ≡ Some l → (t : Ty)
      → l.type ≡ known t → IsKnown rows t
