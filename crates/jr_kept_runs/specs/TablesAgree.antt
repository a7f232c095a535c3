-- What is asked of a table and the one of the images, for runs to be kept.
use Rattle.std.specs.Prelude.{◌≡◌, ℕ, List, codes}
use Rattle.jr_table.specs.Keys.{ClassKey, FieldKey, MethodKey, CtorKey}
use Rattle.jr_table.specs.Decls.{class_decl, method_decl}
use Rattle.jr_table.specs.Rows.{Row}
use Rattle.jr_table.specs.Prelude.{top_key}
use Rattle.jr_table.specs.Entries.{IsRowOf, entries_of}
use Rattle.jr_table.specs.Chains.{parent_of}
use Rattle.jr_table.specs.Conditions.{AreRows}
use Rattle.jr_table.specs.Keyed.{DispatchesTo}
use Rattle.jr_images.specs.Images.{Renaming, class_to, field_to, method_to, ctor_to, rows_to}

-- an image is its own image
pub record StaysOnce (g : Renaming) : Type 0 where
  pub class : (k : ClassKey) → class_to g (class_to g k) ≡ class_to g k
  pub field : (k : FieldKey) → field_to g (field_to g k) ≡ field_to g k
  pub method : (k : MethodKey) → method_to g (method_to g k) ≡ method_to g k
  pub constructor : (k : CtorKey) → ctor_to g (ctor_to g k) ≡ ctor_to g k

pub record TablesAgree (rows : List Row) (g : Renaming) : Type 0 where
  pub old : AreRows rows
  pub new : AreRows (rows_to g rows)
  pub once : StaysOnce g
  pub string : class_to g (top_key (codes "String")) ≡ top_key (codes "String")
  pub class : class_to g (top_key (codes "Class")) ≡ top_key (codes "Class")
  -- superclasses go by the numbers of rows, which stay
  pub parents : (c : ℕ) → parent_of (entries_of (rows_to g rows)) c ≡ parent_of (entries_of rows) c
  pub forth : (of : ClassKey) (m was : MethodKey) → DispatchesTo rows of m was
      → DispatchesTo (rows_to g rows) (class_to g of) (method_to g m) (method_to g was)
  pub back : (of : ClassKey) (m now : MethodKey) (i j : ℕ) → IsRowOf rows (class_decl of) i
      → IsRowOf rows (method_decl m) j
      → DispatchesTo (rows_to g rows) (class_to g of) (method_to g m) now
      → (was : MethodKey) × DispatchesTo rows of m was
