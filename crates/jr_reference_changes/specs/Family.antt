-- The renamed family is complete: which declarations a rename's pairs give the new name.
use Rattle.std.specs.Prelude.{◌≡◌, ◌≢◌, ◌↔◌, ℕ, List, Some, slice_get}
use Rattle.jr_text.specs.declared.spans.Span.{Span}
use Rattle.jr_text.specs.Edits.{Entry}
use Rattle.jr_table.specs.Keys.{MethodKey}
use Rattle.jr_table.specs.Decls.{
  Decl,
  class_decl,
  field_decl,
  method_decl,
  constructor_decl,
  local_decl,
}
use Rattle.jr_table.specs.Rows.{Row}
use Rattle.jr_table.specs.Entries.{IsRowOf, name_of}
use Rattle.jr_table.specs.Keyed.{Overrides}
use Rattle.jr_bind.specs.Programs.{Program}
use Rattle.jr_images.specs.Families.{InFamily, IsRenamedWith}
use Rattle.jr_images.specs.Images.{Renaming, method_to, decl_to, rows_to}
use Rattle.jr_rename_laws.specs.PlanLaws.{IsPlanIn}

-- it has a name of its own and a row: a constructor's name is its class's (JLS 8.8), and a local
-- has no row
abbrev pub HasOwnName : Decl → Type 0
HasOwnName (class_decl k) = Unit {0}
HasOwnName (field_decl k) = Unit {0}
HasOwnName (method_decl k) = Unit {0}
HasOwnName (constructor_decl k) = ⊥
HasOwnName (local_decl k) = ⊥

-- of rows a rename of declaration d to this name, which has these pairs
pub record RenamesFamily (rows : List Row) (g : Renaming) (d : Decl) (new : List ℕ)
    (pairs : List (Decl × Decl)) : Type 0 where
  -- each declaration that is renamed with d, and hasn't the name yet, stands in a pair with one
  -- that has it, which is declared in its place in the new program
  pub whole : (e : Decl) (j : ℕ) → HasOwnName e → IsRenamedWith rows d e → IsRowOf rows e j
      → name_of e ≢ new → (i : ℕ) × (x : Decl) × (slice_get pairs i ≡ Some (e, x))
      × (name_of x ≡ new) × IsRowOf (rows_to g rows) x j
  -- no other gets another name
  pub alone : (i : ℕ) (e x : Decl) → slice_get pairs i ≡ Some (e, x) → name_of x ≢ name_of e
      → IsRenamedWith rows d e × (name_of x ≡ new)
  -- each pair is of a declaration and of its image
  pub images : (i : ℕ) (e x : Decl) → slice_get pairs i ≡ Some (e, x)
      → (x ≡ decl_to g e) × (x ≢ e) × ((j : ℕ) × IsRowOf rows e j)

-- whatever rename is planned
abbrev pub FamiliesAreWhole : Type 0
FamiliesAreWhole = (p : Program Span) (text : List ℕ) (file at : ℕ) (new : List ℕ)
    (edits : List (List Entry)) (renaming : List (Decl × Decl)) (respelled : ℕ)
    → (is : IsPlanIn p text file at new edits renaming respelled)
    → RenamesFamily p.rows is.planned.found.g is.planned.found.target new renaming

-- ---- in the new program

-- methods of these rows override one another, and are connected by overriding, exactly where their
-- images do and are so in the new ones (JLS 8.4.8.1)
pub record KeepsFamilies (rows : List Row) (g : Renaming) (news : List Row) : Type 0 where
  pub overrides : (m n : MethodKey) (j k : ℕ) → IsRowOf rows (method_decl m) j
      → IsRowOf rows (method_decl n) k
      → Overrides rows m n ↔ Overrides news (method_to g m) (method_to g n)
  pub connects : (m n : MethodKey) (j k : ℕ) → IsRowOf rows (method_decl m) j
      → IsRowOf rows (method_decl n) k
      → InFamily rows m n ↔ InFamily news (method_to g m) (method_to g n)

-- whatever rename is planned
abbrev pub FamiliesAreKept : Type 0
FamiliesAreKept = (p : Program Span) (text : List ℕ) (file at : ℕ) (new : List ℕ)
    (edits : List (List Entry)) (renaming : List (Decl × Decl)) (respelled : ℕ)
    → (is : IsPlanIn p text file at new edits renaming respelled)
    → KeepsFamilies p.rows is.planned.found.g (rows_to is.planned.found.g p.rows)
