-- Exact: the references of a log that are bound, with places counted from a first byte.
use Rattle.std.specs.Prelude.{
  ◌≡◌,
  ℕ,
  ◌-◌,
  List,
  [],
  ◌∷◌,
  ◌++◌,
  Option,
  Some,
  None,
  nat_lt,
  if◌then◌else◌,
}
use Rattle.std.specs.List.Sorted.{IsPermutation}
use Rattle.jr_table.specs.Decls.{MemberKey, Decl}
use Rattle.jr_table.specs.Notes.{Note, refers, breaks}
use Rattle.jr_table.specs.ErrorLists.{errors_of_log}
use Rattle.jr_expr_types.specs.Slots.{Slot}
use Rattle.jr_bind.specs.Bounds.{Reference, Bound}

-- No reference stands before the first byte of a member; one that would is left out.
abbrev pub reference_at : (start at : ℕ) → Decl → List Reference
reference_at start at d = if nat_lt at start then [] else record { at = at - start; decl = d } ∷ []

abbrev pub found_references : (start at : ℕ) → Option Decl → List Reference
found_references start at None = []
found_references start at (Some d) = reference_at start at d

abbrev pub note_references : (start : ℕ) → Note → List Reference
note_references start (refers at d) = reference_at start at d
note_references start (breaks at r) = []

abbrev pub references_in : (start : ℕ) → List Note → List Reference
references_in start [] = []
references_in start (n ∷ ns) = note_references start n ++ references_in start ns

-- what such a log tells of a member that begins there, with the types that these slots hold
pub record IsBoundOfLog (k : MemberKey) (start : ℕ) (log : List Note) (slots : List Slot)
    (b : Bound) : Type 0 where
  pub member : b.member ≡ k
  pub references : IsPermutation (references_in start log) b.references
  pub errors : b.errors ≡ errors_of_log start log
  pub types : b.types ≡ slots
