-- Names that rows have in one program and not in the other.
use Rattle.std.specs.Prelude.{
  ◌≡◌,
  ◌≢◌,
  ℕ,
  ◌<◌,
  List,
  Option,
  Some,
  None,
  Bool,
  false,
  ◌&&◌,
  ◌||◌,
  slice_get,
}
use Rattle.std.specs.List.{list_any}
use Rattle.std.specs.Str.{bytes_eq}
use Rattle.jr_table.specs.declared.entries.Entry.{Entry}
use Rattle.jr_table.specs.Chains.{In}

-- row i has the name
pub record IsNamed (rows : List Entry) (name : List ℕ) (i : ℕ) : Type 0 where
  pub row : Entry
  pub stands : slice_get rows i ≡ Some row
  pub named : row.name ≡ name

-- row i has the one name in the old program, the other in the new one
pub record GoesFrom (old new : List Entry) (was now : List ℕ) (i : ℕ) : Type 0 where
  pub before : IsNamed old was i
  pub after : IsNamed new now i

-- of each row before n whose name changes one of these rows has both names
abbrev pub AreMoves : (old new : List Entry) → (n : ℕ) → List ℕ → Type 0
AreMoves old new n numbers = (j : ℕ) (was now : List ℕ) → j < n → GoesFrom old new was now j
    → was ≢ now → (i : ℕ) × In numbers i × GoesFrom old new was now i

-- exact

abbrev pub has_name : List ℕ → Option Entry → Bool
has_name name None = false
has_name name (Some e) = bytes_eq e.name name

abbrev pub is_named : List Entry → List ℕ → ℕ → Bool
is_named rows name i = has_name name (slice_get rows i)

abbrev pub goes_from : (old new : List Entry) → (was now : List ℕ) → ℕ → Bool
goes_from old new was now i = is_named old was i && is_named new now i

-- the row has the name in one of the programs
abbrev pub is_either : (old new : List Entry) → List ℕ → ℕ → Bool
is_either old new name i = is_named old name i || is_named new name i

-- one of these rows has it
abbrev pub is_asked : (old new : List Entry) → List ℕ → (name : List ℕ) → Bool
is_asked old new numbers name = list_any (is_either old new name) numbers
