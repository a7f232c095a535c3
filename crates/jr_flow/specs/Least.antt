-- The least number of a list of which something holds.
use Rattle.std.specs.Prelude.{ℕ, ◌≤◌, List, Contains, Option, Some, None}

abbrev pub IsLeast : (P : ℕ → Type 0) → (numbers : List ℕ) → Option ℕ → Type 0
IsLeast P numbers None = (n : ℕ) → Contains numbers n → P n → ⊥
IsLeast P numbers (Some least) = Contains numbers least × P least
    × ((n : ℕ) → Contains numbers n → P n → least ≤ n)
