-- Places by number.
use Rattle.std.specs.Prelude.{◌≡◌, ℕ, Option, Some, nat_eq, ◌==◌, if◌then◌else◌}
use Rattle.std.specs.HashMap.{get}
use Rattle.jr_scopes.specs.declared.numbers.Numbers.{Numbers}

-- the place under the number, if there is one
abbrev pub placed : Numbers → ℕ → Option ℕ
placed t n = get nat_eq t.places n

-- new has this place under the number, and the others as they were
abbrev pub PutsPlace : Numbers → ℕ → ℕ → Numbers → Type 0
PutsPlace old number place new =
    (n : ℕ) → placed new n ≡ (if number == n then Some place else placed old n)
