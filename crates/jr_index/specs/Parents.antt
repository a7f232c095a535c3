-- Ways upwards among numbers, each of which has a parent or none.
use Rattle.std.specs.Prelude.{
  ◌≡◌,
  ℕ,
  zero,
  suc,
  ◌<◌,
  List,
  Option,
  Some,
  slice_get,
  option_and_then,
}

-- the parent of j
abbrev pub next : List (Option ℕ) → ℕ → Option ℕ
next parents j = option_and_then (λ p. p) (slice_get parents j)

-- each parent is one of the first n numbers
abbrev pub AreWithin : List (Option ℕ) → ℕ → Type 0
AreWithin parents n = (j p : ℕ) → next parents j ≡ Some p → p < n

-- so many steps upwards
unfoldable pub up : (steps : ℕ) → List (Option ℕ) → ℕ → Option ℕ
up zero parents j = Some j
up (suc steps) parents j = option_and_then (up steps parents) (next parents j)

-- the way up from j comes to k
abbrev pub Leads : List (Option ℕ) → ℕ → ℕ → Type 0
Leads parents j k = (steps : ℕ) × (up steps parents j ≡ Some k)

-- the way up from j comes back: j is on a cycle
abbrev pub Returns : List (Option ℕ) → ℕ → Type 0
Returns parents j = (steps : ℕ) × (up (suc steps) parents j ≡ Some j)

-- what the way up from one of the first n numbers ever comes to, it comes to in fewer than n steps
abbrev pub ComesEarly : List (Option ℕ) → ℕ → Type 0
ComesEarly parents n = (steps j k : ℕ) → j < n → up steps parents j ≡ Some k → (s : ℕ) × (s < n)
    × (up s parents j ≡ Some k)
