-- What a walk upwards has done to the marks: exact.
use Rattle.std.specs.Prelude.{◌≡◌, ◌≢◌, ℕ, ◌<◌, ◌≤◌, ◌⊎◌, List, Option, Some, None, slice_get}
use Rattle.std.specs.Option.{MatchOption}
use Rattle.jr_index.specs.Parents.{up}

-- class x is passed in a walk upwards: it was free, and is stamped
pub record IsPassed (parents : List (Option ℕ)) (from free stamp : ℕ) (old new : List ℕ) (low s : ℕ)
    : Type 0 where
  pub class : ℕ
  pub reached : up s parents from ≡ Some class
  pub was_free : slice_get old class ≡ Some free
  pub stamped : slice_get new class ≡ Some stamp
  pub least : low ≤ class

-- a walk upwards passes the classes of the first steps, and stops at the top or at a class that
-- isn't free
pub record Walked (parents : List (Option ℕ)) (from free stamp : ℕ) (old new : List ℕ)
    (met : Option ℕ) (low : ℕ) : Type 0 where
  pub steps : ℕ
  pub passes : (s : ℕ) → s < steps → IsPassed parents from free stamp old new low s
  pub others : (x : ℕ) → (slice_get new x ≡ slice_get old x)
      ⊎ ((s : ℕ) × (s < steps) × (up s parents from ≡ Some x))
  pub ends : MatchOption met (up steps parents from ≡ None) (λ c. (up steps parents from ≡ Some c)
      × (slice_get new c ≢ Some free))
  pub least : 0 < steps → (s : ℕ) × (s < steps) × (up s parents from ≡ Some low)
