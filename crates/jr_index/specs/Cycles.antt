-- Which numbers are on a cycle; and, exact, what is known of cycles after the numbers below one
-- were looked at.
use Rattle.std.specs.Prelude.{
  ◌≡◌,
  ◌≢◌,
  ℕ,
  ◌+◌,
  ◌*◌,
  ◌%◌,
  ◌==◌,
  ◌<◌,
  ◌≤◌,
  List,
  Bool,
  true,
  false,
  Option,
  Some,
  length,
  slice_get,
}
use Rattle.std.specs.Option.{MatchOption}
use Rattle.jr_index.specs.Parents.{next, Returns}

-- marks are stamps, 0 where no walk has been; first is the least class so far that is on a cycle
pub record AreMarked (parents : List (Option ℕ)) (start : ℕ) (marks : List ℕ) (first : Option ℕ) :
    Type 0 where
  pub stamps : (j m : ℕ) → slice_get marks j ≡ Some m → m < 2 * start + 1
  pub closed : (j p : ℕ) → slice_get marks j ≢ Some 0 → next parents j ≡ Some p →
      slice_get marks p ≢ Some 0
  pub done : (j : ℕ) → j < start → slice_get marks j ≢ Some 0
  pub covered : (j : ℕ) → slice_get marks j ≢ Some 0 → j < length marks → Returns parents j →
      MatchOption first ⊥ (λ f. f ≤ j)
  -- even marks are those of cycles
  pub even : (j k : ℕ) → slice_get marks j ≡ Some (2 * k + 2) → Returns parents j
  pub odd : (j k : ℕ) → slice_get marks j ≡ Some (2 * k + 1) → Returns parents j → ⊥
  pub sound : MatchOption first (Unit {0}) (λ f. (f < length marks) × Returns parents f)

-- a mark of a cycle
abbrev pub is_even : ℕ → Bool
is_even m = (m % 2) == 0

-- which numbers are on a cycle
pub record AreOnCycle (parents : List (Option ℕ)) (on : List Bool) : Type 0 where
  pub size : length on ≡ length parents
  pub each : (j : ℕ) → slice_get on j ≡ Some true → Returns parents j
  pub none : (j : ℕ) → slice_get on j ≡ Some false → Returns parents j → ⊥
