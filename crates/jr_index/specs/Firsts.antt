-- The first number that has a property.
use Rattle.std.specs.Prelude.{ℕ, ◌<◌, Option, Some, None}

-- none of the first n numbers has the property
abbrev pub NoneBelow : (ℕ → Type 0) → ℕ → Type 0
NoneBelow P n = (i : ℕ) → i < n → P i → ⊥

-- none of the first n numbers has it; or this is the first that has it
abbrev pub IsFirst : (ℕ → Type 0) → ℕ → Option ℕ → Type 0
IsFirst P n None = NoneBelow P n
IsFirst P n (Some j) = (j < n) × P j × NoneBelow P j
