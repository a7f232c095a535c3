-- How far a way down reaches.
use Rattle.std.specs.Prelude.{ℕ, ◌≤◌, List, length}

-- the path has a step, and no more than this number of steps
abbrev pub IsWithin : ℕ → List ℕ → Type 0
IsWithin reach path = (1 ≤ length path) × (length path ≤ reach)
