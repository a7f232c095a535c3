-- The edges of a graph as a list.
use Rattle.std.specs.Prelude.{ℕ, ◌<◌, List, Contains, All}

abbrev pub EdgeOf : List (ℕ × ℕ) → ℕ → ℕ → Type 0
EdgeOf edges a b = Contains edges (a, b)

-- each edge leads from a node to a node
abbrev pub AreBelow : (size : ℕ) → List (ℕ × ℕ) → Type 0
AreBelow size edges = All (λ (e : ℕ × ℕ). (e.0 < size) × (e.1 < size)) edges
