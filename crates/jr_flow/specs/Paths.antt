-- Paths of a graph, whose edges are a relation on the numbers of its nodes.
use Rattle.std.specs.Prelude.{ℕ}

-- a path of at least one edge on which no stop stands strictly between
pub data PathBetween (E : ℕ → ℕ → Type 0) (Stops : ℕ → Type 0) : ℕ → ℕ → Type 0 where
  edge : (a b : ℕ) → E a b → PathBetween E Stops a b
  onward : (a b c : ℕ) → E a b → (Stops b → ⊥) → PathBetween E Stops b c → PathBetween E Stops a c

-- a path of at least one edge
abbrev pub Path : (E : ℕ → ℕ → Type 0) → ℕ → ℕ → Type 0
Path E = PathBetween E (λ n. ⊥)
