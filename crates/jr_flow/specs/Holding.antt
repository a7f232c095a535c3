-- Rows that have the bits of numbers or of edges, and no other.
use Rattle.std.specs.Prelude.{ℕ, ◌/◌, ◌<◌, List, Contains}
use Rattle.jr_flow.specs.Edges.{EdgeOf}
use Rattle.jr_flow.specs.Rows.{Has}

-- The first row has the bits of these numbers.
pub record HoldsNumbers (width : ℕ) (numbers words : List ℕ) : Type 0 where
  pub has : (n : ℕ) → n / 64 < width → Contains numbers n → Has words width 0 n
  pub only : (n : ℕ) → n / 64 < width → Has words width 0 n → Contains numbers n

-- Each row has the bits of the edges out of its node, but for those that lead to a stop: a number
-- that a first row has.
pub record HoldsEdges (width : ℕ) (stops : List ℕ) (edges : List (ℕ × ℕ)) (words : List ℕ)
    : Type 0 where
  pub has : (a b : ℕ) → EdgeOf edges a b → (Has stops width 0 b → ⊥) → Has words width a b
  pub only : (a b : ℕ) → b / 64 < width → Has words width a b
      → EdgeOf edges a b × (Has stops width 0 b → ⊥)
