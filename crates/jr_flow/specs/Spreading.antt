-- A search: what the last row of rows reaches through the other rows. Nodes that are stops are not
-- passed.
use Rattle.std.specs.Prelude.{◌≡◌, ◌⊎◌, ℕ, ◌/◌, ◌<◌, ◌↔◌, List}
use Rattle.jr_flow.specs.Rows.{Has}

-- A node is reached: the last row has it, or the row of a reached node has it that is no stop.
pub data Spread (width last : ℕ) (stops rows : List ℕ) : ℕ → Type 0 where
  at_once : (c : ℕ) → Has rows width last c → Spread width last stops rows c
  onward : (b c : ℕ) → b / 64 < width → (Has stops width 0 b → ⊥)
      → Spread width last stops rows b → Has rows width b c → Spread width last stops rows c

-- The last row has got nothing but what is reached, and all that is in the rows of the nodes that
-- were merged. The other rows are as before.
pub record Spreads (width last : ℕ) (stops : List ℕ) (Merged : ℕ → Type 0) (old new : List ℕ)
    : Type 0 where
  pub others : (a c : ℕ) → (a ≡ last → ⊥) → c / 64 < width → Has new width a c
      → Has old width a c
  pub found : (c : ℕ) → c / 64 < width → Has new width last c → Spread width last stops old c
  pub kept : (a c : ℕ) → Has old width a c → Has new width a c
  pub merged : (b c : ℕ) → Merged b → b / 64 < width → (Has stops width 0 b → ⊥)
      → Has old width last b → Has old width b c → c / 64 < width → Has new width last c

-- The last row says exactly what is reached.
abbrev pub Searches : (width last : ℕ) (stops old new : List ℕ) → Type 0
Searches width last stops old new = (c : ℕ) → c / 64 < width
    → (Has new width last c ↔ Spread width last stops old c)

-- The last row has also got the bits of the row of a node, if there is such a row.
pub record Starts (width last from : ℕ) (old new : List ℕ) : Type 0 where
  pub others : (a c : ℕ) → (a ≡ last → ⊥) → c / 64 < width → Has new width a c
      → Has old width a c
  pub kept : (a c : ℕ) → Has old width a c → Has new width a c
  pub only : (c : ℕ) → c / 64 < width → Has new width last c
      → Has old width last c ⊎ Has old width from c
  pub has : (c : ℕ) → c / 64 < width → from / 64 < width → Has old width from c
      → Has new width last c
