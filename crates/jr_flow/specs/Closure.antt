-- Rows that are closed under steps, which are rows too: where a step leads from a to b, the row of
-- a has the bits of the row of b.
use Rattle.std.specs.Prelude.{ℕ, ◌/◌, ◌<◌, ◌↔◌, List}
use Rattle.jr_flow.specs.Rows.{Has}

-- what the rows say with steps in front
pub data Derived (width : ℕ) (steps rows : List ℕ) : ℕ → ℕ → Type 0 where
  at_once : (a c : ℕ) → Has rows width a c → Derived width steps rows a c
  onward : (a b c : ℕ) → b / 64 < width → Has steps width a b → Derived width steps rows b c
      → Derived width steps rows a c

-- Rows have got nothing but what steps lead to, and all that those steps lead to that are merged.
pub record Extends (width : ℕ) (steps : List ℕ) (Merged : ℕ → ℕ → Type 0) (old new : List ℕ)
    : Type 0 where
  pub derived : (a c : ℕ) → c / 64 < width → Has new width a c → Derived width steps old a c
  pub kept : (a c : ℕ) → Has old width a c → Has new width a c
  pub merged : (a b c : ℕ) → Merged a b → b / 64 < width → Has steps width a b → c / 64 < width
      → Has old width b c → Has new width a c

-- The new rows say exactly what the old ones say with steps in front.
abbrev pub Closes : (width : ℕ) (steps old new : List ℕ) → Type 0
Closes width steps old new = (a c : ℕ) → a / 64 < width → c / 64 < width
    → (Has new width a c ↔ Derived width steps old a c)
