-- A log of stores, as its callers see it.
use Rattle.std.specs.Prelude.{ℕ, List}

pub record LogState : Type 0 where
  -- the names and bytes that were stored, the newest first
  pub entries : List (List ℕ × List ℕ)
  -- how many bytes there is room for
  pub room : ℕ
