-- A piece of a way, and how many sites of the way stand in front of it.
use Rattle.std.specs.Prelude.{◌≡◌, ℕ, suc, ◌+◌, List, ◌++◌, length}
use Rattle.jr_cover.specs.Ways.{Way, row, fork, turns, inside, sites_of, size}

-- The piece stands in the way behind so many of its sites.
pub data Within {S : Type 0} (piece : Way S) : Way S → (before : ℕ) → Type 0 where
  whole : Within piece piece 0
  row_first : (a b : Way S) (k : ℕ) → Within piece a k → Within piece (row a b) k
  row_second : (a b : Way S) (k : ℕ) → Within piece b k → Within piece (row a b) (size a + k)
  fork_first : (a b : Way S) (k : ℕ) → Within piece a k → Within piece (fork a b) k
  fork_second : (a b : Way S) (k : ℕ) → Within piece b k → Within piece (fork a b) (size a + k)
  condition : (s : S) (a b : Way S) (k : ℕ) → Within piece a k → Within piece (turns s a b) (suc k)
  turned : (s : S) (a b : Way S) (k : ℕ) → Within piece b k
      → Within piece (turns s a b) (suc (size a + k))
  locked : (e x : S) (a : Way S) (k : ℕ) → Within piece a k → Within piece (inside e a x) (suc k)

-- The sites of a piece stand in those of the whole way, behind that many.
abbrev pub PiecesStandInTheirWays : (S : Type 0) → Type 0
PiecesStandInTheirWays S = (piece w : Way S) (k : ℕ) → Within piece w k
    → (before after : List S) × (sites_of w ≡ before ++ (sites_of piece ++ after))
    × (length before ≡ k)
