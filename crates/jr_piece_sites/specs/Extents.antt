-- Which sites of a whole are those of a piece, by their numbers.
use Rattle.std.specs.Prelude.{◌≡◌, ℕ, ◌+◌, List, ◌++◌, length}
use Rattle.jr_runs.specs.Keys.{Keys}
use Rattle.jr_cover.specs.Sites.{Known, exp_way, stmt_way}
use Rattle.jr_cover.specs.Ways.{size}
use Rattle.jr_piece_sites.specs.Pieces as piece
use Rattle.jr_piece_sites.specs.Pieces.{Piece}

-- The sites of the piece stand one behind the other in the whole, and have the numbers from `first`
-- on and below `behind`.
pub record HasRange {S : Type 0} (whole piece : List S) (first behind : ℕ) : Type 0 where
  pub before : List S
  pub after : List S
  pub stands : whole ≡ before ++ (piece ++ after)
  pub begins : length before ≡ first
  pub ends : behind ≡ first + length piece

-- how many sites a statement or an expression has
abbrev pub piece_size : {K : Keys} {A : Type 0} → Known K A → Piece A → ℕ
piece_size X (piece.member m) = 0
piece_size X (piece.stmt s) = size (stmt_way X s)
piece_size X (piece.exp e) = size (exp_way X e)
