-- How far a walk down a path has come.
use Rattle.std.specs.Prelude.{◌≡◌, ℕ, ◌+◌, List}
use Rattle.jr_text.specs.declared.spans.Span.{Span}
use Rattle.jr_expr_sites.specs.KnownFacts.{Given, Others, known_of}
use Rattle.jr_expr_sites.specs.Routes.{Steps}
use Rattle.jr_piece_sites.specs.Fronts.{before}
use Rattle.jr_piece_sites.specs.Growth.{count}
use Rattle.jr_piece_sites.specs.Pieces.{Piece, piece_at, spotted, FitsPiece, NumbersPiece, StartsAt}

-- From a piece x by a path, of which `rest` is left, to a piece y. What is left of the path leads from
-- y to where the whole leads from x, and what was put and what stands in front on the rest of the way
-- are what stands in front on the whole.
pub record Descended {A : Type 0} (tells : A → ℕ → Span) (Fits : A → ℕ → Type 0) (g : Given)
    (n base : ℕ) (path : List ℕ) (x : Piece A) (whole rest : List ℕ)
    (k at : ℕ) (y : Piece A) (place : List ℕ) (old new : Steps) : Type 0 where
  pub fits : FitsPiece tells Fits at y
  pub start : StartsAt tells at g.start y
  pub leads : piece_at (spotted tells at place y) rest ≡ piece_at (spotted tells base path x) whole
  pub numbers : (o : Others) → NumbersPiece tells n base path x o → NumbersPiece tells k at place y o
  pub grown : (o : Others) → NumbersPiece tells n base path x o
      → count g new + before (known_of g o) (spotted tells at place y) rest
      ≡ count g old + before (known_of g o) (spotted tells base path x) whole
