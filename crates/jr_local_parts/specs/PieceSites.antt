-- The site of a piece with its place, as it is told.
use Rattle.std.specs.Prelude.{◌≡◌, ℕ, ◌+◌, Some, slice_get}
use Rattle.jr_names.specs.Sites.{SiteAt}
use Rattle.jr_local_moves.specs.declared.crossings.Piece as raw_piece
use Rattle.jr_local_moves.specs.Pieces.{sites_of}

-- the site of the number, with its place in the file
pub record IsSiteOf (file start : ℕ) (p : raw_piece.Piece) (number : ℕ) (s : SiteAt) : Type 0
  where
    pub site : slice_get (sites_of p) number ≡ Some s.site
    pub at : ℕ
    pub stands : slice_get p.places.items number ≡ Some at
    pub place : s.place ≡ record { file = file; at = start + at }
