-- Pieces of a member as their sites.
use Rattle.std.specs.Prelude.{◌≡◌, List, map}
use Rattle.jr_sync.specs.declared.sites.Site.{Site}
use Rattle.jr_table.specs.Keys.{FieldKey}
use Rattle.jr_table.specs.Decls.{LocalKey}
use Rattle.jr_sites.specs.declared.sites.PlacedSite as raw
use Rattle.jr_sites.specs.SiteView.{site_of}
use Rattle.jr_local_moves.specs.declared.crossings.Piece.{Piece}

-- the sites of the footprint, and their places, one for each
pub record IsPieceOf (footprint : List raw.PlacedSite) (p : Piece) : Type 0 where
  pub sites : p.sites.items ≡ map (λ s. s.site) footprint
  pub places : p.places.items ≡ map (λ s. s.at) footprint

abbrev pub sites_of : Piece → List (Site FieldKey LocalKey)
sites_of p = map site_of p.sites.items
