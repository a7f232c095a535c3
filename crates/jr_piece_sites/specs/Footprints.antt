-- When a row of sites is the footprint of a piece: the sites of its way, in evaluation order.
use Rattle.std.specs.Prelude.{◌≡◌, List, map}
use Rattle.jr_cover.specs.Ways.{sites_of}
use Rattle.jr_sites.specs.SiteView.{placed_of}
use Rattle.jr_sites.specs.declared.sites.PlacedSite as raw
use Rattle.jr_cfg.specs.Placed.{placed}
use Rattle.jr_expr_sites.specs.KnownFacts.{Given, Others}
use Rattle.jr_expr_sites.specs.Routes.{Route}

-- o: what else resolved code needs
abbrev pub IsFootprint : Given → Others → Route → List raw.PlacedSite → Type 0
IsFootprint g o r list = map placed_of list ≡ map (placed g) (sites_of (r g o))
