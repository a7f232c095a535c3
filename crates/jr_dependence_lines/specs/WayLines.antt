-- The lines of the dependences between the sites of a way: one for each, in order.
use Rattle.std.specs.Prelude.{
  ◌≡◌,
  ◌↔◌,
  ◌≤◌,
  ◌+◌,
  ℕ,
  List,
  map,
  slice_get,
  Some,
  Contains,
  AllPairs,
}
use Rattle.std.specs.List.{AllZip}
use Rattle.jr_sync.specs.declared.sites.Site.{Site as BareSite}
use Rattle.jr_table.specs.Keys.{FieldKey}
use Rattle.jr_table.specs.Decls.{LocalKey}
use Rattle.jr_code.specs.RunKeys.{RunKeys}
use Rattle.jr_cover.specs.Sites.{Site}
use Rattle.jr_cover.specs.Ways.{Way, sites_of, size, Edge}
use Rattle.jr_sites.specs.SiteView.{PlacedSite}
use Rattle.jr_dependences.specs.declared.dependence.Dependence.{Dependence}
use Rattle.jr_dependences.specs.Depends.{DependsAlong}
use Rattle.jr_dependences.specs.Listed.{IsBefore}
use Rattle.jr_effect.specs.Plain.{Same}
use Rattle.jr_expr_sites.specs.KnownFacts.{Given}
use Rattle.jr_cfg.specs.Placed.{placed}
use Rattle.jr_dependence_lines.specs.Lines.{Line}

-- at most so many sites of a member are looked at
abbrev pub most_sites : ℕ
most_sites = 1000

module _ (g : Given) (w : Way (Site RunKeys)) where
  -- the way's sites in evaluation order, their places counted from the member's first byte
  abbrev pub sites : List PlacedSite
  sites = map (placed g) (sites_of w)

  -- and without places
  abbrev pub bare_sites : List (BareSite FieldKey LocalKey)
  bare_sites = map (λ (s : PlacedSite). s.site) sites

  -- one site depends on another, along the edges of the way
  abbrev pub DependsOn : Dependence → Type 0
  DependsOn d = DependsAlong Same Same bare_sites (Edge 0 w) d.kind d.first d.second

  -- the site of the number stands at the byte of the file
  abbrev pub StandsAt : (number at : ℕ) → Type 0
  StandsAt number at = (s : PlacedSite) × (slice_get sites number ≡ Some s) × (at ≡ g.start + s.at)

  pub record IsLineOf (d : Dependence) (l : Line) : Type 0 where
    pub member : l.member ≡ g.member
    pub kind : l.kind ≡ d.kind
    pub first : StandsAt d.first l.first
    pub second : StandsAt d.second l.second

  -- The way has few sites, and these are the lines of their dependences: one for each, by the first
  -- site, the second and the kind. Lines repeat where sites stand at one byte.
  pub record AreWayLines (lines : List Line) : Type 0 where
    pub few : size w ≤ most_sites
    pub list : List Dependence
    pub ordered : AllPairs IsBefore list
    pub exact : (d : Dependence) → (Contains list d ↔ DependsOn d)
    pub each : AllZip IsLineOf list lines
