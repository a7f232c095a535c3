-- The pair of sites that two footprints lose, and which footprints have the sites of a body.
use Rattle.std.specs.Prelude.{◌≡◌, ℕ, ◌+◌, List, map, Option, Some, None, slice_get}
use Rattle.jr_text.specs.declared.spans.Span.{Span}
use Rattle.jr_sync.specs.Crossing.{IsCrossing}
use Rattle.jr_bind.specs.Programs.{Program}
use Rattle.jr_code.specs.RunKeys.{RunKeys}
use Rattle.jr_cover.specs.Sites.{Site}
use Rattle.jr_effect.specs.Plain.{Same}
use Rattle.jr_sites.specs.declared.sites.PlacedSite as raw
use Rattle.jr_sites.specs.SiteView.{site_of, sites_in}
use Rattle.jr_names.specs.Sites.{SiteAt, DepPair}
use Rattle.jr_local.specs.Bodies.{Body}
use Rattle.jr_local.specs.Crossing.{action}

-- ---- of footprints of a member that begins at the byte `start` of the file

-- the site of the number, with its place in the file
pub record Stands (file start : ℕ) (list : List raw.PlacedSite) (number : ℕ) (s : SiteAt)
    : Type 0 where
  pub of : raw.PlacedSite
  pub stands : slice_get list number ≡ Some of
  pub site : site_of of.site ≡ s.site
  pub place : s.place ≡ record { file = file; at = start + of.at }

-- the pair that the three tests name
pub record IsPair (file start : ℕ) (before moved : List raw.PlacedSite) (p : DepPair) : Type 0
  where
    pub i : ℕ
    pub j : ℕ
    pub crossing : IsCrossing Same Same (sites_in before) (sites_in moved) (Some (i, j, p.kind))
    pub first : Stands file start before i p.first
    pub second : Stands file start moved j p.second

abbrev pub IsLostPair : (file start : ℕ) → (before moved : List raw.PlacedSite)
    → Option DepPair → Type 0
IsLostPair file start before moved None =
    IsCrossing Same Same (sites_in before) (sites_in moved) None
IsLostPair file start before moved (Some p) = IsPair file start before moved p

-- ---- of a body

-- a footprint has the sites, each at its place, which is counted from the member's first byte
pub record AreSitesOf (p : Program Span) (file : ℕ) (b : Body) (sites : List (Site RunKeys))
    (list : List raw.PlacedSite) : Type 0 where
  pub are : map (action p file b) sites ≡ sites_in list
  pub places : map (λ (s : Site RunKeys). s.at.at) sites
      ≡ map (λ (s : raw.PlacedSite). b.at.base + s.at) list
