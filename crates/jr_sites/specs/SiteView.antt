-- The pure sites that Rust values stand for.
use Rattle.std.specs.Prelude.{ℕ, List, map, option_map}
use Rattle.jr_sync.specs.declared.sites.Site.{Site}
use Rattle.jr_sync.specs.declared.sites.Site.TheVariants as site
use Rattle.jr_table.specs.declared.keys.FieldKey as raw_field
use Rattle.jr_table.specs.declared.decls.LocalKey as raw_local
use Rattle.jr_table.specs.Keys.{FieldKey}
use Rattle.jr_table.specs.Decls.{LocalKey}
use Rattle.jr_table.specs.KeyView.{field_key_of, local_key_of}
use Rattle.jr_sites.specs.declared.sites.PlacedSite as raw

-- what a member does at a byte
pub record PlacedSite : Type 0 where
  pub at : ℕ
  pub site : Site FieldKey LocalKey

abbrev pub site_of : Site raw_field.FieldKey raw_local.LocalKey → Site FieldKey LocalKey
site_of (site.Read l) = site.Read (local_key_of l)
site_of (site.Write l) = site.Write (local_key_of l)
site_of (site.Access kind f) = site.Access kind (option_map field_key_of f)
site_of site.Check = site.Check
site_of site.Call = site.Call
site_of site.Loop = site.Loop

abbrev pub placed_of : raw.PlacedSite → PlacedSite
placed_of s = record { at = s.at; site = site_of s.site }

-- the sites of a row, without their places
abbrev pub sites_in : List raw.PlacedSite → List (Site FieldKey LocalKey)
sites_in placed = map (λ s. site_of s.site) placed
