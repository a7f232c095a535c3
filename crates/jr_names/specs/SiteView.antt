-- The pure sites and pairs that Rust values stand for.
use Rattle.std.specs.Prelude.{option_map}
use Rattle.jr_sync.specs.declared.sites.Site.{Site}
use Rattle.jr_sync.specs.declared.sites.Site.TheVariants as site
use Rattle.jr_table.specs.declared.keys.FieldKey as raw_field
use Rattle.jr_table.specs.declared.decls.LocalKey as raw_local
use Rattle.jr_table.specs.Keys.{FieldKey}
use Rattle.jr_table.specs.Decls.{LocalKey}
use Rattle.jr_table.specs.KeyView.{field_key_of, local_key_of}
use Rattle.jr_names.specs.declared.sites.SiteAt as raw_site
use Rattle.jr_names.specs.declared.sites.DepPair as raw_pair
use Rattle.jr_names.specs.Sites.{SiteAt, DepPair}

abbrev pub site_of : Site raw_field.FieldKey raw_local.LocalKey → Site FieldKey LocalKey
site_of (site.Read l) = site.Read (local_key_of l)
site_of (site.Write l) = site.Write (local_key_of l)
site_of (site.Access kind f) = site.Access kind (option_map field_key_of f)
site_of site.Check = site.Check
site_of site.Call = site.Call
site_of site.Loop = site.Loop

abbrev pub site_at_of : raw_site.SiteAt → SiteAt
site_at_of s = record { place = s.place; site = site_of s.site }

abbrev pub pair_of : raw_pair.DepPair → DepPair
pair_of p = record { kind = p.kind; first = site_at_of p.first; second = site_at_of p.second }
