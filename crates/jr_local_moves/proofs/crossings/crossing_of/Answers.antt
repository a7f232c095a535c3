use Rattle.std.proofs.Common.{List, map, subst}
use Rattle.std.specs.Prelude.{IsTrue}
use Rattle.jr_sync.specs.declared.sites.Site.{Site}
use Rattle.jr_sync.specs.Crossing.{IsCrossing}
use Rattle.jr_table.specs.SameKeys.{same_field, field_decides}
use Rattle.jr_table.specs.SameDecls.{same_local, local_decides}
use Rattle.jr_table.specs.declared.keys.FieldKey as raw_field
use Rattle.jr_table.specs.declared.decls.LocalKey as raw_local
use Rattle.jr_table.specs.KeyView.{field_key_of, local_key_of}
use Rattle.jr_sites.specs.SiteView.{site_of}
use Rattle.jr_effect.specs.Plain.{Same}
use Rattle.jr_effect.proofs.Keyed.{related_keyed}
use Rattle.jr_local_moves.proofs.MappedSites.{crossing_mapped}
use Rattle.jr_local_moves.proofs.crossings.crossing_of.Goals as goal

abbrev SameField : raw_field.FieldKey → raw_field.FieldKey → Type 0
SameField x y = IsTrue (same_field (field_key_of x) (field_key_of y))

abbrev SameLocal : raw_local.LocalKey → raw_local.LocalKey → Type 0
SameLocal x y = IsTrue (same_local (local_key_of x) (local_key_of y))

pub returns : goal.returns
returns c =
    let xs = c.in_ok-before.before.now in
    let ys = c.in_ok-behind.behind.now in
    let o = c.crossing.result in
    let mapped : IsCrossing Same Same (map site_of xs) (map site_of ys) o = crossing_mapped SameField SameLocal Same Same site_of
    (related_keyed SameField SameLocal (λ x y. field_decides (field_key_of x) (field_key_of y)) (λ x y. local_decides (local_key_of x) (local_key_of y))) xs ys o c.crossing.ensures in
    subst (λ (zs : List (Site raw_field.FieldKey raw_local.LocalKey)). IsCrossing Same Same (map site_of zs) (map site_of c.args.second.now.sites.items) o) c.in_ok-before.ensures.sites
    (subst (λ (zs : List (Site raw_field.FieldKey raw_local.LocalKey)). IsCrossing Same Same (map site_of xs) (map site_of zs) o) c.in_ok-behind.ensures.sites mapped)
