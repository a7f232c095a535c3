-- Sites with their places, as contracts see them.
use Rattle.jr_text.specs.declared.spans.Place.{Place}
use Rattle.jr_sync.specs.declared.sites.DepKind.{DepKind}
use Rattle.jr_sync.specs.declared.sites.Site.{Site}
use Rattle.jr_table.specs.Keys.{FieldKey}
use Rattle.jr_table.specs.Decls.{LocalKey}

pub record SiteAt : Type 0 where
  pub place : Place
  pub site : Site FieldKey LocalKey

pub record DepPair : Type 0 where
  pub kind : DepKind
  pub first : SiteAt
  pub second : SiteAt
