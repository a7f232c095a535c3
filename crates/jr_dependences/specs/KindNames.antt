-- The names of kinds of dependences.
use Rattle.std.specs.Prelude.{ℕ, List, codes}
use Rattle.jr_sync.specs.declared.sites.DepKind.{DepKind}
use Rattle.jr_sync.specs.declared.sites.DepKind.TheVariants.{Order, Field, Sync, Flow, Anti, Output}

abbrev pub kind_name : DepKind → List ℕ
kind_name Order = codes "Order"
kind_name Field = codes "Field"
kind_name Sync = codes "Sync"
kind_name Flow = codes "Flow"
kind_name Anti = codes "Anti"
kind_name Output = codes "Output"
