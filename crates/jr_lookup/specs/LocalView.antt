-- The pure local that a local in scope stands for.
use Rattle.jr_lookup.specs.declared.scope_local.ScopeLocal as raw_local
use Rattle.jr_table.specs.KeyView.{local_key_of}
use Rattle.jr_table.specs.Scope.{ScopeLocal}

abbrev pub local_of : raw_local.ScopeLocal → ScopeLocal
local_of l = record { name = l.name; key = local_key_of l.key }
