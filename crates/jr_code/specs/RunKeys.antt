-- The keys of runs: those of the table. A place tells the member too, since a field's initializer
-- is run by the constructors of its class.
use Rattle.std.specs.Prelude.{ℕ}
use Rattle.jr_runs.specs.Keys.{Keys, keys_of}
use Rattle.jr_table.specs.Keys.{ClassKey, FieldKey, MethodKey, CtorKey}
use Rattle.jr_table.specs.Decls.{MemberKey}

-- a byte of the member's file
pub record Place : Type 0 where
  pub member : MemberKey
  pub at : ℕ

abbrev pub RunKeys : Keys
RunKeys = keys_of ClassKey FieldKey MethodKey CtorKey Place
