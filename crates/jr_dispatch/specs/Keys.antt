-- The class that a row declares: exact.
use Rattle.std.specs.Prelude.{ℕ, List, Option, Some, None, slice_get, option_and_then}
use Rattle.jr_table.specs.Keys.{ClassKey}
use Rattle.jr_table.specs.Decls.{Decl, class_decl}
use Rattle.jr_table.specs.Rows.{Row}

abbrev pub declared_class : Decl → Option ClassKey
declared_class (class_decl k) = Some k
declared_class _ = None

abbrev pub class_at : List Row → ℕ → Option ClassKey
class_at rows j = option_and_then (λ (r : Row). declared_class r.decl) (slice_get rows j)
