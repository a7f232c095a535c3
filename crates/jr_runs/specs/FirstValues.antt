-- What fields begin with (JLS 4.12.5).
use Rattle.std.specs.Prelude.{pos, false}
use Rattle.jr_runs.specs.Keys.{Keys}
use Rattle.jr_runs.specs.Values.{Value, int, truth, null, Ty, int_type, boolean_type, reference}

-- what a static field begins with: a value, or a new object that is the field's own
pub data First (K : Keys) : Type 0 where
  gives : (value : Value K) → First K
  makes : (class : K.class) → First K

-- the value of the type
abbrev pub default_of : {K : Keys} → Ty K → Value K
default_of int_type = int (pos 0)
default_of boolean_type = truth false
default_of (reference c) = null
