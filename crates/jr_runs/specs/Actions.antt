-- The actions of one thread that other threads can notice (JLS 17.4.2; allocations and accesses of
-- final fields are told too).
use Rattle.std.specs.Prelude.{List}
use Rattle.jr_runs.specs.Keys.{Keys, At}
use Rattle.jr_runs.specs.Values.{Value}

-- what a field's accesses are: volatile (JLS 8.3.1.4), final (JLS 8.3.1.2) or neither
pub data FieldKind : Type 0 where
  plain volatile final : FieldKind

-- a field of an object, or a static field
pub data Location (K : Keys) : Type 0 where
  part : (of : Value K) (field : K.field) → Location K
  shared : (field : K.field) → Location K

pub data Action (K : Keys) : Type 0 where
  load : (kind : FieldKind) (from : Location K) (value : Value K) → Action K
  store : (kind : FieldKind) (to : Location K) (value : Value K) → Action K
  enter : (monitor : Value K) → Action K
  exit : (monitor : Value K) → Action K
  create : (made : Value K) → Action K
  -- the answer: was the thread started before?
  start : (thread : Value K) (answer : Value K) → Action K

-- an action, and where the code stands that makes it, if it is a member's own text
pub record Event (K : Keys) : Type 0 where
  pub at : At K
  pub action : Action K

abbrev pub placed : {K : Keys} → At K → Action K → Event K
placed at x = record { at = at; action = x }

abbrev pub Trace : Keys → Type 0
Trace K = List (Action K)
