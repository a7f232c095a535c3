-- Values, types and actions under a map of keys.
use Rattle.std.specs.Prelude.{◌≡◌, map}
use Rattle.jr_runs.specs.Keys.{Keys}
use Rattle.jr_runs.specs.Values.{Value, int, truth, null, text, class_object, object, Ty, int_type}
use Rattle.jr_runs.specs.Values.{boolean_type, reference}
use Rattle.jr_runs.specs.Actions.{Location, part, shared, Action, load, store, enter, exit, create}
use Rattle.jr_runs.specs.Actions.{start, Trace}
use Rattle.jr_runs.specs.Running.{Start, of_method, of_constructor, Ending, gave, gave_nothing}
use Rattle.jr_runs.specs.Running.{threw}

pub record KeyMap (K : Keys) : Type 0 where
  pub class : K.class → K.class
  pub field : K.field → K.field
  pub method : K.method → K.method
  pub constructor : K.constructor → K.constructor

-- the second undoes the first
pub record Undoes {K : Keys} (r s : KeyMap K) : Type 0 where
  pub class : (k : K.class) → s.class (r.class k) ≡ k
  pub field : (k : K.field) → s.field (r.field k) ≡ k
  pub method : (k : K.method) → s.method (r.method k) ≡ k
  pub constructor : (k : K.constructor) → s.constructor (r.constructor k) ≡ k

abbrev pub same_keys : {K : Keys} → KeyMap K
same_keys = record { class = λ k. k; field = λ k. k; method = λ k. k; constructor = λ k. k }

abbrev pub value_image : {K : Keys} → KeyMap K → Value K → Value K
value_image r (int z) = int z
value_image r (truth b) = truth b
value_image r null = null
value_image r (text t) = text t
value_image r (class_object c) = class_object (r.class c)
value_image r (object n c) = object n (r.class c)

abbrev pub type_image : {K : Keys} → KeyMap K → Ty K → Ty K
type_image r int_type = int_type
type_image r boolean_type = boolean_type
type_image r (reference c) = reference (r.class c)

abbrev pub location_image : {K : Keys} → KeyMap K → Location K → Location K
location_image r (part o f) = part (value_image r o) (r.field f)
location_image r (shared f) = shared (r.field f)

abbrev pub action_image : {K : Keys} → KeyMap K → Action K → Action K
action_image r (load kind from v) = load kind (location_image r from) (value_image r v)
action_image r (store kind to v) = store kind (location_image r to) (value_image r v)
action_image r (enter o) = enter (value_image r o)
action_image r (exit o) = exit (value_image r o)
action_image r (create o) = create (value_image r o)
action_image r (start o v) = start (value_image r o) (value_image r v)

abbrev pub trace_image : {K : Keys} → KeyMap K → Trace K → Trace K
trace_image r t = map (action_image r) t

abbrev pub start_image : {K : Keys} → KeyMap K → Start K → Start K
start_image r (of_method m me args) =
    of_method (r.method m) (value_image r me) (map (value_image r) args)
start_image r (of_constructor k me args) =
    of_constructor (r.constructor k) (value_image r me) (map (value_image r) args)

abbrev pub ending_image : {K : Keys} → KeyMap K → Ending K → Ending K
ending_image r (gave v) = gave (value_image r v)
ending_image r gave_nothing = gave_nothing
ending_image r (threw f) = threw f
