-- What is asked of a program's own keys alone, and of all keys: a map that is one to one on some
-- keys is there one that is one to one on all of them and has an inverse.
use Rattle.std.specs.Prelude.{◌≡◌, ◌⊎◌, List, [], ◌∷◌, map}
use Rattle.jr_runs.specs.Keys.{Keys, keys_of}
use Rattle.jr_runs.specs.Values.{Value, int, truth, null, text, class_object, object}
use Rattle.jr_runs.specs.Actions.{Location, part, shared, Action, load, store, enter, exit, create}
use Rattle.jr_runs.specs.Actions.{start, Trace}
use Rattle.jr_runs.specs.KeyMaps.{KeyMap, trace_image}
use Rattle.jr_runs.specs.Images.{Among}

-- any two are one or are not
abbrev pub AreTold : Type 0 → Type 0
AreTold X = (x y : X) → (x ≡ y) ⊎ (x ≡ y → ⊥)

abbrev pub OneToOneOn : {X : Type 0} → List X → (X → X) → Type 0
OneToOneOn {X = X} xs f = (x y : X) → Among x xs → Among y xs → f x ≡ f y → x ≡ y

-- a map with an inverse, that is f on these
pub record Extends {X : Type 0} (xs : List X) (f : X → X) : Type 0 where
  pub to : X → X
  pub from : X → X
  pub back : (x : X) → from (to x) ≡ x
  pub there : (x : X) → to (from x) ≡ x
  pub agrees : (x : X) → Among x xs → to x ≡ f x

-- What is one to one on the keys of a program is so on all keys, with another map that maps the
-- program's keys alike.
abbrev pub MapsExtend : Type 0 → Type 0
MapsExtend X = AreTold X → (xs : List X) (f : X → X) → OneToOneOn xs f → Extends xs f

-- What the old program's keys have, their images have in the new one (a field its kind). Then so it
-- is of all keys, where those that neither program has are given one thing, d.
abbrev pub KindsExtend : Type 0 → Type 0 → Type 0
KindsExtend X B = AreTold X → (xs : List X) (f : X → X) (e : Extends xs f) (old new : X → B) (d : B)
    → ((x : X) → Among x xs → new (f x) ≡ old x)
    → ((x : X) → (Among x xs → ⊥) → old x ≡ d)
    → ((y : X) → (Among y (map f xs) → ⊥) → new y ≡ d)
    → (x : X) → new (e.to x) ≡ old x

-- the classes and fields that are named are among these
abbrev pub ValueWithin : {K : Keys} → List K.class → Value K → Type 0
ValueWithin cs (int z) = Unit {0}
ValueWithin cs (truth b) = Unit {0}
ValueWithin cs null = Unit {0}
ValueWithin cs (text t) = Unit {0}
ValueWithin cs (class_object c) = Among c cs
ValueWithin cs (object n c) = Among c cs

abbrev pub LocationWithin : {K : Keys} → List K.class → List K.field → Location K → Type 0
LocationWithin cs fs (part o f) = ValueWithin cs o × Among f fs
LocationWithin cs fs (shared f) = Among f fs

abbrev pub ActionWithin : {K : Keys} → List K.class → List K.field → Action K → Type 0
ActionWithin cs fs (load kind at v) = LocationWithin cs fs at × ValueWithin cs v
ActionWithin cs fs (store kind at v) = LocationWithin cs fs at × ValueWithin cs v
ActionWithin cs fs (enter o) = ValueWithin cs o
ActionWithin cs fs (exit o) = ValueWithin cs o
ActionWithin cs fs (create o) = ValueWithin cs o
ActionWithin cs fs (start o v) = ValueWithin cs o × ValueWithin cs v

abbrev pub TraceWithin : {K : Keys} → List K.class → List K.field → Trace K → Type 0
TraceWithin cs fs [] = Unit {0}
TraceWithin cs fs (a ∷ t) = ActionWithin cs fs a × TraceWithin cs fs t

pub record AgreesOn {K : Keys} (cs : List K.class) (fs : List K.field)
    (r s : KeyMap K) : Type 0 where
  pub class : (c : K.class) → Among c cs → r.class c ≡ s.class c
  pub field : (f : K.field) → Among f fs → r.field f ≡ s.field f

-- A trace has one image under two maps that agree on what it names.
abbrev pub ImagesByNames : (C F M N A : Type 0) → Type 0
ImagesByNames C F M N A = (cs : List C) (fs : List F) (r s : KeyMap (keys_of C F M N A))
    → AgreesOn cs fs r s → (t : Trace (keys_of C F M N A)) → TraceWithin cs fs t
    → trace_image r t ≡ trace_image s t
