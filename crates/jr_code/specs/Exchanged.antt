-- A map of all keys that is a given one on what is declared: keys that are declared in the old
-- program and keys that are declared in the new one alone change places, and others stay. So it is
-- one to one and onto, and its own inverse, if the given one is one to one on what is declared and
-- leaves each image as it is.
use Rattle.std.specs.Prelude.{List, [], ◌∷◌, Option, Some, None, Bool, cond}
use Rattle.std.specs.Prelude.{unwrap_or}
use Rattle.jr_runs.specs.KeyMaps.{KeyMap}
use Rattle.jr_table.specs.Keys.{ClassKey, FieldKey, MethodKey, CtorKey}
use Rattle.jr_table.specs.Decls.{Decl, class_decl, field_decl, method_decl, constructor_decl}
use Rattle.jr_table.specs.SameKeys.{same_class, same_field, same_method, same_ctor}
use Rattle.jr_table.specs.Rows.{Row}
use Rattle.jr_code.specs.RunKeys.{RunKeys}

-- the first element that passes a test
unfoldable pub first : {X : Type 0} → (X → Bool) → List X → Option X
first test [] = None
first test (x ∷ xs) = cond (test x) (Some x) (first test xs)

abbrev pub or_image : {X : Type 0} → (X → X) → X → Option X → Option X → X
or_image to k (Some x) back = to k
or_image to k None back = unwrap_or back k

-- the image of an element; what an element becomes goes back to it; and else nothing happens
abbrev pub exchange : {X : Type 0} → (X → X → Bool) → (X → X) → List X → X → X
exchange same to xs k =
    or_image to k (first (λ x. same x k) xs) (first (λ x. same (to x) k) xs)

-- the declared keys of each sort
abbrev pub with_key : {X : Type 0} → Option X → List X → List X
with_key None xs = xs
with_key (Some x) xs = x ∷ xs

abbrev pub keys_by : {X : Type 0} → (Decl → Option X) → List Row → List X
keys_by of [] = []
keys_by of (r ∷ rs) = with_key (of r.decl) (keys_by of rs)

abbrev pub class_in : Decl → Option ClassKey
class_in (class_decl k) = Some k
class_in _ = None

abbrev pub field_in : Decl → Option FieldKey
field_in (field_decl k) = Some k
field_in _ = None

abbrev pub method_in : Decl → Option MethodKey
method_in (method_decl k) = Some k
method_in _ = None

abbrev pub ctor_in : Decl → Option CtorKey
ctor_in (constructor_decl k) = Some k
ctor_in _ = None

abbrev pub exchanged : KeyMap RunKeys → List Row → KeyMap RunKeys
exchanged to rows = record {
  class = exchange same_class to.class (keys_by class_in rows);
  field = exchange same_field to.field (keys_by field_in rows);
  method = exchange same_method to.method (keys_by method_in rows);
  constructor = exchange same_ctor to.constructor (keys_by ctor_in rows);
}
