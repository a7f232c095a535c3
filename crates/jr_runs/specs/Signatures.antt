-- When new declarations have the signatures of old ones, under a map of keys.
use Rattle.std.specs.Prelude.{◌≡◌, map, Option, Some, None, IsTrue}
use Rattle.jr_runs.specs.Keys.{Keys}
use Rattle.jr_runs.specs.Rows.{Rows}
use Rattle.jr_runs.specs.KeyMaps.{KeyMap, type_image}

-- What was static is so. What was of a class is of its image, or of a superclass of that.
abbrev pub OwnerTo : {K : Keys} → KeyMap K → Rows K → Option K.class → Option K.class → Type 0
OwnerTo r new None o = o ≡ None
OwnerTo {K = K} r new (Some c) o =
    (d : K.class) × (o ≡ Some d) × IsTrue (new.is_subclass (r.class c) d)

-- The image of each declared method and constructor is declared, with the images of its types. A
-- constructor's is of the image of its class; a method may have gone up.
pub record SameSignatures {K : Keys} (r : KeyMap K) (old new : Rows K) : Type 0 where
  pub has_method : (m : K.method) → IsTrue (old.has_method m) → IsTrue (new.has_method (r.method m))
  pub owner : (m : K.method) → IsTrue (old.has_method m)
      → OwnerTo r new (old.owner m) (new.owner (r.method m))
  pub params : (m : K.method) → IsTrue (old.has_method m)
      → new.params (r.method m) ≡ map (type_image r) (old.params m)
  pub has_constructor : (k : K.constructor) → IsTrue (old.has_constructor k)
      → IsTrue (new.has_constructor (r.constructor k))
  pub constructor_class : (k : K.constructor) → IsTrue (old.has_constructor k)
      → new.constructor_class (r.constructor k) ≡ r.class (old.constructor_class k)
  pub constructor_params : (k : K.constructor) → IsTrue (old.has_constructor k)
      → new.constructor_params (r.constructor k) ≡ map (type_image r) (old.constructor_params k)
