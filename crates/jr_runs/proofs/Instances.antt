-- Objects that are known to be instances of classes.
use Rattle.std.proofs.Common.{◌≡◌, List, [], ◌∷◌, Option, Some, None, IsTrue, refl, ⊎_elim}
use Rattle.jr_runs.specs.Keys.{Keys}
use Rattle.jr_runs.specs.Values.{Value}
use Rattle.jr_runs.specs.Rows.{Rows}
use Rattle.jr_runs.specs.Fitting.{class_of, has_class, is_instance}
use Rattle.jr_runs.specs.Standing.{HasAll}
use Rattle.jr_runs.specs.Images.{Among}
use Rattle.jr_runs.specs.Typing.{SoundRows}
use Rattle.jr_runs.proofs.TypedValues.{no}

module _ {K : Keys} (R : Rows K) where
  pub instance_of : (me : Value K) (cs : List K.class) → HasAll R me cs → (c : K.class) → Among c cs → IsTrue (is_instance R c me)
  instance_of me [] all c is = absurd is
  instance_of me (d ∷ cs) all c is = ⊎_elim (λ (e : c ≡ d). rw e all.0) (λ k. instance_of me cs all.1 c k) is

  -- an instance has a class, which is the class or below it
  pub class_found : (o : Option K.class) (c : K.class) → IsTrue (has_class R c o) → (d : K.class) × (o ≡ Some d) × IsTrue (R.is_subclass d c)
  class_found None c i = no i
  class_found (Some d) c i = (d, refl, i)

  -- an instance of a class is one of those above it
  pub instance_above : SoundRows R → (c d : K.class) (v : Value K) → IsTrue (is_instance R c v) → IsTrue (R.is_subclass c d) → IsTrue (is_instance R d v)
  instance_above sound c d v i below = at (class_of R v) i
    where
      at : (o : Option K.class) → IsTrue (has_class R c o) → IsTrue (has_class R d o)
      at None h = h
      at (Some e) h = sound.chain e c d h below
