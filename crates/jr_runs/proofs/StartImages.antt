-- A run on what fits is, in the new program, on what fits there.
use Rattle.std.proofs.Common.{List, [], ◌∷◌, map, inl, inr, Option, Some, None, IsTrue, refl, sym, ap, ◌∙◌, subst}
use Rattle.jr_runs.specs.Keys.{Keys}
use Rattle.jr_runs.specs.Values.{Value, Ty}
use Rattle.jr_runs.specs.Rows.{Rows}
use Rattle.jr_runs.specs.Fitting.{is_instance}
use Rattle.jr_runs.specs.Running.{Start, of_method, of_constructor}
use Rattle.jr_runs.specs.Starting.{IsReceiver, ArgsFit, IsStart}
use Rattle.jr_runs.specs.KeyMaps.{KeyMap, value_image, type_image, start_image}
use Rattle.jr_runs.specs.KeptDeclarations.{SameDeclarations}
use Rattle.jr_runs.specs.Signatures.{OwnerTo, SameSignatures}
use Rattle.jr_runs.specs.TypedImages.{IsAbove}
use Rattle.jr_runs.specs.Typing.{SoundRows}
use Rattle.jr_runs.proofs.ImageValues.{is_instance_image, fits_image}
use Rattle.jr_runs.proofs.Instances.{instance_above}
use Rattle.jr_runs.proofs.GuardedPrograms.{HasMine}

module _ {K : Keys} (R : Rows K) (sound : SoundRows R) where
  pub mine_above : (owner : Option K.class) (me : Value K) → IsReceiver R owner me → HasMine R owner me
  mine_above owner me receiver [] h = tt
  mine_above owner me receiver (c ∷ cs) h = (one owner receiver (h c (inl refl)), mine_above owner me receiver cs (λ d a. h d (inr a)))
    where
      one : (o : Option K.class) → IsReceiver R o me → IsAbove R o c → IsTrue (is_instance R c me)
      one None r a = absurd a
      one (Some d) r a = instance_above R sound d c me r a

module _ {K : Keys} (r : KeyMap K) (R R' : Rows K) (rows : SameDeclarations r R R') (same : SameSignatures r R R') (sound' : SoundRows R') where
  receiver_to : (o o' : Option K.class) → OwnerTo r R' o o' → (v : Value K) → IsReceiver R o v → IsReceiver R' o' (value_image r v)
  receiver_to None o' e v h = subst (λ x. IsReceiver R' x (value_image r v)) (sym e) (ap (value_image r) h)
  receiver_to (Some c) o' e v h = subst (λ x. IsReceiver R' x (value_image r v)) (sym e.1) (instance_above R' sound' (r.class c) e.0 (value_image r v) (is_instance_image r R R' rows c v ∙ h) e.2)

  args_to : (Ts : List (Ty K)) (vs : List (Value K)) → ArgsFit R Ts vs → ArgsFit R' (map (type_image r) Ts) (map (value_image r) vs)
  args_to [] [] h = tt
  args_to [] (v ∷ vs) h = h
  args_to (T ∷ Ts) [] h = h
  args_to (T ∷ Ts) (v ∷ vs) h = (fits_image r R R' rows T v ∙ h.0, args_to Ts vs h.1)

  pub start_to : (x : Start K) → IsStart R x → IsStart R' (start_image r x)
  start_to (of_method m me args) h = (
    same.has_method m h.0,
    receiver_to (R.owner m) (R'.owner (r.method m)) (same.owner m h.0) me h.1,
    subst (λ Ts. ArgsFit R' Ts (map (value_image r) args)) (sym (same.params m h.0)) (args_to (R.params m) args h.2),
  )
  start_to (of_constructor k me args) h = (
    same.has_constructor k h.0,
    subst (λ c. IsTrue (is_instance R' c (value_image r me))) (sym (same.constructor_class k h.0)) (is_instance_image r R R' rows (R.constructor_class k) me ∙ h.1),
    subst (λ Ts. ArgsFit R' Ts (map (value_image r) args)) (sym (same.constructor_params k h.0)) (args_to (R.constructor_params k) args h.2),
  )
