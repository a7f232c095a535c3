-- Plans that make well-made calls, construct by construct.
use Rattle.std.proofs.Common.{◌≡◌, ◌⊎◌, ⊎_elim, ℕ, true, false, List, Option, Some, None, IsTrue, refl, ap, subst}
use Rattle.jr_plans.specs.Safe.{Safe}
use Rattle.jr_plans.proofs.Safety.{safe_and, safe_more}
use Rattle.jr_runs.specs.Keys.{Keys, At}
use Rattle.jr_runs.specs.Values.{Value, int, truth, null, text, class_object, object, Ty, reference}
use Rattle.jr_runs.specs.Actions.{Location, part, shared}
use Rattle.jr_runs.specs.Rows.{Rows}
use Rattle.jr_runs.specs.Fitting.{fits, class_of, is_instance}
use Rattle.jr_runs.specs.Arithmetic.{Out, value, thrown, truth_of}
use Rattle.jr_runs.specs.Evaluation.{Flow, goes_on, returns, Step, on_value, next, non_null, on_truth, on_class, with_locals, answer, constructed, Slot, in_local, in_static, in_object, load_field, store_field, load_from, store_to}
use Rattle.jr_runs.specs.Typing.{type_of, Gives, SoundRows}
use Rattle.jr_runs.specs.TypedRuns.{LocalsFit, OutHas, WellMade, ResultFits, WellAnswered}
use Rattle.jr_runs.proofs.TypedLocals.{locals_set}
use Rattle.jr_runs.proofs.TypedValues.{Claim, no, given}

-- The plan makes well-made calls, and what it comes to has Q, if those are answered well.
abbrev pub Well : {K : Keys} {A : Type 0} → Rows K → (A → Type 0) → Step K A → Type 0
Well R Q p = Safe (WellMade R) (WellAnswered R) (OutHas Q) p

-- a value of which this is claimed, and locals of their types
abbrev pub Typed : {K : Keys} → Rows K → List (ℕ × Ty K) → Option (Ty K) → Value K × List (Value K) → Type 0
Typed R G T r = Claim R T r.0 × LocalsFit R G r.1

abbrev pub SlotHas : {K : Keys} → Rows K → List (ℕ × Ty K) → Ty K → Slot K → Type 0
SlotHas R G U (in_local n) = type_of G n ≡ Some U
SlotHas R G U (in_static p f) = R.field_type f ≡ U
SlotHas R G U (in_object p o f) = R.field_type f ≡ U

abbrev pub SlotTyped : {K : Keys} → Rows K → List (ℕ × Ty K) → Ty K → Slot K × List (Value K) → Type 0
SlotTyped R G U r = SlotHas R G U r.0 × LocalsFit R G r.1

module _ {K : Keys} (R : Rows K) where
  pub well_next : {A B : Type 0} (Q : A → Type 0) (Q' : B → Type 0) (p : Step K A) (k : A → Step K B) → Well R Q p → ((a : A) → Q a → Well R Q' (k a)) → Well R Q' (next p k)
  well_next {A = A} Q Q' p k h g = safe_and (WellMade R) (WellAnswered R) (OutHas Q) (OutHas Q') p (on_value k) h go
    where
      go : (o : Out A) → OutHas Q o → Well R Q' (on_value k o)
      go (value a) q = g a q
      go (thrown f) q = tt

  pub well_weaker : {A : Type 0} (Q Q' : A → Type 0) → ((a : A) → Q a → Q' a) → (p : Step K A) → Well R Q p → Well R Q' p
  well_weaker {A = A} Q Q' i p h = safe_more (WellMade R) (WellAnswered R) (OutHas Q) (OutHas Q') weaker p h
    where
      weaker : (o : Out A) → OutHas Q o → OutHas Q' o
      weaker (value a) q = i a q
      weaker (thrown f) q = tt

  is_true : (v : Value K) → v ≡ truth true → truth_of v ≡ true
  is_true v e = ap truth_of e

  -- X: what is known where it isn't `true`
  pub well_truth : {A : Type 0} (Q : A → Type 0) (X : Type 0) (v : Value K) → X ⊎ (v ≡ truth true) → (p q : Step K A) → Well R Q p → (X → Well R Q q) → Well R Q (on_truth v p q)
  well_truth Q X (truth true) x p q h g = h
  well_truth Q X (truth false) x p q h g = ⊎_elim g (λ e. no (is_true (truth false) e)) x
  well_truth Q X null x p q h g = ⊎_elim g (λ e. no (is_true null e)) x
  well_truth Q X (int n) x p q h g = ⊎_elim g (λ e. no (is_true (int n) e)) x
  well_truth Q X (text t) x p q h g = ⊎_elim g (λ e. no (is_true (text t) e)) x
  well_truth Q X (class_object c) x p q h g = ⊎_elim g (λ e. no (is_true (class_object c) e)) x
  well_truth Q X (object n c) x p q h g = ⊎_elim g (λ e. no (is_true (object n c) e)) x

  pub well_non_null : {A : Type 0} (Q : A → Type 0) (v : Value K) (p : Step K A) → Well R Q p → Well R Q (non_null v p)
  well_non_null Q null p h = tt
  well_non_null Q (int n) p h = h
  well_non_null Q (truth b) p h = h
  well_non_null Q (text t) p h = h
  well_non_null Q (class_object c) p h = h
  well_non_null Q (object n c) p h = h

  -- a reference that isn't null is an instance
  pub well_instance : {A : Type 0} (Q : A → Type 0) (c : K.class) (v : Value K) (p : Step K A) → IsTrue (fits R (reference c) v) → (IsTrue (is_instance R c v) → Well R Q p) → Well R Q (non_null v p)
  well_instance Q c null p f h = tt
  well_instance Q c (int n) p f h = no f
  well_instance Q c (truth b) p f h = no f
  well_instance Q c (text t) p f h = h f
  well_instance Q c (class_object d) p f h = h f
  well_instance Q c (object n d) p f h = h f

  -- the class of a reference that isn't null
  pub well_class : {A : Type 0} (Q : A → Type 0) (c : K.class) (v : Value K) (k : K.class → Step K A) → IsTrue (fits R (reference c) v) → ((d : K.class) → class_of R v ≡ Some d → IsTrue (R.is_subclass d c) → Well R Q (k d)) → Well R Q (on_class (class_of R v) k)
  well_class Q c null k f h = tt
  well_class Q c (int n) k f h = no f
  well_class Q c (truth b) k f h = no f
  well_class Q c (text t) k f h = h R.text_class refl f
  well_class Q c (class_object d) k f h = h R.class_class refl f
  well_class Q c (object n d) k f h = h d refl f

  pub well_load_field : (p : At K) (from : Location K) (f : K.field) (U : Ty K) → R.field_type f ≡ U → Well R (λ v. IsTrue (fits R U v)) (load_field R p from f)
  well_load_field p from f U e = λ v h. subst (λ T. IsTrue (fits R T v)) e h

  module _ (G : List (ℕ × Ty K)) where
    pub well_load : (x : Slot K) (U : Ty K) → SlotHas R G U x → (l : List (Value K)) → LocalsFit R G l → Well R (λ v. IsTrue (fits R U v)) (load_from R x l)
    well_load (in_local n) U e l h = h n U e
    well_load (in_static p f) U e l h = well_load_field p (shared f) f U e
    well_load (in_object p o f) U e l h = well_non_null (λ v. IsTrue (fits R U v)) o (load_field R p (part o f) f) (well_load_field p (part o f) f U e)

    pub well_store : (x : Slot K) (U : Ty K) → SlotHas R G U x → (v : Value K) → IsTrue (fits R U v) → (l : List (Value K)) → LocalsFit R G l → Well R (LocalsFit R G) (store_to R x v l)
    well_store (in_local n) U e v f l h = locals_set R G l n U v e f h
    well_store (in_static p f) U e v i l h = h
    well_store (in_object p o f) U e v i l h = well_non_null (LocalsFit R G) o (store_field R p (part o f) f v l) h

    pub with_fits : (Q : Value K → Type 0) (T : Option (Ty K)) → ((v : Value K) → Q v → Claim R T v) → (l : List (Value K)) (o : Out (Value K)) → OutHas Q o → LocalsFit R G l → OutHas (Typed R G T) (with_locals l o)
    with_fits Q T i l (value v) h g = (i v h, g)
    with_fits Q T i l (thrown f) h g = tt

    module _ (sound : SoundRows R) where
      pub answer_fits : (S T : Option (Ty K)) (l : List (Value K)) (o : Out (Flow K)) → OutHas (ResultFits R S) o → Gives R S T → LocalsFit R G l → OutHas (Typed R G T) (answer l o)
      answer_fits (Some U) T l (value (returns (Some v))) h s g = (given R sound (Some U) T v s h, g)
      answer_fits None None l (value (returns None)) h s g = (tt, g)
      answer_fits None (Some U) l (value (returns None)) h s g = absurd s
      answer_fits None T l (value (returns (Some v))) h s g = absurd h
      answer_fits (Some U) T l (value (returns None)) h s g = absurd h
      answer_fits None None l (value (goes_on m)) h s g = (tt, g)
      answer_fits None (Some U) l (value (goes_on m)) h s g = absurd s
      answer_fits (Some U) T l (value (goes_on m)) h s g = absurd (some_is_not_none U h)
        where
          some_is_not_none : (x : Ty K) → Some x ≡ None → ⊥
          some_is_not_none x e = cc
      answer_fits S T l (thrown f) h s g = tt

      pub constructed_fits : (S T : Option (Ty K)) (v : Value K) (l : List (Value K)) (o : Out (Flow K)) → Claim R S v → Gives R S T → LocalsFit R G l → OutHas (Typed R G T) (constructed v l o)
      constructed_fits S T v l (value f) h s g = (given R sound S T v s h, g)
      constructed_fits S T v l (thrown f) h s g = tt
