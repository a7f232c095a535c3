-- Well-typed expressions make well-made calls, and their values are of their types.
use Rattle.std.proofs.Common.{◌≡◌, inl, ℕ, true, false, List, [], ◌∷◌, Option, Some, None, unwrap_or, IsTrue, neg_ℤ, refl, sym, subst}
use Rattle.jr_plans.specs.Plan.{done, call}
use Rattle.jr_runs.specs.Keys.{Keys}
use Rattle.jr_runs.specs.Values.{Value, truth, null, Ty, int_type, boolean_type, reference}
use Rattle.jr_runs.specs.Rows.{Rows}
use Rattle.jr_runs.specs.Fitting.{fits, class_of, has_class, is_instance}
use Rattle.jr_runs.specs.Arithmetic.{value, calculate, number_of, operate, sign, bumped, bump_value}
use Rattle.jr_runs.specs.Core as core
use Rattle.jr_runs.specs.Core.{Operator, arithmetic, comparison, equal, different, plus, minus, complement, Exp, Target, Exps}
use Rattle.jr_runs.specs.Evaluation.{invoke, construct, Step, next, non_null, on_truth, on_class, Slot, in_object, load_from, store_to, with_locals, cast_value, answer, constructed, exp, target, exps}
use Rattle.jr_runs.specs.Running.{of_method}
use Rattle.jr_runs.specs.Starting.{IsReceiver, ArgsFit, IsStart}
use Rattle.jr_runs.specs.Typing.{Gives, HasType, TargetHas, HaveTypes, SoundRows}
use Rattle.jr_runs.specs.TypedRuns.{LocalsFit, OutHas, ResultFits}
use Rattle.jr_runs.proofs.IntRange.{wrapped_fits}
use Rattle.jr_runs.proofs.TypedValues.{Claim, calculate_fits, bumped_fits, bump_value_fits, cast_fits, given, this_fits, new_is_instance, instance_fits}
use Rattle.jr_runs.proofs.TypedSteps.{Well, Typed, SlotHas, SlotTyped, well_next, well_weaker, well_truth, well_instance, well_class, well_load, well_store, with_fits, answer_fits, constructed_fits}

module _ {K : Keys} (R : Rows K) (sound : SoundRows R) where
  -- what dispatch finds, or the method itself, may be run on an object of class d, and gives what the method gives
  record Found (m : K.method) (v : Value K) (vs : List (Value K)) (found : K.method) : Type 0 where
    made : IsStart R (of_method found v vs)
    result : R.result found ≡ R.result m

  receiver_of : (o : Option K.class) (c d : K.class) (v : Value K) → o ≡ Some c → class_of R v ≡ Some d → IsTrue (R.is_subclass d c) → IsReceiver R o v
  receiver_of o c d v e i s = subst (λ x. IsReceiver R x v) (sym e) (subst (λ x. IsTrue (has_class R c x)) (sym i) s)

  found_fits : (c d : K.class) (m : K.method) (v : Value K) (vs : List (Value K)) → IsTrue (R.has_method m) → R.owner m ≡ Some c → class_of R v ≡ Some d → IsTrue (R.is_subclass d c) → ArgsFit R (R.params m) vs
      → (o : Option K.method) → R.dispatch d m ≡ o → Found m v vs (unwrap_or o m)
  found_fits c d m v vs has e i s a None q = record { made = (has, receiver_of (R.owner m) c d v e i s, a); result = refl }
  found_fits c d m v vs has e i s a (Some k) q =
      let h = sound.dispatch c d m k e s q has in
      record { made = (h.0, receiver_of (R.owner k) h.1.0 d v h.1.1 i h.1.2, subst (λ Ts. ArgsFit R Ts vs) (sym h.2) a); result = h.3 }

  module _ (G : List (ℕ × Ty K)) (C : Option K.class) (me : Value K) (receiver : IsReceiver R C me) where
    abbrev AllTyped : List (Ty K) → List (Value K) × List (Value K) → Type 0
    AllTyped Ts r = ArgsFit R Ts r.0 × LocalsFit R G r.1

    stored : (x : Slot K) (U : Ty K) → SlotHas R G U x → (v w : Value K) → IsTrue (fits R U v) → (T : Option (Ty K)) → Claim R T w → (l : List (Value K)) → LocalsFit R G l → Well R (Typed R G T) (next (store_to R x v l) (λ m. done (value (w, m))))
    stored x U e v w f T i l h = well_next R (LocalsFit R G) (Typed R G T) (store_to R x v l) (λ m. done (value (w, m))) (well_store R G x U e v f l h) (λ m d. (i, d))

    -- of either operator, the left one decides or the right one is the value
    both_or_either : (v : Value K) (p q : Step K (Value K × List (Value K))) (T : Option (Ty K)) → Well R (Typed R G T) p → Well R (Typed R G T) q → Well R (Typed R G T) (on_truth v p q)
    both_or_either v p q T h g = well_truth R (Typed R G T) (Unit {0}) v (inl tt) p q h (λ x. g)

    called : (m : K.method) (v : Value K) (vs l : List (Value K)) (S T : Option (Ty K)) → IsStart R (of_method m v vs) → R.result m ≡ S → Gives R S T → LocalsFit R G l → Well R (Typed R G T) (call (invoke m v vs) (λ o. done (answer l o)))
    called m v vs l S T made e s h = (made, λ o a. answer_fits R G sound S T l o (subst (λ U. OutHas (ResultFits R U) o) e a) s h)

    -- what is a boolean gives what is claimed
    claimed : (b : Exp K) (T : Option (Ty K)) → Gives R (Some boolean_type) T → ((l : List (Value K)) → LocalsFit R G l → Well R (Typed R G (Some boolean_type)) (exp R me b l)) → (l : List (Value K)) → LocalsFit R G l → Well R (Typed R G T) (exp R me b l)
    claimed b T s f l h = well_weaker R (Typed R G (Some boolean_type)) (Typed R G T) (λ r k. (given R sound (Some boolean_type) T r.0 s k.0, k.1)) (exp R me b l) (f l h)

    binary_well : (op : Operator) (a b : Exp K) (S U : Option (Ty K)) (Q : Value K → Type 0) (T : Option (Ty K)) → ((l : List (Value K)) → LocalsFit R G l → Well R (Typed R G S) (exp R me a l)) → ((l : List (Value K)) → LocalsFit R G l → Well R (Typed R G U) (exp R me b l))
        → ((v w : Value K) → OutHas Q (operate R.same_class op v w)) → ((v : Value K) → Q v → Claim R T v) → (l : List (Value K)) → LocalsFit R G l
        → Well R (Typed R G T) (next (exp R me a l) (λ r. next (exp R me b r.1) (λ z. done (with_locals z.1 (operate R.same_class op r.0 z.0)))))
    binary_well op a b S U Q T f g i j l h = well_next R (Typed R G S) (Typed R G T) (exp R me a l) (λ r. next (exp R me b r.1) (λ z. done (with_locals z.1 (operate R.same_class op r.0 z.0)))) (f l h)
        (λ r k. well_next R (Typed R G U) (Typed R G T) (exp R me b r.1) (λ z. done (with_locals z.1 (operate R.same_class op r.0 z.0))) (g r.1 k.1) (λ z o. with_fits R G Q T j z.1 (operate R.same_class op r.0 z.0) (i r.0 z.0) o.1))

    mutual
      pub exp_well : (e : Exp K) (T : Option (Ty K)) → HasType R G C e T → (l : List (Value K)) → LocalsFit R G l → Well R (Typed R G T) (exp R me e l)
      exp_well (core.literal p v) None t l h = (tt, h)
      exp_well (core.literal p v) (Some T) t l h = (t, h)
      exp_well (core.this p) T t l h = (this_fits R sound C me T receiver t, h)
      exp_well (core.read p x) T t l h = well_next R (SlotTyped R G t.0) (Typed R G T) (target R me x l) (λ r. next (load_from R r.0 r.1) (λ v. done (value (v, r.1)))) (target_well x t.0 t.1 l h)
          (λ r k. well_next R (λ v. IsTrue (fits R t.0 v)) (Typed R G T) (load_from R r.0 r.1) (λ v. done (value (v, r.1))) (well_load R G r.0 t.0 k.0 r.1 k.1) (λ v i. (given R sound (Some t.0) T v t.2 i, k.1)))
      exp_well (core.assign p x e) T t l h = well_next R (SlotTyped R G t.0) (Typed R G T) (target R me x l) (λ r. next (exp R me e r.1) (λ z. next (store_to R r.0 z.0 z.1) (λ m. done (value (z.0, m))))) (target_well x t.0 t.1 l h)
          (λ r k. well_next R (Typed R G (Some t.0)) (Typed R G T) (exp R me e r.1) (λ z. next (store_to R r.0 z.0 z.1) (λ m. done (value (z.0, m)))) (exp_well e (Some t.0) t.2 r.1 k.1)
          (λ z i. stored r.0 t.0 k.0 z.0 z.0 i.0 T (given R sound (Some t.0) T z.0 t.3 i.0) z.1 i.1))
      exp_well (core.compound p op x e) T t l h = well_next R (SlotTyped R G int_type) (Typed R G T) (target R me x l)
          (λ r. next (load_from R r.0 r.1) (λ old. next (exp R me e r.1) (λ z. next (done (calculate op (number_of old) (number_of z.0))) (λ v. next (store_to R r.0 v z.1) (λ m. done (value (v, m)))))))
          (target_well x int_type t.0 l h)
          (λ r k. well_next R (λ v. IsTrue (fits R int_type v)) (Typed R G T) (load_from R r.0 r.1)
          (λ old. next (exp R me e r.1) (λ z. next (done (calculate op (number_of old) (number_of z.0))) (λ v. next (store_to R r.0 v z.1) (λ m. done (value (v, m)))))) (well_load R G r.0 int_type k.0 r.1 k.1)
          (λ old i. well_next R (Typed R G (Some int_type)) (Typed R G T) (exp R me e r.1) (λ z. next (done (calculate op (number_of old) (number_of z.0))) (λ v. next (store_to R r.0 v z.1) (λ m. done (value (v, m)))))
          (exp_well e (Some int_type) t.1 r.1 k.1)
          (λ z j. well_next R (λ v. IsTrue (fits R int_type v)) (Typed R G T) (done (calculate op (number_of old) (number_of z.0))) (λ v. next (store_to R r.0 v z.1) (λ m. done (value (v, m))))
          (calculate_fits R op (number_of old) (number_of z.0)) (λ v o. stored r.0 int_type k.0 v v o T (given R sound (Some int_type) T v t.2 o) z.1 j.1))))
      exp_well (core.bump p op x) T t l h = well_next R (SlotTyped R G int_type) (Typed R G T) (target R me x l)
          (λ r. next (load_from R r.0 r.1) (λ old. next (store_to R r.0 (bumped op old) r.1) (λ m. done (value (bump_value op old (bumped op old), m))))) (target_well x int_type t.0 l h)
          (λ r k. well_next R (λ v. IsTrue (fits R int_type v)) (Typed R G T) (load_from R r.0 r.1) (λ old. next (store_to R r.0 (bumped op old) r.1) (λ m. done (value (bump_value op old (bumped op old), m)))) (well_load R G r.0 int_type k.0 r.1 k.1)
          (λ old i. stored r.0 int_type k.0 (bumped op old) (bump_value op old (bumped op old)) (bumped_fits R op old) T
          (given R sound (Some int_type) T (bump_value op old (bumped op old)) t.1 (bump_value_fits R op old (bumped op old) i (bumped_fits R op old))) r.1 k.1))
      exp_well (core.signed p plus e) T t l h = well_next R (Typed R G (Some int_type)) (Typed R G T) (exp R me e l) (λ r. done (value (sign plus r.0, r.1))) (exp_well e (Some int_type) t.0 l h)
          (λ r k. (given R sound (Some int_type) T (sign plus r.0) t.1 (wrapped_fits (number_of r.0)), k.1))
      exp_well (core.signed p minus e) T t l h = well_next R (Typed R G (Some int_type)) (Typed R G T) (exp R me e l) (λ r. done (value (sign minus r.0, r.1))) (exp_well e (Some int_type) t.0 l h)
          (λ r k. (given R sound (Some int_type) T (sign minus r.0) t.1 (wrapped_fits (neg_ℤ (number_of r.0))), k.1))
      exp_well (core.signed p complement e) T t l h = well_next R (Typed R G (Some boolean_type)) (Typed R G T) (exp R me e l) (λ r. done (value (sign complement r.0, r.1))) (exp_well e (Some boolean_type) t.0 l h)
          (λ r k. (given R sound (Some boolean_type) T (sign complement r.0) t.1 refl, k.1))
      exp_well (core.binary p (arithmetic op) a b) T t l h = binary_well (arithmetic op) a b (Some int_type) (Some int_type) (λ v. IsTrue (fits R int_type v)) T (λ l' h'. exp_well a (Some int_type) t.0 l' h') (λ l' h'. exp_well b (Some int_type) t.1 l' h')
          (λ v w. calculate_fits R op (number_of v) (number_of w)) (λ v i. given R sound (Some int_type) T v t.2 i) l h
      exp_well (core.binary p (comparison op) a b) T t l h = binary_well (comparison op) a b (Some int_type) (Some int_type) (λ v. IsTrue (fits R boolean_type v)) T (λ l' h'. exp_well a (Some int_type) t.0 l' h') (λ l' h'. exp_well b (Some int_type) t.1 l' h')
          (λ v w. refl) (λ v i. given R sound (Some boolean_type) T v t.2 i) l h
      exp_well (core.binary p equal a b) T t l h = binary_well equal a b (Some t.0) (Some t.1) (λ v. IsTrue (fits R boolean_type v)) T (λ l' h'. exp_well a (Some t.0) t.2 l' h') (λ l' h'. exp_well b (Some t.1) t.3 l' h')
          (λ v w. refl) (λ v i. given R sound (Some boolean_type) T v t.4 i) l h
      exp_well (core.binary p different a b) T t l h = binary_well different a b (Some t.0) (Some t.1) (λ v. IsTrue (fits R boolean_type v)) T (λ l' h'. exp_well a (Some t.0) t.2 l' h') (λ l' h'. exp_well b (Some t.1) t.3 l' h')
          (λ v w. refl) (λ v i. given R sound (Some boolean_type) T v t.4 i) l h
      exp_well (core.both p a b) T t l h = well_next R (Typed R G (Some boolean_type)) (Typed R G T) (exp R me a l) (λ r. on_truth r.0 (exp R me b r.1) (done (value (truth false, r.1)))) (exp_well a (Some boolean_type) t.0 l h)
          (λ r k. both_or_either r.0 (exp R me b r.1) (done (value (truth false, r.1))) T (claimed b T t.2 (λ l' h'. exp_well b (Some boolean_type) t.1 l' h') r.1 k.1) (given R sound (Some boolean_type) T (truth false) t.2 refl, k.1))
      exp_well (core.either p a b) T t l h = well_next R (Typed R G (Some boolean_type)) (Typed R G T) (exp R me a l) (λ r. on_truth r.0 (done (value (truth true, r.1))) (exp R me b r.1)) (exp_well a (Some boolean_type) t.0 l h)
          (λ r k. both_or_either r.0 (done (value (truth true, r.1))) (exp R me b r.1) T (given R sound (Some boolean_type) T (truth true) t.2 refl, k.1) (claimed b T t.2 (λ l' h'. exp_well b (Some boolean_type) t.1 l' h') r.1 k.1))
      exp_well (core.cast p c e) T t l h = well_next R (Typed R G (Some (reference t.0))) (Typed R G T) (exp R me e l) (λ r. done (with_locals r.1 (cast_value (is_instance R c r.0) r.0))) (exp_well e (Some (reference t.0)) t.1 l h)
          (λ r k. with_fits R G (λ v. IsTrue (fits R (reference c) v)) T (λ v i. given R sound (Some (reference c)) T v t.2 i) r.1 (cast_value (is_instance R c r.0) r.0) (cast_fits R c r.0 (is_instance R c r.0) refl) k.1)
      exp_well (core.static_call p m es) T t l h = well_next R (AllTyped (R.params m)) (Typed R G T) (exps R me es l) (λ z. call (invoke m null z.0) (λ o. done (answer z.1 o))) (exps_well es (R.params m) t.2 l h)
          (λ z k. called m null z.0 z.1 (R.result m) T (t.0, subst (λ x. IsReceiver R x null) (sym t.1) refl, k.0) refl t.3 k.1)
      exp_well (core.instance_call p e m es) T t l h = well_next R (Typed R G (Some (reference t.0))) (Typed R G T) (exp R me e l)
          (λ r. next (exps R me es r.1) (λ z. on_class (class_of R r.0) (λ c. call (invoke (unwrap_or (R.dispatch c m) m) r.0 z.0) (λ o. done (answer z.1 o))))) (exp_well e (Some (reference t.0)) t.3 l h)
          (λ r k. well_next R (AllTyped (R.params m)) (Typed R G T) (exps R me es r.1) (λ z. on_class (class_of R r.0) (λ c. call (invoke (unwrap_or (R.dispatch c m) m) r.0 z.0) (λ o. done (answer z.1 o)))) (exps_well es (R.params m) t.4 r.1 k.1)
          (λ z j. well_class R (Typed R G T) t.0 r.0 (λ c. call (invoke (unwrap_or (R.dispatch c m) m) r.0 z.0) (λ o. done (answer z.1 o))) k.0
          (λ d i s. let f = found_fits t.0 d m r.0 z.0 t.1 t.2 i s j.0 (R.dispatch d m) refl in called (unwrap_or (R.dispatch d m) m) r.0 z.0 z.1 (R.result m) T f.made f.result t.5 j.1)))
      exp_well (core.super_call p e m es) T t l h = well_next R (Typed R G (Some (reference t.0))) (Typed R G T) (exp R me e l)
          (λ r. next (exps R me es r.1) (λ z. non_null r.0 (call (invoke m r.0 z.0) (λ o. done (answer z.1 o))))) (exp_well e (Some (reference t.0)) t.3 l h)
          (λ r k. well_next R (AllTyped (R.params m)) (Typed R G T) (exps R me es r.1) (λ z. non_null r.0 (call (invoke m r.0 z.0) (λ o. done (answer z.1 o)))) (exps_well es (R.params m) t.4 r.1 k.1)
          (λ z j. well_instance R (Typed R G T) t.0 r.0 (call (invoke m r.0 z.0) (λ o. done (answer z.1 o))) k.0
          (λ i. called m r.0 z.0 z.1 (R.result m) T (t.1, subst (λ x. IsReceiver R x r.0) (sym t.2) i, j.0) refl t.5 j.1)))
      exp_well (core.create p c k es) T t l h = λ o new. well_next R (AllTyped (R.constructor_params k)) (Typed R G T) (exps R me es l) (λ z. call (construct k o z.0) (λ a. done (constructed o z.1 a))) (exps_well es (R.constructor_params k) t.2 l h)
          (λ z j.
          let i : IsTrue (is_instance R c o) = new_is_instance R sound c o new in
          ((t.0, subst (λ x. IsTrue (is_instance R x o)) (sym t.1) i, j.0), λ a q. constructed_fits R G sound (Some (reference c)) T o z.1 a (instance_fits R c o i) t.3 j.1))
      exp_well (core.super_constructor p e k es) T t l h = well_next R (Typed R G (Some (reference (R.constructor_class k)))) (Typed R G T) (exp R me e l)
          (λ r. next (exps R me es r.1) (λ z. non_null r.0 (call (construct k r.0 z.0) (λ a. done (constructed r.0 z.1 a))))) (exp_well e (Some (reference (R.constructor_class k))) t.1 l h)
          (λ r i. well_next R (AllTyped (R.constructor_params k)) (Typed R G T) (exps R me es r.1) (λ z. non_null r.0 (call (construct k r.0 z.0) (λ a. done (constructed r.0 z.1 a)))) (exps_well es (R.constructor_params k) t.2 r.1 i.1)
          (λ z j. well_instance R (Typed R G T) (R.constructor_class k) r.0 (call (construct k r.0 z.0) (λ a. done (constructed r.0 z.1 a))) i.0
          (λ o. ((t.0, o, j.0), λ a q. constructed_fits R G sound (Some (reference (R.constructor_class k))) T r.0 z.1 a i.0 t.3 j.1))))

      target_well : (x : Target K) (U : Ty K) → TargetHas R G C x U → (l : List (Value K)) → LocalsFit R G l → Well R (SlotTyped R G U) (target R me x l)
      target_well (core.local p n) U t l h = (t, h)
      target_well (core.static_field p f) U t l h = (t, h)
      target_well (core.field_of p e f) U t l h = well_next R (Typed R G (Some (reference t.0))) (SlotTyped R G U) (exp R me e l) (λ r. done (value (in_object p r.0 f, r.1))) (exp_well e (Some (reference t.0)) t.1 l h) (λ r k. (t.2, k.1))

      exps_well : (es : Exps K) (Ts : List (Ty K)) → HaveTypes R G C es Ts → (l : List (Value K)) → LocalsFit R G l → Well R (AllTyped Ts) (exps R me es l)
      exps_well core.Exps.end Ts t l h = (subst (λ Us. ArgsFit R Us []) (sym t) tt, h)
      exps_well (core.Exps.more e es) Ts t l h = well_next R (Typed R G (Some t.0)) (AllTyped Ts) (exp R me e l) (λ r. next (exps R me es r.1) (λ z. done (value (r.0 ∷ z.0, z.1)))) (exp_well e (Some t.0) t.3 l h)
          (λ r k. well_next R (AllTyped t.1) (AllTyped Ts) (exps R me es r.1) (λ z. done (value (r.0 ∷ z.0, z.1))) (exps_well es t.1 t.4 r.1 k.1) (λ z j. (subst (λ Us. ArgsFit R Us (r.0 ∷ z.0)) (sym t.2) (k.0, j.0), j.1)))
