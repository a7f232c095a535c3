-- An expression of any kind leaves alone the locals that it doesn't name as written, whatever calls answer.
use Rattle.std.proofs.Common.{◌≡◌, ℕ, List, [], ◌∷◌, ◌++◌, Option, Some, None, unwrap_or, true, false, refl, sym, ap, ◌∙◌, subst, inl}
use Rattle.jr_plans.specs.Plan.{done, call}
use Rattle.jr_plans.specs.Finite.{Results}
use Rattle.jr_plans.proofs.Resulting.{results_and, and_then_where}
use Rattle.jr_runs.specs.Keys.{Keys}
use Rattle.jr_runs.specs.Values.{Value, int, truth, null, text, class_object, object}
use Rattle.jr_runs.specs.Actions.{part}
use Rattle.jr_runs.specs.Rows.{Rows}
use Rattle.jr_runs.specs.Fitting.{class_of, is_instance}
use Rattle.jr_runs.specs.Arithmetic.{Out, value, thrown, calculate, number_of, operate, sign, bumped, bump_value}
use Rattle.jr_runs.specs.Core as core
use Rattle.jr_runs.specs.Core.{Operator, Exp, Target, Exps}
use Rattle.jr_runs.specs.Evaluation.{Flow, goes_on, returns, invoke, construct, Step, on_value, next, Slot, in_local, in_static, in_object, load_from, store_to, store_field, non_null, on_truth, on_class, with_locals, cast_value, answer, constructed, exp, target, exps}
use Rattle.jr_runs.specs.Standing.{In}
use Rattle.jr_runs.proofs.Locals.{not_written}
use Rattle.jr_runs_held.specs.Held.{Silent}
use Rattle.jr_runs_held.specs.Footprint.{own_local, writes_in, target_writes, list_writes}
use Rattle.jr_runs_held.specs.Places.{operates_behind, run_wrap}
use Rattle.jr_runs_held.proofs.Steps.{results_more, results_all}
use Rattle.jr_runs_held.proofs.CalmCode.{OfValue, Kept, kept_on, kept_first}

module _ {K : Keys} where
  of_next : {A B : Type 0} (Q : A → Type 0) (Q' : B → Type 0) (p : Step K A) (k : A → Step K B) → Results (OfValue Q) p → ((a : A) → Q a → Results (OfValue Q') (k a)) → Results (OfValue Q') (next p k)
  of_next {A = A} Q Q' p k h g = results_and (OfValue Q) (OfValue Q') p (on_value k) h go
    where
      go : (o : Out A) → OfValue Q o → Results (OfValue Q') (on_value k o)
      go (value a) u = g a u
      go (thrown f) u = tt

  of_all : {A : Type 0} (p : Step K A) → Results (OfValue (λ (a : A). Unit {0})) p
  of_all {A = A} p = results_all (OfValue (λ (a : A). Unit {0})) go p
    where
      go : (o : Out A) → OfValue (λ (a : A). Unit {0}) o
      go (value a) = tt
      go (thrown f) = tt

  of_non_null : {A : Type 0} (Q : A → Type 0) (v : Value K) (p : Step K A) → Results (OfValue Q) p → Results (OfValue Q) (non_null v p)
  of_non_null Q null p h = tt
  of_non_null Q (int n) p h = h
  of_non_null Q (truth b) p h = h
  of_non_null Q (text t) p h = h
  of_non_null Q (class_object c) p h = h
  of_non_null Q (object n c) p h = h

  of_truth : {A : Type 0} (Q : A → Type 0) (v : Value K) (p q : Step K A) → Results (OfValue Q) p → Results (OfValue Q) q → Results (OfValue Q) (on_truth v p q)
  of_truth Q (truth true) p q h g = h
  of_truth Q (truth false) p q h g = g
  of_truth Q null p q h g = g
  of_truth Q (int n) p q h g = g
  of_truth Q (text t) p q h g = g
  of_truth Q (class_object c) p q h g = g
  of_truth Q (object n c) p q h g = g

  of_class : {A : Type 0} (Q : A → Type 0) (o : Option K.class) (k : K.class → Step K A) → ((c : K.class) → Results (OfValue Q) (k c)) → Results (OfValue Q) (on_class o k)
  of_class Q None k h = tt
  of_class Q (Some c) k h = h c

  of_locals : (ws : List ℕ) (l m : List (Value K)) → Kept ws l m → (o : Out (Value K)) → OfValue (λ (a : Value K × List (Value K)). Kept ws l a.1) (with_locals m o)
  of_locals ws l m h (value v) = h
  of_locals ws l m h (thrown f) = tt

  of_answer : (ws : List ℕ) (l m : List (Value K)) → Kept ws l m → (o : Out (Flow K)) → OfValue (λ (a : Value K × List (Value K)). Kept ws l a.1) (answer m o)
  of_answer ws l m h (value (returns (Some v))) = h
  of_answer ws l m h (value (returns None)) = h
  of_answer ws l m h (value (goes_on n)) = h
  of_answer ws l m h (thrown f) = tt

  of_constructed : (ws : List ℕ) (l m : List (Value K)) (v : Value K) → Kept ws l m → (o : Out (Flow K)) → OfValue (λ (a : Value K × List (Value K)). Kept ws l a.1) (constructed v m o)
  of_constructed ws l m v h (value f) = h
  of_constructed ws l m v h (thrown f) = tt

  abbrev local_of : Slot K → List ℕ
  local_of (in_local n) = n ∷ []
  local_of (in_static p f) = []
  local_of (in_object p o f) = []

on_left : {K : Keys} (ws us : List ℕ) (l m : List (Value K)) → Kept ws l m → (o : Out (Value K × List (Value K))) → OfValue (λ a. Kept us m a.1) o → OfValue (λ a. Kept (ws ++ us) l a.1) o
on_left ws us l m h (value a) g = kept_on ws us l m a.1 h g
on_left ws us l m h (thrown f) g = tt

module _ {K : Keys} (R : Rows K) (me : Value K) where
  of_store : (x : Slot K) (v : Value K) (l : List (Value K)) → Results (OfValue (Kept (local_of x) l)) (store_to R x v l)
  of_store (in_local n) v l = λ i d. not_written l n i v (λ e. d (inl e))
  of_store (in_static p f) v l = λ i d. refl
  of_store (in_object p o f) v l = of_non_null (Kept [] l) o (store_field R p (part o f) f v l) (λ i d. refl)

  abbrev Leaves : List ℕ → List (Value K) → Value K × List (Value K) → Type 0
  Leaves ws l a = Kept ws l a.1

  abbrev LeavesAll : List ℕ → List (Value K) → List (Value K) × List (Value K) → Type 0
  LeavesAll ws l a = Kept ws l a.1

  -- and it is a slot of the target
  abbrev Slots : Target K → List (Value K) → Slot K × List (Value K) → Type 0
  Slots t l a = Kept (target_writes t) l a.1 × (local_of a.0 ≡ own_local t)

  -- what is stored in a slot of the target, behind what wrote ws
  of_stored : (t : Target K) (ws us : List ℕ) (l m o : List (Value K)) → Kept ws l m → Kept us m o → (x : Slot K) → local_of x ≡ own_local t → (v w : Value K)
      → Results (OfValue (Leaves (ws ++ (us ++ own_local t)) l)) (next (store_to R x v o) (λ n. done (value (w, n))))
  of_stored t ws us l m o h g x e v w = of_next (Kept (local_of x) o) (Leaves (ws ++ (us ++ own_local t)) l) (store_to R x v o) (λ n. done (value (w, n))) (of_store x v o)
      (λ n k. kept_on ws (us ++ own_local t) l m n h (kept_on us (own_local t) m o n g (subst (λ ns. Kept ns o n) e k)))

  mutual
    pub exp_kept : (e : Exp K) (l : List (Value K)) → Results (OfValue (Leaves (writes_in e) l)) (exp R me e l)
    exp_kept (core.literal p v) l = λ i d. refl
    exp_kept (core.this p) l = λ i d. refl
    exp_kept (core.read p t) l = of_next (Slots t l) (Leaves (target_writes t) l) (target R me t l) (λ r. next (load_from R r.0 r.1) (λ v. done (value (v, r.1)))) (target_kept t l)
        (λ r h. of_next (λ v. Unit {0}) (Leaves (target_writes t) l) (load_from R r.0 r.1) (λ v. done (value (v, r.1))) (of_all (load_from R r.0 r.1)) (λ v u. h.0))
    exp_kept (core.assign p t e) l = of_next (Slots t l) (Leaves (target_writes t ++ (writes_in e ++ own_local t)) l) (target R me t l) (λ r. next (exp R me e r.1) (λ s. next (store_to R r.0 s.0 s.1) (λ m. done (value (s.0, m))))) (target_kept t l)
        (λ r h. of_next (Leaves (writes_in e) r.1) (Leaves (target_writes t ++ (writes_in e ++ own_local t)) l) (exp R me e r.1) (λ s. next (store_to R r.0 s.0 s.1) (λ m. done (value (s.0, m)))) (exp_kept e r.1)
        (λ s g. of_stored t (target_writes t) (writes_in e) l r.1 s.1 h.0 g r.0 h.1 s.0 s.0))
    exp_kept (core.compound p op t e) l = of_next (Slots t l) (Leaves (target_writes t ++ (writes_in e ++ own_local t)) l) (target R me t l)
        (λ r. next (load_from R r.0 r.1) (λ old. next (exp R me e r.1) (λ s. next (done (calculate op (number_of old) (number_of s.0))) (λ v. next (store_to R r.0 v s.1) (λ m. done (value (v, m))))))) (target_kept t l)
        (λ r h. of_next (λ v. Unit {0}) (Leaves (target_writes t ++ (writes_in e ++ own_local t)) l) (load_from R r.0 r.1)
        (λ old. next (exp R me e r.1) (λ s. next (done (calculate op (number_of old) (number_of s.0))) (λ v. next (store_to R r.0 v s.1) (λ m. done (value (v, m)))))) (of_all (load_from R r.0 r.1))
        (λ old u. of_next (Leaves (writes_in e) r.1) (Leaves (target_writes t ++ (writes_in e ++ own_local t)) l) (exp R me e r.1) (λ s. next (done (calculate op (number_of old) (number_of s.0))) (λ v. next (store_to R r.0 v s.1) (λ m. done (value (v, m))))) (exp_kept e r.1)
        (λ s g. of_next (λ v. Unit {0}) (Leaves (target_writes t ++ (writes_in e ++ own_local t)) l) (done (calculate op (number_of old) (number_of s.0))) (λ v. next (store_to R r.0 v s.1) (λ m. done (value (v, m)))) (of_all {K = K} (done (calculate op (number_of old) (number_of s.0))))
        (λ v w. of_stored t (target_writes t) (writes_in e) l r.1 s.1 h.0 g r.0 h.1 v v))))
    exp_kept (core.bump p op t) l = of_next (Slots t l) (Leaves (target_writes t ++ own_local t) l) (target R me t l) (λ r. next (load_from R r.0 r.1) (λ old. next (store_to R r.0 (bumped op old) r.1) (λ m. done (value (bump_value op old (bumped op old), m))))) (target_kept t l)
        (λ r h. of_next (λ v. Unit {0}) (Leaves (target_writes t ++ own_local t) l) (load_from R r.0 r.1) (λ old. next (store_to R r.0 (bumped op old) r.1) (λ m. done (value (bump_value op old (bumped op old), m)))) (of_all (load_from R r.0 r.1))
        (λ old u. of_stored t (target_writes t) [] l r.1 r.1 h.0 (λ i d. refl) r.0 h.1 (bumped op old) (bump_value op old (bumped op old))))
    exp_kept (core.signed p op e) l = of_next (Leaves (writes_in e) l) (Leaves (writes_in e) l) (exp R me e l) (λ r. done (value (sign op r.0, r.1))) (exp_kept e l) (λ r h. h)
    exp_kept (core.binary p op a b) l = of_next (Leaves (writes_in a) l) (Leaves (writes_in a ++ writes_in b) l) (exp R me a l) (λ r. next (exp R me b r.1) (λ s. done (with_locals s.1 (operate R.same_class op r.0 s.0)))) (exp_kept a l)
        (λ r h. of_next (Leaves (writes_in b) r.1) (Leaves (writes_in a ++ writes_in b) l) (exp R me b r.1) (λ s. done (with_locals s.1 (operate R.same_class op r.0 s.0))) (exp_kept b r.1)
        (λ s g. of_locals (writes_in a ++ writes_in b) l s.1 (kept_on (writes_in a) (writes_in b) l r.1 s.1 h g) (operate R.same_class op r.0 s.0)))
    exp_kept (core.both p a b) l = of_next (Leaves (writes_in a) l) (Leaves (writes_in a ++ writes_in b) l) (exp R me a l) (λ r. on_truth r.0 (exp R me b r.1) (done (value (truth false, r.1)))) (exp_kept a l)
        (λ r h. of_truth (Leaves (writes_in a ++ writes_in b) l) r.0 (exp R me b r.1) (done (value (truth false, r.1))) (results_more (OfValue (Leaves (writes_in b) r.1)) (OfValue (Leaves (writes_in a ++ writes_in b) l)) (on_left (writes_in a) (writes_in b) l r.1 h) (exp R me b r.1) (exp_kept b r.1)) (kept_first (writes_in a) (writes_in b) l r.1 h))
    exp_kept (core.either p a b) l = of_next (Leaves (writes_in a) l) (Leaves (writes_in a ++ writes_in b) l) (exp R me a l) (λ r. on_truth r.0 (done (value (truth true, r.1))) (exp R me b r.1)) (exp_kept a l)
        (λ r h. of_truth (Leaves (writes_in a ++ writes_in b) l) r.0 (done (value (truth true, r.1))) (exp R me b r.1) (kept_first (writes_in a) (writes_in b) l r.1 h) (results_more (OfValue (Leaves (writes_in b) r.1)) (OfValue (Leaves (writes_in a ++ writes_in b) l)) (on_left (writes_in a) (writes_in b) l r.1 h) (exp R me b r.1) (exp_kept b r.1)))
    exp_kept (core.cast p c e) l = of_next (Leaves (writes_in e) l) (Leaves (writes_in e) l) (exp R me e l) (λ r. done (with_locals r.1 (cast_value (is_instance R c r.0) r.0))) (exp_kept e l) (λ r h. of_locals (writes_in e) l r.1 h (cast_value (is_instance R c r.0) r.0))
    exp_kept (core.static_call p m es) l = of_next (LeavesAll (list_writes es) l) (Leaves (list_writes es) l) (exps R me es l) (λ s. call (invoke m null s.0) (λ o. done (answer s.1 o))) (exps_kept es l) (λ s h o. of_answer (list_writes es) l s.1 h o)
    exp_kept (core.instance_call p e m es) l = of_next (Leaves (writes_in e) l) (Leaves (writes_in e ++ list_writes es) l) (exp R me e l) (λ r. next (exps R me es r.1) (λ s. on_class (class_of R r.0) (λ c. call (invoke (unwrap_or (R.dispatch c m) m) r.0 s.0) (λ o. done (answer s.1 o))))) (exp_kept e l)
        (λ r h. of_next (LeavesAll (list_writes es) r.1) (Leaves (writes_in e ++ list_writes es) l) (exps R me es r.1) (λ s. on_class (class_of R r.0) (λ c. call (invoke (unwrap_or (R.dispatch c m) m) r.0 s.0) (λ o. done (answer s.1 o)))) (exps_kept es r.1)
        (λ s g. of_class (Leaves (writes_in e ++ list_writes es) l) (class_of R r.0) (λ c. call (invoke (unwrap_or (R.dispatch c m) m) r.0 s.0) (λ o. done (answer s.1 o))) (λ c o. of_answer (writes_in e ++ list_writes es) l s.1 (kept_on (writes_in e) (list_writes es) l r.1 s.1 h g) o)))
    exp_kept (core.super_call p e m es) l = of_next (Leaves (writes_in e) l) (Leaves (writes_in e ++ list_writes es) l) (exp R me e l) (λ r. next (exps R me es r.1) (λ s. non_null r.0 (call (invoke m r.0 s.0) (λ o. done (answer s.1 o))))) (exp_kept e l)
        (λ r h. of_next (LeavesAll (list_writes es) r.1) (Leaves (writes_in e ++ list_writes es) l) (exps R me es r.1) (λ s. non_null r.0 (call (invoke m r.0 s.0) (λ o. done (answer s.1 o)))) (exps_kept es r.1)
        (λ s g. of_non_null (Leaves (writes_in e ++ list_writes es) l) r.0 (call (invoke m r.0 s.0) (λ o. done (answer s.1 o))) (λ o. of_answer (writes_in e ++ list_writes es) l s.1 (kept_on (writes_in e) (list_writes es) l r.1 s.1 h g) o)))
    exp_kept (core.create p c k es) l = λ v. of_next (LeavesAll (list_writes es) l) (Leaves (list_writes es) l) (exps R me es l) (λ s. call (construct k v s.0) (λ a. done (constructed v s.1 a))) (exps_kept es l) (λ s h o. of_constructed (list_writes es) l s.1 v h o)
    exp_kept (core.super_constructor p e k es) l = of_next (Leaves (writes_in e) l) (Leaves (writes_in e ++ list_writes es) l) (exp R me e l) (λ r. next (exps R me es r.1) (λ s. non_null r.0 (call (construct k r.0 s.0) (λ a. done (constructed r.0 s.1 a))))) (exp_kept e l)
        (λ r h. of_next (LeavesAll (list_writes es) r.1) (Leaves (writes_in e ++ list_writes es) l) (exps R me es r.1) (λ s. non_null r.0 (call (construct k r.0 s.0) (λ a. done (constructed r.0 s.1 a)))) (exps_kept es r.1)
        (λ s g. of_non_null (Leaves (writes_in e ++ list_writes es) l) r.0 (call (construct k r.0 s.0) (λ a. done (constructed r.0 s.1 a))) (λ o. of_constructed (writes_in e ++ list_writes es) l s.1 r.0 (kept_on (writes_in e) (list_writes es) l r.1 s.1 h g) o)))

    target_kept : (t : Target K) (l : List (Value K)) → Results (OfValue (Slots t l)) (target R me t l)
    target_kept (core.local p n) l = ((λ i d. refl), refl)
    target_kept (core.static_field p f) l = ((λ i d. refl), refl)
    target_kept (core.field_of p e f) l = of_next (Leaves (writes_in e) l) (Slots (core.field_of p e f) l) (exp R me e l) (λ r. done (value (in_object p r.0 f, r.1))) (exp_kept e l) (λ r h. (h, refl))

    exps_kept : (es : Exps K) (l : List (Value K)) → Results (OfValue (LeavesAll (list_writes es) l)) (exps R me es l)
    exps_kept core.Exps.end l = λ i d. refl
    exps_kept (core.Exps.more e es) l = of_next (Leaves (writes_in e) l) (LeavesAll (writes_in e ++ list_writes es) l) (exp R me e l) (λ r. next (exps R me es r.1) (λ s. done (value (r.0 ∷ s.0, s.1)))) (exp_kept e l)
        (λ r h. of_next (LeavesAll (list_writes es) r.1) (LeavesAll (writes_in e ++ list_writes es) l) (exps R me es r.1) (λ s. done (value (r.0 ∷ s.0, s.1))) (exps_kept es r.1)
        (λ s g. kept_on (writes_in e) (list_writes es) l r.1 s.1 h g))

  -- a silent left operand comes to the same behind the right one, which leaves alone what it reads
  pub left_behind : (op : Operator) (a : Exp K) (rs : List ℕ) (silent : Silent R a rs) (x : Exp K) → ((i : ℕ) → In i rs → In i (writes_in x) → ⊥) → (l : List (Value K))
      → next (exp R me x l) (λ s. done (with_locals s.1 (operate R.same_class op (silent.result me l) s.0))) ≡ next (exp R me x l) (run_wrap R me (operates_behind op a))
  left_behind op a rs silent x apart l =
      let k : Value K × List (Value K) → Step K (Value K × List (Value K)) = λ s. done (with_locals s.1 (operate R.same_class op (silent.result me l) s.0)) in
      and_then_where (OfValue (Leaves (writes_in x) l)) (exp R me x l) (on_value k) (on_value (run_wrap R me (operates_behind op a))) (exp_kept x l) go
    where
      go : (o : Out (Value K × List (Value K))) → OfValue (Leaves (writes_in x) l) o
          → on_value (λ s. done (with_locals s.1 (operate R.same_class op (silent.result me l) s.0))) o ≡ on_value (run_wrap R me (operates_behind op a)) o
      go (value s) u =
          ap (λ v. done (with_locals s.1 (operate R.same_class op v s.0))) (sym (silent.same me l s.1 (λ i r. u i (λ w. apart i r w))))
          ∙ sym (ap (λ p. next p (λ v. done (with_locals v.1 (operate R.same_class op v.0 s.0)))) (silent.comes me s.1))
      go (thrown f) u = refl
