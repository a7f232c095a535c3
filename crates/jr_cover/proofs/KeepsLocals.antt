-- Code that assigns no local of N leaves those as they are, wherever they are in scope.
use Rattle.std.proofs.Common.{◌≡◌, ℕ, Bool, true, false, cond, List, [], ◌∷◌, Option, Some, None, unwrap_or, refl, sym, ap, subst, ◌∙◌, ⊎_elim}
use Rattle.std.proofs.lemmas.Bool.{cases_eq, ne_eqb}
use Rattle.jr_plans.specs.Plan.{Plan, done, act, ask, call}
use Rattle.jr_plans.specs.Safe.{Safe}
use Rattle.jr_plans.proofs.Safety.{safe_and, safe_more}
use Rattle.jr_runs.specs.Keys.{Keys}
use Rattle.jr_runs.specs.Values.{Value, int, truth, null, text, class_object, object, Ty}
use Rattle.jr_runs.specs.Actions.{part, enter, exit, Event, placed}
use Rattle.jr_runs.specs.Rows.{Rows}
use Rattle.jr_runs.specs.Fitting.{class_of, is_instance}
use Rattle.jr_runs.specs.Arithmetic.{Out, value, thrown, calculate, number_of, operate, sign, bumped, bump_value}
use Rattle.jr_runs.specs.Core as core
use Rattle.jr_runs.specs.Core.{Exp, Target, Exps, Stmt, Stmts, Program, arithmetic, comparison, equal, different, plus, minus, complement}
use Rattle.jr_runs.specs.Evaluation.{Flow, goes_on, returns, Call, invoke, construct, turn, Step, on_value, next, non_null, on_truth, on_class, on_flow, leaving, Slot, in_local, in_static, in_object, load_field, store_field, load_from, store_to, local_at, with_local, with_locals, unset, cast_value, answer, constructed, exp, target, exps, stmt, stmts}
use Rattle.jr_runs.specs.Typing.{type_of, AreNew, StmtTyped, StmtsTyped}
use Rattle.jr_runs.specs.TypedRuns.{OutHas}
use Rattle.jr_runs.proofs.Locals.{not_written}
use Rattle.jr_cover.proofs.Sparing.{SparingExp, SparingStmt, SparingStmts, SparedBy}
use Rattle.jr_cover.specs.Evaluated.{part}
use Rattle.jr_cover.specs.NeverNull.{IsFree, CarefulExp, CarefulTarget, CarefulExps, CarefulStmt, CarefulStmts}

module _ {K : Keys} (R : Rows K) (N : ℕ → Bool) where
  -- the locals of N that both lists have are the same
  abbrev pub Same : List (Value K) → List (Value K) → Type 0
  Same l m = (i : ℕ) → N i ≡ true → local_at m i ≡ local_at l i

  -- the same where they are in scope
  abbrev pub SameIn : List (ℕ × Ty K) → List (Value K) → List (Value K) → Type 0
  SameIn G l m = (i : ℕ) (T : Ty K) → type_of G i ≡ Some T → N i ≡ true → local_at m i ≡ local_at l i

  abbrev pub FlowSame : List (ℕ × Ty K) → List (Value K) → Flow K → Type 0
  FlowSame G l (goes_on m) = SameIn G l m
  FlowSame G l (returns v) = Unit {0}

  -- the same whatever is in scope
  abbrev pub Untouched : List (Value K) → Flow K → Type 0
  Untouched l (goes_on m) = Same l m
  Untouched l (returns v) = Unit {0}

  pub record Turn (c : Exp K) (b : Stmt K) (G : List (ℕ × Ty K)) : Type 0 where
    class : Option K.class
    result : Option (Ty K)
    behind : List (ℕ × Ty K)
    typed : StmtTyped R G class result b behind
    condition : CarefulExp N c
    body : CarefulStmt N b

  abbrev pub Asked : Call K → Type 0
  Asked c = Unit {0}

  abbrev pub Answered : Call K → Out (Flow K) → Type 0
  Answered (invoke m me vs) o = Unit {0}
  Answered (construct k me vs) o = Unit {0}
  Answered (turn me c b l) o = ((G : List (ℕ × Ty K)) → Turn c b G → OutHas (FlowSame G l) o) × (SparingExp N c × SparingStmt N b → OutHas (Untouched l) o)

  abbrev pub Keep : {A : Type 0} → (A → Type 0) → Step K A → Type 0
  Keep Q x = Safe Asked Answered (OutHas Q) x

  pub keep_next : {A B : Type 0} (Q : A → Type 0) (Q' : B → Type 0) (x : Step K A) (k : A → Step K B) → Keep Q x → ((a : A) → Q a → Keep Q' (k a)) → Keep Q' (next x k)
  keep_next {A = A} Q Q' x k h g = safe_and Asked Answered (OutHas Q) (OutHas Q') x (on_value k) h go
    where
      go : (o : Out A) → OutHas Q o → Keep Q' (on_value k o)
      go (value a) q = g a q
      go (thrown f) q = tt

  keep_null : {A : Type 0} (Q : A → Type 0) (v : Value K) (x : Step K A) → Keep Q x → Keep Q (non_null v x)
  keep_null Q null x h = tt
  keep_null Q (int z) x h = h
  keep_null Q (truth b) x h = h
  keep_null Q (text t) x h = h
  keep_null Q (class_object c) x h = h
  keep_null Q (object i c) x h = h

  keep_truth : {A : Type 0} (Q : A → Type 0) (v : Value K) (x y : Step K A) → Keep Q x → Keep Q y → Keep Q (on_truth v x y)
  keep_truth Q (truth true) x y h g = h
  keep_truth Q (truth false) x y h g = g
  keep_truth Q null x y h g = g
  keep_truth Q (int z) x y h g = g
  keep_truth Q (text t) x y h g = g
  keep_truth Q (class_object c) x y h g = g
  keep_truth Q (object i c) x y h g = g

  keep_class : {A : Type 0} (Q : A → Type 0) (o : Option K.class) (k : K.class → Step K A) → ((c : K.class) → Keep Q (k c)) → Keep Q (on_class o k)
  keep_class Q None k h = tt
  keep_class Q (Some c) k h = h c

  abbrev Beside : {A : Type 0} → List (Value K) → A × List (Value K) → Type 0
  Beside l r = Same l r.1

  with_kept : (l m : List (Value K)) → Same l m → (o : Out (Value K)) → OutHas (Beside {A = Value K} l) (with_locals m o)
  with_kept l m s (value a) = s
  with_kept l m s (thrown f) = tt

  answer_kept : (l m : List (Value K)) → Same l m → (o : Out (Flow K)) → OutHas (Beside {A = Value K} l) (answer m o)
  answer_kept l m s (value (returns (Some v))) = s
  answer_kept l m s (value (returns None)) = s
  answer_kept l m s (value (goes_on k)) = s
  answer_kept l m s (thrown f) = tt

  constructed_kept : (v : Value K) (l m : List (Value K)) → Same l m → (o : Out (Flow K)) → OutHas (Beside {A = Value K} l) (constructed v m o)
  constructed_kept v l m s (value f) = s
  constructed_kept v l m s (thrown f) = tt

  true_false : {B : Type 0} (b : Bool) → b ≡ true → b ≡ false → B
  true_false b e f = absurd (apart (sym e ∙ f))
    where
      apart : true ≡ false → ⊥
      apart i = cc

  -- a local that isn't of N
  written_same : (l m : List (Value K)) (n : ℕ) (v : Value K) → N n ≡ false → Same l m → Same l (with_local m n v)
  written_same l m n v e s i t = not_written m n i v (λ (q : i ≡ n). true_false (N i) t (ap N q ∙ e)) ∙ s i t

  abbrev SlotFree : Slot K → Type 0
  SlotFree (in_local n) = N n ≡ false
  SlotFree (in_static p f) = Unit {0}
  SlotFree (in_object p o f) = Unit {0}

  keep_load : (x : Slot K) (l : List (Value K)) → Keep (λ v. Unit {0}) (load_from R x l)
  keep_load (in_local n) l = tt
  keep_load (in_static p f) l = λ v i. tt
  keep_load (in_object p o f) l = keep_null (λ v. Unit {0}) o (load_field R p (part o f) f) (λ v i. tt)

  keep_store : (l m : List (Value K)) (x : Slot K) (v : Value K) → SlotFree x → Same l m → Keep (λ k. Same l k) (store_to R x v m)
  keep_store l m (in_local n) v e s = written_same l m n v e s
  keep_store l m (in_static p f) v e s = s
  keep_store l m (in_object p o f) v e s = keep_null (λ k. Same l k) o (store_field R p (part o f) f v m) s

  onward : (l m k : List (Value K)) → Same l m → Same m k → Same l k
  onward l m k s t i e = t i e ∙ s i e

  module _ (me : Value K) where
    abbrev pub Aim : Target K → List (Value K) → Slot K × List (Value K) → Type 0
    Aim t l r = Same l r.1 × (IsFree N t → SlotFree r.0)

    abbrev KeepV : List (Value K) → Step K (Value K × List (Value K)) → Type 0
    KeepV l x = Keep (λ (r : Value K × List (Value K)). Same l r.1) x

    -- what follows a value that was computed beside the same locals
    then_value : (l : List (Value K)) (x : Step K (Value K × List (Value K))) (k : Value K × List (Value K) → Step K (Value K × List (Value K))) → KeepV l x → ((v : Value K) (m : List (Value K)) → Same l m → KeepV l (k (v, m))) → KeepV l (next x k)
    then_value l x k g h = keep_next (λ (r : Value K × List (Value K)). Same l r.1) (λ (r : Value K × List (Value K)). Same l r.1) x k g (λ r s. h r.0 r.1 s)

    weaken : (l m : List (Value K)) → Same l m → (x : Step K (Value K × List (Value K))) → KeepV m x → KeepV l x
    weaken l m s x g = safe_more Asked Answered (OutHas (λ (r : Value K × List (Value K)). Same m r.1)) (OutHas (λ (r : Value K × List (Value K)). Same l r.1)) more x g
      where
        more : (o : Out (Value K × List (Value K))) → OutHas (λ (r : Value K × List (Value K)). Same m r.1) o → OutHas (λ (r : Value K × List (Value K)). Same l r.1) o
        more (value r) h = onward l m r.1 s h
        more (thrown f) h = tt

    store_value : (l m : List (Value K)) (x : Slot K) (v w : Value K) → SlotFree x → Same l m → KeepV l (next (store_to R x v m) (λ k. done (value (w, k))))
    store_value l m x v w e s = keep_next (λ k. Same l k) (λ (r : Value K × List (Value K)). Same l r.1) (store_to R x v m) (λ k. done (value (w, k))) (keep_store l m x v e s) (λ k h. h)

    abbrev KeepA : List (Value K) → Step K (List (Value K) × List (Value K)) → Type 0
    KeepA l x = Keep (λ (r : List (Value K) × List (Value K)). Same l r.1) x

    args_then : (l m : List (Value K)) → Same l m → (x : Step K (List (Value K) × List (Value K))) (k : List (Value K) × List (Value K) → Step K (Value K × List (Value K))) → KeepA m x → ((vs n : List (Value K)) → Same l n → KeepV l (k (vs, n))) → KeepV l (next x k)
    args_then l m s x k g h = keep_next (λ (r : List (Value K) × List (Value K)). Same m r.1) (λ (r : Value K × List (Value K)). Same l r.1) x k g (λ r t. h r.0 r.1 (onward l m r.1 s t))

    computed : (o : Out (Value K)) (l m : List (Value K)) (x : Slot K) → SlotFree x → Same l m → KeepV l (next (done o) (λ v. next (store_to R x v m) (λ k. done (value (v, k)))))
    computed (value v) l m x e s = store_value l m x v v e s
    computed (thrown f) l m x e s = tt

    mutual
      pub exp_keeps : (e : Exp K) (l : List (Value K)) → CarefulExp N e → KeepV l (exp R me e l)
      exp_keeps (core.literal p v) l c = λ i t. refl
      exp_keeps (core.this p) l c = λ i t. refl
      exp_keeps (core.read p t) l c = keep_next (Aim t l) (λ (r : Value K × List (Value K)). Same l r.1) (target R me t l) (λ r. next (load_from R r.0 r.1) (λ v. done (value (v, r.1)))) (target_keeps t l c)
          (λ r s. keep_next (λ v. Unit {0}) (λ (r : Value K × List (Value K)). Same l r.1) (load_from R r.0 r.1) (λ v. done (value (v, r.1))) (keep_load r.0 r.1) (λ v u. s.0))
      exp_keeps (core.assign p t e) l c = keep_next (Aim t l) (λ (r : Value K × List (Value K)). Same l r.1) (target R me t l) (λ r. next (exp R me e r.1) (λ z. next (store_to R r.0 z.0 z.1) (λ m. done (value (z.0, m))))) (target_keeps t l c.1)
          (λ r s. then_value l (exp R me e r.1) (λ z. next (store_to R r.0 z.0 z.1) (λ m. done (value (z.0, m)))) (weaken l r.1 s.0 (exp R me e r.1) (exp_keeps e r.1 c.2)) (λ v m u. store_value l m r.0 v v (s.1 c.0) u))
      exp_keeps (core.compound p o t e) l c = keep_next (Aim t l) (λ (r : Value K × List (Value K)). Same l r.1) (target R me t l)
          (λ r. next (load_from R r.0 r.1) (λ old. next (exp R me e r.1) (λ z. next (done (calculate o (number_of old) (number_of z.0))) (λ v. next (store_to R r.0 v z.1) (λ m. done (value (v, m))))))) (target_keeps t l c.1)
          (λ r s. keep_next (λ v. Unit {0}) (λ (r : Value K × List (Value K)). Same l r.1) (load_from R r.0 r.1) (λ old. next (exp R me e r.1) (λ z. next (done (calculate o (number_of old) (number_of z.0))) (λ v. next (store_to R r.0 v z.1) (λ m. done (value (v, m)))))) (keep_load r.0 r.1)
          (λ old u. then_value l (exp R me e r.1) (λ z. next (done (calculate o (number_of old) (number_of z.0))) (λ v. next (store_to R r.0 v z.1) (λ m. done (value (v, m))))) (weaken l r.1 s.0 (exp R me e r.1) (exp_keeps e r.1 c.2))
          (λ w m h. computed (calculate {K = K} o (number_of old) (number_of w)) l m r.0 (s.1 c.0) h)))
      exp_keeps (core.bump p o t) l c = keep_next (Aim t l) (λ (r : Value K × List (Value K)). Same l r.1) (target R me t l) (λ r. next (load_from R r.0 r.1) (λ old. next (store_to R r.0 (bumped o old) r.1) (λ m. done (value (bump_value o old (bumped o old), m))))) (target_keeps t l c.1)
          (λ r s. keep_next (λ v. Unit {0}) (λ (r : Value K × List (Value K)). Same l r.1) (load_from R r.0 r.1) (λ old. next (store_to R r.0 (bumped o old) r.1) (λ m. done (value (bump_value o old (bumped o old), m)))) (keep_load r.0 r.1)
          (λ old u. store_value l r.1 r.0 (bumped o old) (bump_value o old (bumped o old)) (s.1 c.0) s.0))
      exp_keeps (core.signed p o e) l c = then_value l (exp R me e l) (λ r. done (value (sign o r.0, r.1))) (exp_keeps e l c) (λ v m s. s)
      exp_keeps (core.binary p o a b) l c = then_value l (exp R me a l) (λ r. next (exp R me b r.1) (λ z. done (with_locals z.1 (operate R.same_class o r.0 z.0)))) (exp_keeps a l c.0)
          (λ v m s. then_value l (exp R me b m) (λ z. done (with_locals z.1 (operate R.same_class o v z.0))) (weaken l m s (exp R me b m) (exp_keeps b m c.1)) (λ w k t. with_kept l k t (operate R.same_class o v w)))
      exp_keeps (core.both p a b) l c = then_value l (exp R me a l) (λ r. on_truth r.0 (exp R me b r.1) (done (value (truth false, r.1)))) (exp_keeps a l c.0)
          (λ v m s. keep_truth (λ (r : Value K × List (Value K)). Same l r.1) v (exp R me b m) (done (value (truth false, m))) (weaken l m s (exp R me b m) (exp_keeps b m c.1)) s)
      exp_keeps (core.either p a b) l c = then_value l (exp R me a l) (λ r. on_truth r.0 (done (value (truth true, r.1))) (exp R me b r.1)) (exp_keeps a l c.0)
          (λ v m s. keep_truth (λ (r : Value K × List (Value K)). Same l r.1) v (done (value (truth true, m))) (exp R me b m) s (weaken l m s (exp R me b m) (exp_keeps b m c.1)))
      exp_keeps (core.cast p d e) l c = then_value l (exp R me e l) (λ r. done (with_locals r.1 (cast_value (is_instance R d r.0) r.0))) (exp_keeps e l c) (λ v m s. with_kept l m s (cast_value (is_instance R d v) v))
      exp_keeps (core.static_call p m es) l c = args_then l l (λ i t. refl) (exps R me es l) (λ z. call (invoke m null z.0) (λ o. done (answer z.1 o))) (exps_keep es l c) (λ vs n s. (tt, λ o g. answer_kept l n s o))
      exp_keeps (core.instance_call p e m es) l c = then_value l (exp R me e l) (λ r. next (exps R me es r.1) (λ z. on_class (class_of R r.0) (λ d. call (invoke (unwrap_or (R.dispatch d m) m) r.0 z.0) (λ o. done (answer z.1 o))))) (exp_keeps e l c.0)
          (λ v k s. args_then l k s (exps R me es k) (λ z. on_class (class_of R v) (λ d. call (invoke (unwrap_or (R.dispatch d m) m) v z.0) (λ o. done (answer z.1 o)))) (exps_keep es k c.1)
          (λ vs n t. keep_class (λ (r : Value K × List (Value K)). Same l r.1) (class_of R v) (λ d. call (invoke (unwrap_or (R.dispatch d m) m) v vs) (λ o. done (answer n o))) (λ d. (tt, λ o g. answer_kept l n t o))))
      exp_keeps (core.super_call p e m es) l c = then_value l (exp R me e l) (λ r. next (exps R me es r.1) (λ z. non_null r.0 (call (invoke m r.0 z.0) (λ o. done (answer z.1 o))))) (exp_keeps e l c.0)
          (λ v k s. args_then l k s (exps R me es k) (λ z. non_null v (call (invoke m v z.0) (λ o. done (answer z.1 o)))) (exps_keep es k c.1)
          (λ vs n t. keep_null (λ (r : Value K × List (Value K)). Same l r.1) v (call (invoke m v vs) (λ o. done (answer n o))) (tt, λ o g. answer_kept l n t o)))
      exp_keeps (core.create p d k es) l c = λ o i. args_then l l (λ j t. refl) (exps R me es l) (λ z. call (construct k o z.0) (λ a. done (constructed o z.1 a))) (exps_keep es l c) (λ vs n s. (tt, λ a g. constructed_kept o l n s a))
      exp_keeps (core.super_constructor p e k es) l c = then_value l (exp R me e l) (λ r. next (exps R me es r.1) (λ z. non_null r.0 (call (construct k r.0 z.0) (λ a. done (constructed r.0 z.1 a))))) (exp_keeps e l c.0)
          (λ v j s. args_then l j s (exps R me es j) (λ z. non_null v (call (construct k v z.0) (λ a. done (constructed v z.1 a)))) (exps_keep es j c.1)
          (λ vs n t. keep_null (λ (r : Value K × List (Value K)). Same l r.1) v (call (construct k v vs) (λ a. done (constructed v n a))) (tt, λ a g. constructed_kept v l n t a)))

      pub target_keeps : (t : Target K) (l : List (Value K)) → CarefulTarget N t → Keep (Aim t l) (target R me t l)
      target_keeps (core.local p n) l c = (λ i t. refl, λ e. e)
      target_keeps (core.static_field p f) l c = (λ i t. refl, λ e. tt)
      target_keeps (core.field_of p e f) l c = keep_next (λ (r : Value K × List (Value K)). Same l r.1) (Aim (core.field_of p e f) l) (exp R me e l) (λ r. done (value (in_object p r.0 f, r.1))) (exp_keeps e l c) (λ r s. (s, λ u. tt))

      exps_keep : (es : Exps K) (l : List (Value K)) → CarefulExps N es → KeepA l (exps R me es l)
      exps_keep core.Exps.end l c = λ i t. refl
      exps_keep (core.Exps.more e es) l c = keep_next (λ (r : Value K × List (Value K)). Same l r.1) (λ (r : List (Value K) × List (Value K)). Same l r.1) (exp R me e l) (λ r. next (exps R me es r.1) (λ z. done (value (r.0 ∷ z.0, z.1)))) (exp_keeps e l c.0)
          (λ r s. keep_next (λ (z : List (Value K) × List (Value K)). Same r.1 z.1) (λ (z : List (Value K) × List (Value K)). Same l z.1) (exps R me es r.1) (λ z. done (value (r.0 ∷ z.0, z.1))) (exps_keep es r.1 c.1) (λ z t. onward l r.1 z.1 s t))

  -- ---- statements

  some_none : {A B : Type 0} (x : A) → None ≡ Some x → B
  some_none x e = absurd (apart x e)
    where
      apart : {A : Type 0} (x : A) → None ≡ Some x → ⊥
      apart x i = cc

  other : (G : List (ℕ × Ty K)) (n i : ℕ) (T : Ty K) → type_of G n ≡ None → type_of G i ≡ Some T → i ≡ n → ⊥
  other G n i T e f q = some_none T (sym e ∙ sym (ap (type_of G) q) ∙ f)

  pub unset_same : (G : List (ℕ × Ty K)) (ns : List ℕ) (l : List (Value K)) → AreNew G ns → SameIn G l (unset ns l)
  unset_same G [] l a i T e t = refl
  unset_same G (n ∷ ns) l a i T e t = unset_same G ns (with_local l n null) a.1 i T e t ∙ not_written l n i null (other G n i T a.0 e)

  further : (G : List (ℕ × Ty K)) (n i : ℕ) (U T : Ty K) → type_of G n ≡ None → type_of G i ≡ Some T → type_of ((n, U) ∷ G) i ≡ Some T
  further G n i U T e f = ⊎_elim (λ (q : n ≡ i). absurd (other G n i T e f (sym q))) (λ d. ap (λ b. cond b (Some U) (type_of G i)) (ne_eqb n i d) ∙ f) (cases_eq n i)

  -- what is in scope in front of a statement is so behind it
  grows : (C : Option K.class) (T : Option (Ty K)) (a : Stmt K) (G D : List (ℕ × Ty K)) → StmtTyped R G C T a D → (i : ℕ) (V : Ty K) → type_of G i ≡ Some V → type_of D i ≡ Some V
  grows C T (core.declare p n e) G D t i V f = subst (λ E. type_of E i ≡ Some V) (sym t.3) (further G n i t.0 V t.2 f)
  grows C T (core.eval p e) G D t i V f = subst (λ E. type_of E i ≡ Some V) (sym t.1) f
  grows C T (core.branch p c a b) G D t i V f = subst (λ E. type_of E i ≡ Some V) (sym t.5) f
  grows C T (core.loop p c b) G D t i V f = subst (λ E. type_of E i ≡ Some V) (sym t.3) f
  grows C T (core.return p e) G D t i V f = subst (λ E. type_of E i ≡ Some V) (sym t.3) f
  grows C T (core.return_nothing p) G D t i V f = subst (λ E. type_of E i ≡ Some V) (sym t.1) f
  grows C T (core.block p ns b) G D t i V f = subst (λ E. type_of E i ≡ Some V) (sym t.2) f
  grows C T (core.sync p q e b) G D t i V f = subst (λ E. type_of E i ≡ Some V) (sym t.3) f
  grows C T (core.empty p) G D t i V f = subst (λ E. type_of E i ≡ Some V) (sym t) f

  from_same : (G : List (ℕ × Ty K)) (l m : List (Value K)) → SameIn G l m → (o : Out (Flow K)) → OutHas (FlowSame G m) o → OutHas (FlowSame G l) o
  from_same G l m s (value (goes_on k)) h = λ i T e t. h i T e t ∙ s i T e t
  from_same G l m s (value (returns v)) h = tt
  from_same G l m s (thrown f) h = tt

  abbrev KeepF : List (ℕ × Ty K) → List (Value K) → Step K (Flow K) → Type 0
  KeepF G l x = Keep (FlowSame G l) x

  flow_from : (G : List (ℕ × Ty K)) (l m : List (Value K)) → SameIn G l m → (x : Step K (Flow K)) → KeepF G m x → KeepF G l x
  flow_from G l m s x h = safe_more Asked Answered (OutHas (FlowSame G m)) (OutHas (FlowSame G l)) (from_same G l m s) x h

  pub within : (G : List (ℕ × Ty K)) (l m : List (Value K)) → Same l m → SameIn G l m
  within G l m s i T e t = s i t

  module _ (me : Value K) where
    exp_then : (G : List (ℕ × Ty K)) (e : Exp K) (l : List (Value K)) → CarefulExp N e → (k : Value K × List (Value K) → Step K (Flow K)) → ((v : Value K) (m : List (Value K)) → Same l m → KeepF G l (k (v, m))) → KeepF G l (next (exp R me e l) k)
    exp_then G e l c k h = keep_next (λ (r : Value K × List (Value K)). Same l r.1) (FlowSame G l) (exp R me e l) k (exp_keeps me e l c) (λ r s. h r.0 r.1 s)

    mutual
      pub stmt_keeps : (C : Option K.class) (T : Option (Ty K)) (s : Stmt K) (G D : List (ℕ × Ty K)) → StmtTyped R G C T s D → CarefulStmt N s → (l : List (Value K)) → KeepF G l (stmt R me s l)
      stmt_keeps C T (core.declare p n e) G D t c l = exp_then G e l c.0 (λ r. done (value (goes_on (with_local r.1 n r.0)))) (λ v m s i V f u. not_written m n i v (other G n i V t.2 f) ∙ s i u)
      stmt_keeps C T (core.eval p e) G D t c l = exp_then G e l c (λ r. done (value (goes_on r.1))) (λ v m s. within G l m s)
      stmt_keeps C T (core.branch p e a b) G D t c l = exp_then G e l c.0 (λ r. on_truth r.0 (stmt R me a r.1) (stmt R me b r.1))
          (λ v m s. keep_truth (FlowSame G l) v (stmt R me a m) (stmt R me b m) (flow_from G l m (within G l m s) (stmt R me a m) (stmt_keeps C T a G t.0 t.3 c.1 m)) (flow_from G l m (within G l m s) (stmt R me b m) (stmt_keeps C T b G t.1 t.4 c.2 m)))
      stmt_keeps C T (core.loop p e b) G D t c l = (tt, λ o g. g.0 G (record { class = C; result = T; behind = t.0; typed = t.2; condition = c.0; body = c.1 }))
      stmt_keeps C T (core.return p e) G D t c l = exp_then G e l c (λ r. done (value (returns (Some r.0)))) (λ v m s. tt)
      stmt_keeps C T (core.return_nothing p) G D t c l = tt
      stmt_keeps C T (core.block p ns b) G D t c l = flow_from G l (unset ns l) (unset_same G ns l t.0) (stmts R me b (unset ns l)) (stmts_keep C T b G t.1 c (unset ns l))
      stmt_keeps C T (core.sync p q e b) G D t c l = exp_then G e l c.0 (λ r. non_null r.0 (act (placed p (enter r.0)) (leaving q r.0 (stmts R me b r.1))))
          (λ v m s. keep_null (FlowSame G l) v (act (placed p (enter v)) (leaving q v (stmts R me b m)))
          (safe_and Asked Answered (OutHas (FlowSame G l)) (OutHas (FlowSame G l)) (stmts R me b m) (λ a. act (placed q (exit v)) (done a)) (flow_from G l m (within G l m s) (stmts R me b m) (stmts_keep C T b G t.2 c.1 m)) (λ a h. h)))
      stmt_keeps C T (core.empty p) G D t c l = λ i V f u. refl

      stmts_keep : (C : Option K.class) (T : Option (Ty K)) (b : Stmts K) (G : List (ℕ × Ty K)) → StmtsTyped R G C T b → CarefulStmts N b → (l : List (Value K)) → KeepF G l (stmts R me b l)
      stmts_keep C T core.Stmts.end G t c l = λ i V f u. refl
      stmts_keep C T (core.Stmts.more s b) G t c l = keep_next (FlowSame G l) (FlowSame G l) (stmt R me s l) (λ f. on_flow f (λ m. stmts R me b m)) (stmt_keeps C T s G t.0 t.1 c.0 l) (λ f h. on_list f h (λ m. stmts_keep C T b t.0 t.2 c.1 m) (grows C T s G t.0 t.1))
        where
          weaker : (E : List (ℕ × Ty K)) → ((i : ℕ) (V : Ty K) → type_of G i ≡ Some V → type_of E i ≡ Some V) → (m : List (Value K)) → SameIn G l m → (o : Out (Flow K)) → OutHas (FlowSame E m) o → OutHas (FlowSame G l) o
          weaker E w m s (value (goes_on k)) h = λ i V f u. h i V (w i V f) u ∙ s i V f u
          weaker E w m s (value (returns v)) h = tt
          weaker E w m s (thrown f) h = tt

          on_list : (f : Flow K) → FlowSame G l f → ((m : List (Value K)) → KeepF t.0 m (stmts R me b m)) → ((i : ℕ) (V : Ty K) → type_of G i ≡ Some V → type_of t.0 i ≡ Some V) → KeepF G l (on_flow f (λ m. stmts R me b m))
          on_list (goes_on m) h g w = safe_more Asked Answered (OutHas (FlowSame t.0 m)) (OutHas (FlowSame G l)) (weaker t.0 w m h) (stmts R me b m) (g m)
          on_list (returns v) h g w = tt

    pub turn_keeps : (c : Exp K) (b : Stmt K) (l : List (Value K)) (G : List (ℕ × Ty K)) → Turn c b G → KeepF G l (next (exp R me c l) (λ r. on_truth r.0 (next (stmt R me b r.1) (λ f. on_flow f (λ m. call (turn me c b m) (λ o. done o)))) (done (value (goes_on r.1)))))
    turn_keeps c b l G t = exp_then G c l t.condition (λ r. on_truth r.0 (next (stmt R me b r.1) (λ f. on_flow f (λ m. call (turn me c b m) (λ o. done o)))) (done (value (goes_on r.1))))
        (λ v m s. keep_truth (FlowSame G l) v (next (stmt R me b m) (λ f. on_flow f (λ k. call (turn me c b k) (λ o. done o)))) (done (value (goes_on m)))
        (keep_next (FlowSame G m) (FlowSame G l) (stmt R me b m) (λ f. on_flow f (λ k. call (turn me c b k) (λ o. done o))) (stmt_keeps t.class t.result b G t.behind t.typed t.body m) (λ f h. again m s f h))
        (within G l m s))
      where
        again : (m : List (Value K)) → Same l m → (f : Flow K) → FlowSame G m f → KeepF G l (on_flow f (λ k. call (turn me c b k) (λ o. done o)))
        again m s (goes_on k) h = (tt, λ o g. from_same G l k (λ i T e u. h i T e u ∙ s i u) o (g.0 G t))
        again m s (returns v) h = tt

  -- ---- code that writes none of N

  out_from : (l m : List (Value K)) → Same l m → (o : Out (Flow K)) → OutHas (Untouched m) o → OutHas (Untouched l) o
  out_from l m s (value (goes_on k)) h = onward l m k s h
  out_from l m s (value (returns v)) h = tt
  out_from l m s (thrown f) h = tt

  abbrev KeepU : List (Value K) → Step K (Flow K) → Type 0
  KeepU l x = Keep (Untouched l) x

  untouched_from : (l m : List (Value K)) → Same l m → (x : Step K (Flow K)) → KeepU m x → KeepU l x
  untouched_from l m s x h = safe_more Asked Answered (OutHas (Untouched m)) (OutHas (Untouched l)) (out_from l m s) x h

  unset_spares : (ns : List ℕ) (l : List (Value K)) → SparedBy N ns → Same l (unset ns l)
  unset_spares [] l a i t = refl
  unset_spares (n ∷ ns) l a i t = unset_spares ns (with_local l n null) a.1 i t ∙ not_written l n i null (λ (q : i ≡ n). true_false (N i) t (ap N q ∙ a.0))

  module _ (me : Value K) where
    then_untouched : (l : List (Value K)) (e : Exp K) → CarefulExp N e → (k : Value K × List (Value K) → Step K (Flow K)) → ((v : Value K) (m : List (Value K)) → Same l m → KeepU l (k (v, m))) → KeepU l (next (exp R me e l) k)
    then_untouched l e c k h = keep_next (λ (r : Value K × List (Value K)). Same l r.1) (Untouched l) (exp R me e l) k (exp_keeps me e l c) (λ r s. h r.0 r.1 s)

    mutual
      pub stmt_spares : (s : Stmt K) → SparingStmt N s → (l : List (Value K)) → KeepU l (stmt R me s l)
      stmt_spares (core.declare p n e) c l = then_untouched l e c.0 (λ r. done (value (goes_on (with_local r.1 n r.0)))) (λ v m s. written_same l m n v c.1 s)
      stmt_spares (core.eval p e) c l = then_untouched l e c (λ r. done (value (goes_on r.1))) (λ v m s. s)
      stmt_spares (core.branch p e a b) c l = then_untouched l e c.0 (λ r. on_truth r.0 (stmt R me a r.1) (stmt R me b r.1))
          (λ v m s. keep_truth (Untouched l) v (stmt R me a m) (stmt R me b m) (untouched_from l m s (stmt R me a m) (stmt_spares a c.1 m)) (untouched_from l m s (stmt R me b m) (stmt_spares b c.2 m)))
      stmt_spares (core.loop p e b) c l = (tt, λ o g. g.1 c)
      stmt_spares (core.return p e) c l = then_untouched l e c (λ r. done (value (returns (Some r.0)))) (λ v m s. tt)
      stmt_spares (core.return_nothing p) c l = tt
      stmt_spares (core.block p ns b) c l = untouched_from l (unset ns l) (unset_spares ns l c.0) (stmts R me b (unset ns l)) (stmts_spare b c.1 (unset ns l))
      stmt_spares (core.sync p q e b) c l = then_untouched l e c.0 (λ r. non_null r.0 (act (placed p (enter r.0)) (leaving q r.0 (stmts R me b r.1))))
          (λ v m s. keep_null (Untouched l) v (act (placed p (enter v)) (leaving q v (stmts R me b m)))
          (safe_and Asked Answered (OutHas (Untouched l)) (OutHas (Untouched l)) (stmts R me b m) (λ a. act (placed q (exit v)) (done a)) (untouched_from l m s (stmts R me b m) (stmts_spare b c.1 m)) (λ a h. h)))
      stmt_spares (core.empty p) c l = λ i t. refl

      pub stmts_spare : (b : Stmts K) → SparingStmts N b → (l : List (Value K)) → KeepU l (stmts R me b l)
      stmts_spare core.Stmts.end c l = λ i t. refl
      stmts_spare (core.Stmts.more s b) c l = keep_next (Untouched l) (Untouched l) (stmt R me s l) (λ f. on_flow f (λ m. stmts R me b m)) (stmt_spares s c.0 l) (λ f h. on_list f h (λ m. stmts_spare b c.1 m))
        where
          on_list : (f : Flow K) → Untouched l f → ((m : List (Value K)) → KeepU m (stmts R me b m)) → KeepU l (on_flow f (λ m. stmts R me b m))
          on_list (goes_on m) h g = untouched_from l m h (stmts R me b m) (g m)
          on_list (returns v) h g = tt

    pub turn_spares : (c : Exp K) (b : Stmt K) (l : List (Value K)) → SparingExp N c × SparingStmt N b → KeepU l (next (exp R me c l) (λ r. on_truth r.0 (next (stmt R me b r.1) (λ f. on_flow f (λ m. call (turn me c b m) (λ o. done o)))) (done (value (goes_on r.1)))))
    turn_spares c b l t = then_untouched l c t.0 (λ r. on_truth r.0 (next (stmt R me b r.1) (λ f. on_flow f (λ m. call (turn me c b m) (λ o. done o)))) (done (value (goes_on r.1))))
        (λ v m s. keep_truth (Untouched l) v (next (stmt R me b m) (λ f. on_flow f (λ k. call (turn me c b k) (λ o. done o)))) (done (value (goes_on m)))
        (keep_next (Untouched m) (Untouched l) (stmt R me b m) (λ f. on_flow f (λ k. call (turn me c b k) (λ o. done o))) (stmt_spares b t.1 m) (λ f h. again m s f h))
        s)
      where
        again : (m : List (Value K)) → Same l m → (f : Flow K) → Untouched m f → KeepU l (on_flow f (λ k. call (turn me c b k) (λ o. done o)))
        again m s (goes_on k) h = (tt, λ o g. out_from l k (onward l m k s h) o (g.1 t))
        again m s (returns v) h = tt

  pub anything : {A : Type 0} (x : Step K A) → Safe Asked Answered (λ a. Unit {0}) x
  anything x = whatever x
    where
      whatever : {B : Type 0} (x : Plan (Value K) (Event K) (Call K) (Out (Flow K)) B) → Safe Asked Answered (λ a. Unit {0}) x
      whatever (done a) = tt
      whatever (act e x) = whatever x
      whatever (ask f s x) = λ v i. whatever (x v)
      whatever (call c x) = (tt, λ r g. whatever (x r))

  pub pairs : {A : Type 0} (Q Q' : A → Type 0) (x : Plan (Value K) (Event K) (Call K) (Out (Flow K)) A) → Safe Asked Answered Q x → Safe Asked Answered Q' x → Safe Asked Answered (λ a. Q a × Q' a) x
  pairs Q Q' (done a) h g = (h, g)
  pairs Q Q' (act e x) h g = pairs Q Q' x h g
  pairs Q Q' (ask f s x) h g = λ v i. pairs Q Q' (x v) (h v i) (g v i)
  pairs Q Q' (call c x) h g = (tt, λ r i. pairs Q Q' (x r) (h.1 r i) (g.1 r i))

  pub both_hold : {A : Type 0} (Q Q' : A → Type 0) (x : Step K A) → Keep Q x → Keep Q' x → Keep (λ a. Q a × Q' a) x
  both_hold {A = A} Q Q' x h g = safe_more Asked Answered (λ o. OutHas Q o × OutHas Q' o) (OutHas (λ a. Q a × Q' a)) join x (pairs (OutHas Q) (OutHas Q') x h g)
    where
      join : (o : Out A) → OutHas Q o × OutHas Q' o → OutHas (λ a. Q a × Q' a) o
      join (value a) h = h
      join (thrown f) h = tt

  pub for_all : {A I : Type 0} (Q : I → A → Type 0) (x : Plan (Value K) (Event K) (Call K) (Out (Flow K)) A) → ((i : I) → Safe Asked Answered (Q i) x) → Safe Asked Answered (λ a. (i : I) → Q i a) x
  for_all Q (done a) h = h
  for_all Q (act e x) h = for_all Q x h
  for_all Q (ask f s x) h = λ v g. for_all Q (x v) (λ i. h i v g)
  for_all Q (call c x) h = (tt, λ r g. for_all Q (x r) (λ i. (h i).1 r g))
