-- Code of other members leaves a member's position as it is.
use Rattle.std.proofs.Common.{◌≡◌, ℕ, Bool, true, false, List, ◌∷◌, Option, Some, None, unwrap_or, refl, sym, subst, inl, inr}
use Rattle.jr_plans.specs.Plan.{done, act, ask, call}
use Rattle.jr_runs.specs.Keys.{Keys, At}
use Rattle.jr_runs.specs.Values.{Value, int, truth, null, text, class_object, object}
use Rattle.jr_runs.specs.Actions.{part, shared, load, store, create, enter, exit, Event, placed}
use Rattle.jr_runs.specs.Rows.{Rows}
use Rattle.jr_runs.specs.Fitting.{fits, is_new, class_of, is_instance}
use Rattle.jr_runs.specs.Arithmetic.{Out, value, thrown, calculate, number_of, operate, sign, bumped, bump_value}
use Rattle.jr_runs.specs.Core as core
use Rattle.jr_runs.specs.Core.{Exp, Stmt, Target, Exps, Stmts}
use Rattle.jr_runs.specs.Evaluation.{Flow, goes_on, returns, Call, invoke, construct, turn, Step, on_value, next, non_null, on_truth, on_class, on_flow, leaving, Slot, in_local, in_static, in_object, load_from, store_to, local_at, with_local, with_locals, unset, cast_value, answer, constructed, exp, target, exps, stmt, stmts}
use Rattle.jr_cover.specs.Sites.{Site, Known}
use Rattle.jr_cover.specs.Covering.{IsOutside}
use Rattle.jr_cover.specs.Elsewhere.{ExpOutside, TargetOutside, ExpsOutside, StmtOutside, StmtsOutside}
use Rattle.jr_cover.proofs.Visits.{visits_and}
use Rattle.jr_cover.proofs.Going as going

module _ {K : Keys} {A : Type 0} (R : Rows K) (X : Known K A) (E : ℕ → ℕ → Type 0) (Is : ℕ → Site K → Type 0) (Outside : K.place → Type 0) where
  abbrev pub QuietTurn : Exp K → Stmt K → Type 0
  QuietTurn c b = ExpOutside K Outside c × StmtOutside K Outside b

  abbrev Before : Event K → Option ℕ → Option ℕ → Type 0
  Before x p q = going.Moves R X E Is (IsOutside K Outside) x p q

  abbrev PreOf : Call K → Option ℕ → Type 0
  PreOf c p = going.Pre R X E Is (IsOutside K Outside) QuietTurn c p

  abbrev PostOf : (c : Call K) (p : Option ℕ) → PreOf c p → Out (Flow K) → Option ℕ → Type 0
  PostOf c p h r q = going.Post R X E Is (IsOutside K Outside) QuietTurn c p h r q

  abbrev pub Quiet : {B : Type 0} → Step K B → Type 0
  Quiet {B = B} x = (p : Option ℕ) → going.Visiting R X E Is (IsOutside K Outside) QuietTurn (λ (o : Out B) q. q ≡ p) x p

  quiet_next : {B C : Type 0} (x : Step K B) (k : B → Step K C) → Quiet x → ((y : B) → Quiet (k y)) → Quiet (next x k)
  quiet_next {B = B} {C = C} x k g h p = visits_and Before PreOf PostOf (λ (o : Out B) q. q ≡ p) (λ (o : Out C) q. q ≡ p) x (on_value k) p (g p) go
    where
      go : (o : Out B) (q : Option ℕ) → q ≡ p → going.Visiting R X E Is (IsOutside K Outside) QuietTurn (λ (o : Out C) q. q ≡ p) (on_value k o) q
      go (value y) q e = subst (λ z. going.Visiting R X E Is (IsOutside K Outside) QuietTurn (λ (o : Out C) q. q ≡ p) (k y) z) (sym e) (h y p)
      go (thrown f) q e = e

  quiet_done : {B : Type 0} (o : Out B) → Quiet (done o)
  quiet_done o p = refl

  quiet_null : {B : Type 0} (v : Value K) (x : Step K B) → Quiet x → Quiet (non_null v x)
  quiet_null null x g p = refl
  quiet_null (int z) x g p = g p
  quiet_null (truth b) x g p = g p
  quiet_null (text t) x g p = g p
  quiet_null (class_object c) x g p = g p
  quiet_null (object i c) x g p = g p

  quiet_truth : {B : Type 0} (v : Value K) (x y : Step K B) → Quiet x → Quiet y → Quiet (on_truth v x y)
  quiet_truth (truth true) x y g h p = g p
  quiet_truth (truth false) x y g h p = h p
  quiet_truth null x y g h p = h p
  quiet_truth (int z) x y g h p = h p
  quiet_truth (text t) x y g h p = h p
  quiet_truth (class_object c) x y g h p = h p
  quiet_truth (object i c) x y g h p = h p

  quiet_class : {B : Type 0} (o : Option K.class) (k : K.class → Step K B) → ((c : K.class) → Quiet (k c)) → Quiet (on_class o k)
  quiet_class None k g p = refl
  quiet_class (Some c) k g p = g c p

  quiet_act : {B : Type 0} (at : At K) (x : Event K) (o : Out B) → x.at ≡ at → IsOutside K Outside at → Quiet (act x (done o))
  quiet_act at x o e i p = (p, inl (subst (λ z. IsOutside K Outside z) (sym e) i, refl), refl)

  quiet_ask : {B : Type 0} (f : Value K → Bool) (x : Value K → Event K) (k : Value K → Step K B) → ((v : Value K) → IsOutside K Outside (x v).at) → ((v : Value K) → Quiet (k v)) → Quiet (ask f x k)
  quiet_ask f x k i g p = λ v t. (p, inl (i v, refl), g v p)

  quiet_invoke : {B : Type 0} (m : K.method) (me : Value K) (vs : List (Value K)) (k : Out (Flow K) → Out B) → Quiet (call (invoke m me vs) (λ o. done (k o)))
  quiet_invoke m me vs k p = (tt, λ r q e. e)

  quiet_construct : {B : Type 0} (m : K.constructor) (me : Value K) (vs : List (Value K)) (k : Out (Flow K) → Out B) → Quiet (call (construct m me vs) (λ o. done (k o)))
  quiet_construct m me vs k p = (tt, λ r q e. e)

  abbrev SlotOutside : Slot K → Type 0
  SlotOutside (in_local n) = Unit {0}
  SlotOutside (in_static at f) = IsOutside K Outside at
  SlotOutside (in_object at o f) = IsOutside K Outside at

  quiet_load : (x : Slot K) (l : List (Value K)) → SlotOutside x → Quiet (load_from R x l)
  quiet_load (in_local n) l i = quiet_done (value (local_at l n))
  quiet_load (in_static at f) l i = quiet_ask (fits R (R.field_type f)) (λ v. placed at (load (R.field_kind f) (shared f) v)) (λ v. done (value v)) (λ v. i) (λ v. quiet_done (value v))
  quiet_load (in_object at o f) l i = quiet_null o (ask (fits R (R.field_type f)) (λ v. placed at (load (R.field_kind f) (part o f) v)) (λ v. done (value v)))
      (quiet_ask (fits R (R.field_type f)) (λ v. placed at (load (R.field_kind f) (part o f) v)) (λ v. done (value v)) (λ v. i) (λ v. quiet_done (value v)))

  quiet_store : (x : Slot K) (v : Value K) (l : List (Value K)) → SlotOutside x → Quiet (store_to R x v l)
  quiet_store (in_local n) v l i = quiet_done (value (with_local l n v))
  quiet_store (in_static at f) v l i = quiet_act at (placed at (store (R.field_kind f) (shared f) v)) (value l) refl i
  quiet_store (in_object at o f) v l i = quiet_null o (act (placed at (store (R.field_kind f) (part o f) v)) (done (value l))) (quiet_act at (placed at (store (R.field_kind f) (part o f) v)) (value l) refl i)

  abbrev AimOk : Out (Slot K × List (Value K)) → Type 0
  AimOk (value r) = SlotOutside r.0
  AimOk (thrown f) = Unit {0}

  -- a field behind a dot
  quiet_aim : {B : Type 0} (at : At K) (f : K.field) (y : Step K (Value K × List (Value K))) → Quiet y → (k : Slot K × List (Value K) → Step K B) → ((x : Slot K) (m : List (Value K)) → SlotOutside x → Quiet (k (x, m))) → IsOutside K Outside at
      → Quiet (next (next y (λ r. done (value (in_object at r.0 f, r.1)))) k)
  quiet_aim {B = B} at f y g k h i p = visits_and Before PreOf PostOf (λ (o : Out (Slot K × List (Value K))) q. (q ≡ p) × AimOk o) (λ (o : Out B) q. q ≡ p) (next y (λ r. done (value (in_object at r.0 f, r.1)))) (on_value k) p
      (visits_and Before PreOf PostOf (λ (o : Out (Value K × List (Value K))) q. q ≡ p) (λ (o : Out (Slot K × List (Value K))) q. (q ≡ p) × AimOk o) y (on_value (λ r. done (value (in_object at r.0 f, r.1)))) p (g p) one) go
    where
      one : (o : Out (Value K × List (Value K))) (q : Option ℕ) → q ≡ p → going.Visiting R X E Is (IsOutside K Outside) QuietTurn (λ (o : Out (Slot K × List (Value K))) q. (q ≡ p) × AimOk o) (on_value (λ r. done (value (in_object at r.0 f, r.1))) o) q
      one (value r) q e = (e, i)
      one (thrown t) q e = (e, tt)

      go : (o : Out (Slot K × List (Value K))) (q : Option ℕ) → (q ≡ p) × AimOk o → going.Visiting R X E Is (IsOutside K Outside) QuietTurn (λ (o : Out B) q. q ≡ p) (on_value k o) q
      go (value r) q e = subst (λ z. going.Visiting R X E Is (IsOutside K Outside) QuietTurn (λ (o : Out B) q. q ≡ p) (k r) z) (sym e.0) (h r.0 r.1 e.1 p)
      go (thrown t) q e = e.0

  flowing : (f : Flow K) (k : List (Value K) → Step K (Flow K)) → ((m : List (Value K)) → Quiet (k m)) → Quiet (on_flow f k)
  flowing (goes_on m) k g p = g m p
  flowing (returns v) k g p = refl

  module _ (me : Value K) where
    mutual
      pub exp_quiet : (e : Exp K) (l : List (Value K)) → ExpOutside K Outside e → Quiet (exp R me e l)
      exp_quiet (core.literal at v) l i = λ p. refl
      exp_quiet (core.this at) l i = λ p. refl
      exp_quiet (core.read at t) l i = target_quiet t l i (λ r. next (load_from R r.0 r.1) (λ v. done (value (v, r.1)))) (λ x m s. quiet_next (load_from R x m) (λ v. done (value (v, m))) (quiet_load x m s) (λ v p. refl))
      exp_quiet (core.assign at t e) l i = target_quiet t l i.0 (λ r. next (exp R me e r.1) (λ z. next (store_to R r.0 z.0 z.1) (λ m. done (value (z.0, m)))))
          (λ x m s. quiet_next (exp R me e m) (λ z. next (store_to R x z.0 z.1) (λ k. done (value (z.0, k)))) (exp_quiet e m i.1) (λ z. quiet_next (store_to R x z.0 z.1) (λ k. done (value (z.0, k))) (quiet_store x z.0 z.1 s) (λ k p. refl)))
      exp_quiet (core.compound at op t e) l i = target_quiet t l i.0 (λ r. next (load_from R r.0 r.1) (λ old. next (exp R me e r.1) (λ z. next (done (calculate op (number_of old) (number_of z.0))) (λ v. next (store_to R r.0 v z.1) (λ m. done (value (v, m)))))))
          (λ x m s. quiet_next (load_from R x m) (λ old. next (exp R me e m) (λ z. next (done (calculate op (number_of old) (number_of z.0))) (λ v. next (store_to R x v z.1) (λ k. done (value (v, k)))))) (quiet_load x m s)
          (λ old. quiet_next (exp R me e m) (λ z. next (done (calculate op (number_of old) (number_of z.0))) (λ v. next (store_to R x v z.1) (λ k. done (value (v, k))))) (exp_quiet e m i.1)
          (λ z. quiet_next (done (calculate op (number_of old) (number_of z.0))) (λ v. next (store_to R x v z.1) (λ k. done (value (v, k)))) (quiet_done (calculate {K = K} op (number_of old) (number_of z.0)))
          (λ v. quiet_next (store_to R x v z.1) (λ k. done (value (v, k))) (quiet_store x v z.1 s) (λ k p. refl)))))
      exp_quiet (core.bump at op t) l i = target_quiet t l i (λ r. next (load_from R r.0 r.1) (λ old. next (store_to R r.0 (bumped op old) r.1) (λ m. done (value (bump_value op old (bumped op old), m)))))
          (λ x m s. quiet_next (load_from R x m) (λ old. next (store_to R x (bumped op old) m) (λ k. done (value (bump_value op old (bumped op old), k)))) (quiet_load x m s)
          (λ old. quiet_next (store_to R x (bumped op old) m) (λ k. done (value (bump_value op old (bumped op old), k))) (quiet_store x (bumped op old) m s) (λ k p. refl)))
      exp_quiet (core.signed at op e) l i = quiet_next (exp R me e l) (λ r. done (value (sign op r.0, r.1))) (exp_quiet e l i) (λ r p. refl)
      exp_quiet (core.binary at op a b) l i = quiet_next (exp R me a l) (λ r. next (exp R me b r.1) (λ z. done (with_locals z.1 (operate R.same_class op r.0 z.0)))) (exp_quiet a l i.0)
          (λ r. quiet_next (exp R me b r.1) (λ z. done (with_locals z.1 (operate R.same_class op r.0 z.0))) (exp_quiet b r.1 i.1) (λ z p. refl))
      exp_quiet (core.both at a b) l i = quiet_next (exp R me a l) (λ r. on_truth r.0 (exp R me b r.1) (done (value (truth false, r.1)))) (exp_quiet a l i.0)
          (λ r. quiet_truth r.0 (exp R me b r.1) (done (value (truth false, r.1))) (exp_quiet b r.1 i.1) (λ p. refl))
      exp_quiet (core.either at a b) l i = quiet_next (exp R me a l) (λ r. on_truth r.0 (done (value (truth true, r.1))) (exp R me b r.1)) (exp_quiet a l i.0)
          (λ r. quiet_truth r.0 (done (value (truth true, r.1))) (exp R me b r.1) (λ p. refl) (exp_quiet b r.1 i.1))
      exp_quiet (core.cast at c e) l i = quiet_next (exp R me e l) (λ r. done (with_locals r.1 (cast_value (is_instance R c r.0) r.0))) (exp_quiet e l i) (λ r p. refl)
      exp_quiet (core.static_call at m es) l i = quiet_next (exps R me es l) (λ z. call (invoke m null z.0) (λ o. done (answer z.1 o))) (exps_quiet es l i) (λ z. quiet_invoke m null z.0 (λ o. answer z.1 o))
      exp_quiet (core.instance_call at e m es) l i = quiet_next (exp R me e l) (λ r. next (exps R me es r.1) (λ z. on_class (class_of R r.0) (λ c. call (invoke (unwrap_or (R.dispatch c m) m) r.0 z.0) (λ o. done (answer z.1 o))))) (exp_quiet e l i.0)
          (λ r. quiet_next (exps R me es r.1) (λ z. on_class (class_of R r.0) (λ c. call (invoke (unwrap_or (R.dispatch c m) m) r.0 z.0) (λ o. done (answer z.1 o)))) (exps_quiet es r.1 i.1)
          (λ z. quiet_class (class_of R r.0) (λ c. call (invoke (unwrap_or (R.dispatch c m) m) r.0 z.0) (λ o. done (answer z.1 o))) (λ c. quiet_invoke (unwrap_or (R.dispatch c m) m) r.0 z.0 (λ o. answer z.1 o))))
      exp_quiet (core.super_call at e m es) l i = quiet_next (exp R me e l) (λ r. next (exps R me es r.1) (λ z. non_null r.0 (call (invoke m r.0 z.0) (λ o. done (answer z.1 o))))) (exp_quiet e l i.0)
          (λ r. quiet_next (exps R me es r.1) (λ z. non_null r.0 (call (invoke m r.0 z.0) (λ o. done (answer z.1 o)))) (exps_quiet es r.1 i.1) (λ z. quiet_null r.0 (call (invoke m r.0 z.0) (λ o. done (answer z.1 o))) (quiet_invoke m r.0 z.0 (λ o. answer z.1 o))))
      exp_quiet (core.create at c k es) l i = quiet_ask (is_new R c) (λ o. placed at (create o)) (λ o. next (exps R me es l) (λ z. call (construct k o z.0) (λ a. done (constructed o z.1 a)))) (λ o. i.0)
          (λ o. quiet_next (exps R me es l) (λ z. call (construct k o z.0) (λ a. done (constructed o z.1 a))) (exps_quiet es l i.1) (λ z. quiet_construct k o z.0 (λ a. constructed o z.1 a)))
      exp_quiet (core.super_constructor at e k es) l i = quiet_next (exp R me e l) (λ r. next (exps R me es r.1) (λ z. non_null r.0 (call (construct k r.0 z.0) (λ a. done (constructed r.0 z.1 a))))) (exp_quiet e l i.0)
          (λ r. quiet_next (exps R me es r.1) (λ z. non_null r.0 (call (construct k r.0 z.0) (λ a. done (constructed r.0 z.1 a)))) (exps_quiet es r.1 i.1) (λ z. quiet_null r.0 (call (construct k r.0 z.0) (λ a. done (constructed r.0 z.1 a))) (quiet_construct k r.0 z.0 (λ a. constructed r.0 z.1 a))))

      target_quiet : (t : Target K) (l : List (Value K)) → TargetOutside K Outside t → (k : Slot K × List (Value K) → Step K (Value K × List (Value K))) → ((x : Slot K) (m : List (Value K)) → SlotOutside x → Quiet (k (x, m))) → Quiet (next (target R me t l) k)
      target_quiet (core.local at n) l i k g = g (in_local n) l tt
      target_quiet (core.static_field at f) l i k g = g (in_static at f) l i
      target_quiet (core.field_of at e f) l i k g = quiet_aim at f (exp R me e l) (exp_quiet e l i.1) k (λ x m h. g x m h) i.0

      pub exps_quiet : (es : Exps K) (l : List (Value K)) → ExpsOutside K Outside es → Quiet (exps R me es l)
      exps_quiet core.Exps.end l i = λ p. refl
      exps_quiet (core.Exps.more e es) l i = quiet_next (exp R me e l) (λ r. next (exps R me es r.1) (λ z. done (value (r.0 ∷ z.0, z.1)))) (exp_quiet e l i.0)
          (λ r. quiet_next (exps R me es r.1) (λ z. done (value (r.0 ∷ z.0, z.1))) (exps_quiet es r.1 i.1) (λ z p. refl))

    mutual
      pub stmt_quiet : (s : Stmt K) (l : List (Value K)) → StmtOutside K Outside s → Quiet (stmt R me s l)
      stmt_quiet (core.declare at n e) l i = quiet_next (exp R me e l) (λ r. done (value (goes_on (with_local r.1 n r.0)))) (exp_quiet e l i) (λ r p. refl)
      stmt_quiet (core.eval at e) l i = quiet_next (exp R me e l) (λ r. done (value (goes_on r.1))) (exp_quiet e l i) (λ r p. refl)
      stmt_quiet (core.branch at c a b) l i = quiet_next (exp R me c l) (λ r. on_truth r.0 (stmt R me a r.1) (stmt R me b r.1)) (exp_quiet c l i.0) (λ r. quiet_truth r.0 (stmt R me a r.1) (stmt R me b r.1) (stmt_quiet a r.1 i.1) (stmt_quiet b r.1 i.2))
      stmt_quiet (core.loop at c b) l i = λ p. (inr i, λ r q e. e)
      stmt_quiet (core.return at e) l i = quiet_next (exp R me e l) (λ r. done (value (returns (Some r.0)))) (exp_quiet e l i) (λ r p. refl)
      stmt_quiet (core.return_nothing at) l i = λ p. refl
      stmt_quiet (core.block at ns b) l i = stmts_quiet b (unset ns l) i
      stmt_quiet (core.sync entered exited e b) l i = quiet_next (exp R me e l) (λ r. non_null r.0 (act (placed entered (enter r.0)) (leaving exited r.0 (stmts R me b r.1)))) (exp_quiet e l i.2)
          (λ r. quiet_null r.0 (act (placed entered (enter r.0)) (leaving exited r.0 (stmts R me b r.1))) (λ p. (
            p,
            inl (i.0, refl),
            visits_and Before PreOf PostOf (λ (o : Out (Flow K)) q. q ≡ p) (λ (o : Out (Flow K)) q. q ≡ p) (stmts R me b r.1) (λ a. act (placed exited (exit r.0)) (done a)) p (stmts_quiet b r.1 i.3 p) (λ a q h. (q, inl (i.1, refl), h)),
          )))
      stmt_quiet (core.empty at) l i = λ p. refl

      pub stmts_quiet : (b : Stmts K) (l : List (Value K)) → StmtsOutside K Outside b → Quiet (stmts R me b l)
      stmts_quiet core.Stmts.end l i = λ p. refl
      stmts_quiet (core.Stmts.more s b) l i = quiet_next (stmt R me s l) (λ f. on_flow f (λ m. stmts R me b m)) (stmt_quiet s l i.0) (λ f. flowing f (λ m. stmts R me b m) (λ m. stmts_quiet b m i.1))

    pub quiet_turn : (c : Exp K) (b : Stmt K) (l : List (Value K)) → QuietTurn c b → Quiet (next (exp R me c l) (λ r. on_truth r.0 (next (stmt R me b r.1) (λ f. on_flow f (λ m. call (turn me c b m) (λ o. done o)))) (done (value (goes_on r.1)))))
    quiet_turn c b l i = quiet_next (exp R me c l) (λ r. on_truth r.0 (next (stmt R me b r.1) (λ f. on_flow f (λ m. call (turn me c b m) (λ o. done o)))) (done (value (goes_on r.1)))) (exp_quiet c l i.0)
        (λ r. quiet_truth r.0 (next (stmt R me b r.1) (λ f. on_flow f (λ m. call (turn me c b m) (λ o. done o)))) (done (value (goes_on r.1)))
        (quiet_next (stmt R me b r.1) (λ f. on_flow f (λ m. call (turn me c b m) (λ o. done o))) (stmt_quiet b r.1 i.1) (λ f. flowing f (λ m. call (turn me c b m) (λ o. done o)) (λ m p. (inr i, λ o q e. e))))
        (λ p. refl))
