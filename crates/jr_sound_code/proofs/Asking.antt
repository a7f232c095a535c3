-- What code asks for from outside: a value of a field's type, a new object of a class, or whether a thread was started before.
use Rattle.std.proofs.Common.{List, Option, Some, None, true, false, refl, inl, inr}
use Rattle.std.specs.Prelude.{Bool}
use Rattle.jr_plans.specs.Plan.{Plan, done, act, ask, call, and_then}
use Rattle.jr_runs.specs.Keys.{Keys}
use Rattle.jr_runs.specs.Values.{Value, int, truth, null, text, class_object, object}
use Rattle.jr_runs.specs.Rows.{Rows}
use Rattle.jr_runs.specs.Fitting.{class_of}
use Rattle.jr_runs.specs.Arithmetic.{Out, value, thrown, calculate, number_of, bumped}
use Rattle.jr_runs.specs.Core as core
use Rattle.jr_runs.specs.Core.{Exp, Target, Exps, Stmt, Stmts, Method, written, starts, Program}
use Rattle.jr_runs.specs.Evaluation.{Flow, goes_on, returns, Call, invoke, construct, turn, Step, on_value, next, non_null, on_truth, on_class, Slot, in_local, in_static, in_object, load_from, store_to, exp, target, exps, on_flow, stmt, stmts, run_method, table, unset}
use Rattle.jr_sound_code.specs.Misfits.{IsAsked}

-- each question of the plan is one of these
abbrev pub AsksFor : {V E S R A : Type 0} → ((V → Bool) → Type 0) → Plan V E S R A → Type 0
AsksFor Q (done a) = Unit {0}
AsksFor Q (act x p) = AsksFor Q p
AsksFor {V = V} Q (ask f s p) = Q f × ((v : V) → AsksFor Q (p v))
AsksFor {R = R} Q (call c p) = (r : R) → AsksFor Q (p r)

asks_then : {V E S R A B : Type 0} (Q : (V → Bool) → Type 0) (p : Plan V E S R A) (k : A → Plan V E S R B) → AsksFor Q p → ((a : A) → AsksFor Q (k a)) → AsksFor Q (and_then p k)
asks_then Q (done a) k h g = g a
asks_then Q (act x p) k h g = asks_then Q p k h g
asks_then Q (ask f s p) k h g = (h.0, λ v. asks_then Q (p v) k (h.1 v) g)
asks_then Q (call c p) k h g = λ r. asks_then Q (p r) k (h r) g

module _ {K : Keys} (R : Rows K) where
  abbrev Asks : {A : Type 0} → Step K A → Type 0
  Asks p = AsksFor (IsAsked R) p

  asks_value : {A B : Type 0} (o : Out A) (k : A → Step K B) → ((a : A) → Asks (k a)) → Asks (on_value k o)
  asks_value (value a) k g = g a
  asks_value (thrown f) k g = tt

  asks_next : {A B : Type 0} (p : Step K A) (k : A → Step K B) → Asks p → ((a : A) → Asks (k a)) → Asks (next p k)
  asks_next p k h g = asks_then (IsAsked R) p (on_value k) h (λ o. asks_value o k g)

  asks_non_null : {A : Type 0} (v : Value K) (p : Step K A) → Asks p → Asks (non_null v p)
  asks_non_null null p h = tt
  asks_non_null (int n) p h = h
  asks_non_null (truth b) p h = h
  asks_non_null (text t) p h = h
  asks_non_null (class_object c) p h = h
  asks_non_null (object n c) p h = h

  asks_truth : {A : Type 0} (v : Value K) (p q : Step K A) → Asks p → Asks q → Asks (on_truth v p q)
  asks_truth (truth true) p q h g = h
  asks_truth (truth false) p q h g = g
  asks_truth null p q h g = g
  asks_truth (int n) p q h g = g
  asks_truth (text t) p q h g = g
  asks_truth (class_object c) p q h g = g
  asks_truth (object n c) p q h g = g

  asks_class : {A : Type 0} (c : Option K.class) (k : K.class → Step K A) → ((d : K.class) → Asks (k d)) → Asks (on_class c k)
  asks_class None k h = tt
  asks_class (Some c) k h = h c

  asks_load : (s : Slot K) (l : List (Value K)) → Asks (load_from R s l)
  asks_load (in_local n) l = tt
  asks_load (in_static at f) l = (inl (f, refl), λ v. tt)
  asks_load (in_object at o f) l = asks_non_null o _ (inl (f, refl), λ v. tt)

  asks_store : (s : Slot K) (v : Value K) (l : List (Value K)) → Asks (store_to R s v l)
  asks_store (in_local n) v l = tt
  asks_store (in_static at f) v l = tt
  asks_store (in_object at o f) v l = asks_non_null o _ tt

  module _ (me : Value K) where
    mutual
      asks_exp : (e : Exp K) (l : List (Value K)) → Asks (exp R me e l)
      asks_exp (core.literal at v) l = tt
      asks_exp (core.this at) l = tt
      asks_exp (core.read at t) l = asks_next (target R me t l) _ (asks_target t l) (λ r. asks_next (load_from R r.0 r.1) _ (asks_load r.0 r.1) (λ v. tt))
      asks_exp (core.assign at t e) l = asks_next (target R me t l) _ (asks_target t l) (λ r. asks_next (exp R me e r.1) _ (asks_exp e r.1) (λ s. asks_next (store_to R r.0 s.0 s.1) _ (asks_store r.0 s.0 s.1) (λ m. tt)))
      asks_exp (core.compound at op t e) l = asks_next (target R me t l) _ (asks_target t l) (λ r. asks_next (load_from R r.0 r.1) _ (asks_load r.0 r.1) (λ old. asks_next (exp R me e r.1) _ (asks_exp e r.1)
          (λ s. asks_value (calculate op (number_of old) (number_of s.0)) _ (λ v. asks_next (store_to R r.0 v s.1) _ (asks_store r.0 v s.1) (λ m. tt)))))
      asks_exp (core.bump at op t) l = asks_next (target R me t l) _ (asks_target t l) (λ r. asks_next (load_from R r.0 r.1) _ (asks_load r.0 r.1) (λ old. asks_next (store_to R r.0 (bumped op old) r.1) _ (asks_store r.0 (bumped op old) r.1) (λ m. tt)))
      asks_exp (core.signed at op e) l = asks_next (exp R me e l) _ (asks_exp e l) (λ r. tt)
      asks_exp (core.binary at op a b) l = asks_next (exp R me a l) _ (asks_exp a l) (λ r. asks_next (exp R me b r.1) _ (asks_exp b r.1) (λ s. tt))
      asks_exp (core.both at a b) l = asks_next (exp R me a l) _ (asks_exp a l) (λ r. asks_truth r.0 _ _ (asks_exp b r.1) tt)
      asks_exp (core.either at a b) l = asks_next (exp R me a l) _ (asks_exp a l) (λ r. asks_truth r.0 _ _ tt (asks_exp b r.1))
      asks_exp (core.cast at c e) l = asks_next (exp R me e l) _ (asks_exp e l) (λ r. tt)
      asks_exp (core.static_call at m es) l = asks_next (exps R me es l) _ (asks_exps es l) (λ s o. tt)
      asks_exp (core.instance_call at e m es) l = asks_next (exp R me e l) _ (asks_exp e l) (λ r. asks_next (exps R me es r.1) _ (asks_exps es r.1) (λ s. asks_class (class_of R r.0) _ (λ c o. tt)))
      asks_exp (core.super_call at e m es) l = asks_next (exp R me e l) _ (asks_exp e l) (λ r. asks_next (exps R me es r.1) _ (asks_exps es r.1) (λ s. asks_non_null r.0 _ (λ o. tt)))
      asks_exp (core.create at c k es) l = (inr (inl (c, refl)), λ o. asks_next (exps R me es l) _ (asks_exps es l) (λ s a. tt))
      asks_exp (core.super_constructor at e k es) l = asks_next (exp R me e l) _ (asks_exp e l) (λ r. asks_next (exps R me es r.1) _ (asks_exps es r.1) (λ s. asks_non_null r.0 _ (λ a. tt)))

      asks_target : (t : Target K) (l : List (Value K)) → Asks (target R me t l)
      asks_target (core.local at n) l = tt
      asks_target (core.static_field at f) l = tt
      asks_target (core.field_of at e f) l = asks_next (exp R me e l) _ (asks_exp e l) (λ r. tt)

      asks_exps : (es : Exps K) (l : List (Value K)) → Asks (exps R me es l)
      asks_exps core.Exps.end l = tt
      asks_exps (core.Exps.more e es) l = asks_next (exp R me e l) _ (asks_exp e l) (λ r. asks_next (exps R me es r.1) _ (asks_exps es r.1) (λ s. tt))

    asks_flow : (f : Flow K) (k : List (Value K) → Step K (Flow K)) → ((l : List (Value K)) → Asks (k l)) → Asks (on_flow f k)
    asks_flow (goes_on l) k h = h l
    asks_flow (returns v) k h = tt

    mutual
      asks_stmt : (s : Stmt K) (l : List (Value K)) → Asks (stmt R me s l)
      asks_stmt (core.declare at n e) l = asks_next (exp R me e l) _ (asks_exp e l) (λ r. tt)
      asks_stmt (core.eval at e) l = asks_next (exp R me e l) _ (asks_exp e l) (λ r. tt)
      asks_stmt (core.branch at c a b) l = asks_next (exp R me c l) _ (asks_exp c l) (λ r. asks_truth r.0 _ _ (asks_stmt a r.1) (asks_stmt b r.1))
      asks_stmt (core.loop at c b) l = λ o. tt
      asks_stmt (core.return at e) l = asks_next (exp R me e l) _ (asks_exp e l) (λ r. tt)
      asks_stmt (core.return_nothing at) l = tt
      asks_stmt (core.block at ns b) l = asks_stmts b (unset ns l)
      asks_stmt (core.sync entered exited e b) l = asks_next (exp R me e l) _ (asks_exp e l) (λ r. asks_non_null r.0 _ (asks_then (IsAsked R) (stmts R me b r.1) _ (asks_stmts b r.1) (λ a. tt)))
      asks_stmt (core.empty at) l = tt

      asks_stmts : (ss : Stmts K) (l : List (Value K)) → Asks (stmts R me ss l)
      asks_stmts core.Stmts.end l = tt
      asks_stmts (core.Stmts.more a b) l = asks_next (stmt R me a l) _ (asks_stmt a l) (λ f. asks_flow f _ (λ m. asks_stmts b m))

    asks_method : (m : Method K) (args : List (Value K)) → Asks (run_method R me m args)
    asks_method (written c) args = asks_stmts c.body _
    asks_method starts args = (inr (inr refl), λ v. asks_truth v _ _ tt tt)

-- so does each plan of a program
pub table_asks : {K : Keys} (P : Program K) (c : Call K) → AsksFor (IsAsked P.rows) (table P c)
table_asks P (invoke m me args) = asks_method P.rows me (P.method m) args
table_asks P (construct k me args) = asks_stmts P.rows me (P.constructor k).body _
table_asks P (turn me c b l) = asks_next P.rows (exp P.rows me c l) _ (asks_exp P.rows me c l)
    (λ r. asks_truth P.rows r.0 _ _ (asks_next P.rows (stmt P.rows me b r.1) _ (asks_stmt P.rows me b r.1) (λ f. asks_flow P.rows me f _ (λ m o. tt))) tt)
