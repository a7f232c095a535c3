-- Code that calls nothing and has no loop: nothing stops its plan, as each question has an answer
-- that fits.
use Rattle.std.proofs.Common.{true, false, List, Some, IsTrue, pos, refl}
use Rattle.jr_plans.specs.Plan.{Plan, done, act, ask, call, and_then}
use Rattle.jr_runs.specs.Keys.{Keys, At}
use Rattle.jr_runs.specs.Values.{Value, int, truth, null, text, class_object, object, Ty, int_type, boolean_type, reference}
use Rattle.jr_runs.specs.Actions.{Location, part, shared, enter, exit, placed}
use Rattle.jr_runs.specs.Rows.{Rows}
use Rattle.jr_runs.specs.Fitting.{fits, is_instance}
use Rattle.jr_runs.specs.Arithmetic.{Out, value, thrown, calculate, number_of, operate, sign, bumped, bump_value}
use Rattle.jr_runs.specs.Core as core
use Rattle.jr_runs.specs.Core.{Exp, Target, Exps, Stmt, Stmts}
use Rattle.jr_runs.specs.Evaluation.{Flow, goes_on, returns, Step, on_value, next, non_null, on_truth, on_flow, leaving, Slot, in_local, in_static, in_object, load_field, store_field, load_from, store_to, with_local, with_locals, unset, cast_value, exp, target, stmt, stmts}
use Rattle.jr_cover.proofs.Touching.{Any, Touches, TargetTouches, StmtTouches, StmtsTouch}

-- it calls nothing, and for each question some answer fits
abbrev pub Unstopped : {V E S R A : Type 0} → Plan V E S R A → Type 0
Unstopped (done a) = Unit {0}
Unstopped (act x p) = Unstopped p
Unstopped {V = V} (ask f s p) = ((v : V) × IsTrue (f v)) × ((v : V) → Unstopped (p v))
Unstopped (call c p) = ⊥

unstopped_and : {V E S R A B : Type 0} (x : Plan V E S R A) (k : A → Plan V E S R B) → Unstopped x → ((a : A) → Unstopped (k a)) → Unstopped (and_then x k)
unstopped_and (done a) k h g = g a
unstopped_and (act e x) k h g = unstopped_and x k h g
unstopped_and (ask f s x) k h g = (h.0, λ v. unstopped_and (x v) k (h.1 v) g)
unstopped_and (call c x) k h g = absurd h

module _ {K : Keys} (R : Rows K) where
  -- each type has a value
  fitting : (T : Ty K) → (v : Value K) × IsTrue (fits R T v)
  fitting int_type = (int (pos 0), refl)
  fitting boolean_type = (truth true, refl)
  fitting (reference c) = (null, refl)

  then_on : {A B : Type 0} (x : Step K A) (k : A → Step K B) → Unstopped x → ((a : A) → Unstopped (k a)) → Unstopped (next x k)
  then_on {A = A} x k h g = unstopped_and x (on_value k) h go
    where
      go : (o : Out A) → Unstopped (on_value k o)
      go (value a) = g a
      go (thrown f) = tt

  on_null : {A : Type 0} (v : Value K) (x : Step K A) → Unstopped x → Unstopped (non_null v x)
  on_null null x h = tt
  on_null (int z) x h = h
  on_null (truth b) x h = h
  on_null (text t) x h = h
  on_null (class_object c) x h = h
  on_null (object i c) x h = h

  on_either : {A : Type 0} (v : Value K) (x y : Step K A) → Unstopped x → Unstopped y → Unstopped (on_truth v x y)
  on_either (truth true) x y h g = h
  on_either (truth false) x y h g = g
  on_either null x y h g = g
  on_either (int z) x y h g = g
  on_either (text t) x y h g = g
  on_either (class_object c) x y h g = g
  on_either (object i c) x y h g = g

  on_flows : (f : Flow K) (k : List (Value K) → Step K (Flow K)) → ((m : List (Value K)) → Unstopped (k m)) → Unstopped (on_flow f k)
  on_flows (goes_on m) k h = h m
  on_flows (returns v) k h = tt

  field_loads : (p : At K) (from : Location K) (f : K.field) → Unstopped (load_field R p from f)
  field_loads p from f = (fitting (R.field_type f), λ v. tt)

  loads_end : (x : Slot K) (l : List (Value K)) → Unstopped (load_from R x l)
  loads_end (in_local n) l = tt
  loads_end (in_static p f) l = field_loads p (shared f) f
  loads_end (in_object p o f) l = on_null o (load_field R p (part o f) f) (field_loads p (part o f) f)

  stores_end : (x : Slot K) (v : Value K) (l : List (Value K)) → Unstopped (store_to R x v l)
  stores_end (in_local n) v l = tt
  stores_end (in_static p f) v l = tt
  stores_end (in_object p o f) v l = on_null o (store_field R p (part o f) f v l) tt

  store_gives : (x : Slot K) (v w : Value K) (l : List (Value K)) → Unstopped (next {B = Value K × List (Value K)} (store_to R x v l) (λ k. done (value (w, k))))
  store_gives x v w l = then_on (store_to R x v l) (λ k. done (value (w, k))) (stores_end x v l) (λ k. tt)

  store_computed : (o : Out (Value K)) (x : Slot K) (l : List (Value K)) → Unstopped (next {B = Value K × List (Value K)} (done o) (λ v. next (store_to R x v l) (λ k. done (value (v, k)))))
  store_computed (value v) x l = store_gives x v v l
  store_computed (thrown f) x l = tt

  module _ (me : Value K) where
    mutual
      pub exp_ends : (e : Exp K) → Touches Any Any ⊥ ⊥ e → (l : List (Value K)) → Unstopped (exp R me e l)
      exp_ends (core.literal p v) h l = tt
      exp_ends (core.this p) h l = tt
      exp_ends (core.read p t) h l = then_on (target R me t l) (λ r. next (load_from R r.0 r.1) (λ v. done (value (v, r.1)))) (target_ends t h.1 l) (λ r. then_on (load_from R r.0 r.1) (λ v. done (value (v, r.1))) (loads_end r.0 r.1) (λ v. tt))
      exp_ends (core.assign p t e) h l = then_on (target R me t l) (λ r. next (exp R me e r.1) (λ z. next (store_to R r.0 z.0 z.1) (λ k. done (value (z.0, k))))) (target_ends t h.1 l)
          (λ r. then_on (exp R me e r.1) (λ z. next (store_to R r.0 z.0 z.1) (λ k. done (value (z.0, k)))) (exp_ends e h.2 r.1) (λ z. store_gives r.0 z.0 z.0 z.1))
      exp_ends (core.compound p o t e) h l = then_on (target R me t l) (λ r. next (load_from R r.0 r.1) (λ old. next (exp R me e r.1) (λ z. next (done (calculate o (number_of old) (number_of z.0))) (λ v. next (store_to R r.0 v z.1) (λ k. done (value (v, k))))))) (target_ends t h.2 l)
          (λ r. then_on (load_from R r.0 r.1) (λ old. next (exp R me e r.1) (λ z. next (done (calculate o (number_of old) (number_of z.0))) (λ v. next (store_to R r.0 v z.1) (λ k. done (value (v, k)))))) (loads_end r.0 r.1)
          (λ old. then_on (exp R me e r.1) (λ z. next (done (calculate o (number_of old) (number_of z.0))) (λ v. next (store_to R r.0 v z.1) (λ k. done (value (v, k))))) (exp_ends e h.3 r.1) (λ z. store_computed (calculate {K = K} o (number_of old) (number_of z.0)) r.0 z.1)))
      exp_ends (core.bump p o t) h l = then_on (target R me t l) (λ r. next (load_from R r.0 r.1) (λ old. next (store_to R r.0 (bumped o old) r.1) (λ k. done (value (bump_value o old (bumped o old), k))))) (target_ends t h.2 l)
          (λ r. then_on (load_from R r.0 r.1) (λ old. next (store_to R r.0 (bumped o old) r.1) (λ k. done (value (bump_value o old (bumped o old), k)))) (loads_end r.0 r.1) (λ old. store_gives r.0 (bumped o old) (bump_value o old (bumped o old)) r.1))
      exp_ends (core.signed p o e) h l = then_on (exp R me e l) (λ r. done (value (sign o r.0, r.1))) (exp_ends e h l) (λ r. tt)
      exp_ends (core.binary p o a b) h l = then_on (exp R me a l) (λ r. next (exp R me b r.1) (λ z. done (with_locals z.1 (operate R.same_class o r.0 z.0)))) (exp_ends a h.0 l) (λ r. then_on (exp R me b r.1) (λ z. done (with_locals z.1 (operate R.same_class o r.0 z.0))) (exp_ends b h.1 r.1) (λ z. tt))
      exp_ends (core.both p a b) h l = then_on (exp R me a l) (λ r. on_truth r.0 (exp R me b r.1) (done (value (truth false, r.1)))) (exp_ends a h.0 l) (λ r. on_either r.0 (exp R me b r.1) (done (value (truth false, r.1))) (exp_ends b h.1 r.1) tt)
      exp_ends (core.either p a b) h l = then_on (exp R me a l) (λ r. on_truth r.0 (done (value (truth true, r.1))) (exp R me b r.1)) (exp_ends a h.0 l) (λ r. on_either r.0 (done (value (truth true, r.1))) (exp R me b r.1) tt (exp_ends b h.1 r.1))
      exp_ends (core.cast p c e) h l = then_on (exp R me e l) (λ r. done (with_locals r.1 (cast_value (is_instance R c r.0) r.0))) (exp_ends e h l) (λ r. tt)
      exp_ends (core.static_call p m es) h l = absurd h.0
      exp_ends (core.instance_call p e m es) h l = absurd h.0
      exp_ends (core.super_call p e m es) h l = absurd h.0
      exp_ends (core.create p c k es) h l = absurd h.0
      exp_ends (core.super_constructor p e k es) h l = absurd h.0

      target_ends : (t : Target K) → TargetTouches Any Any ⊥ ⊥ t → (l : List (Value K)) → Unstopped (target R me t l)
      target_ends (core.local p n) h l = tt
      target_ends (core.static_field p f) h l = tt
      target_ends (core.field_of p e f) h l = then_on (exp R me e l) (λ r. done (value (in_object p r.0 f, r.1))) (exp_ends e h l) (λ r. tt)

    mutual
      pub stmt_ends : (s : Stmt K) → StmtTouches Any Any ⊥ ⊥ s → (l : List (Value K)) → Unstopped (stmt R me s l)
      stmt_ends (core.declare p n e) h l = then_on (exp R me e l) (λ r. done (value (goes_on (with_local r.1 n r.0)))) (exp_ends e h.0 l) (λ r. tt)
      stmt_ends (core.eval p e) h l = then_on (exp R me e l) (λ r. done (value (goes_on r.1))) (exp_ends e h l) (λ r. tt)
      stmt_ends (core.branch p c a b) h l = then_on (exp R me c l) (λ r. on_truth r.0 (stmt R me a r.1) (stmt R me b r.1)) (exp_ends c h.0 l) (λ r. on_either r.0 (stmt R me a r.1) (stmt R me b r.1) (stmt_ends a h.1 r.1) (stmt_ends b h.2 r.1))
      stmt_ends (core.loop p c b) h l = absurd h.0
      stmt_ends (core.return p e) h l = then_on (exp R me e l) (λ r. done (value (returns (Some r.0)))) (exp_ends e h l) (λ r. tt)
      stmt_ends (core.return_nothing p) h l = tt
      stmt_ends (core.block p ns b) h l = stmts_end b h.1 (unset ns l)
      stmt_ends (core.sync p q e b) h l = then_on (exp R me e l) (λ r. non_null r.0 (act (placed p (enter r.0)) (leaving q r.0 (stmts R me b r.1)))) (exp_ends e h.0 l)
          (λ r. on_null r.0 (act (placed p (enter r.0)) (leaving q r.0 (stmts R me b r.1))) (unstopped_and (stmts R me b r.1) (λ o. act (placed q (exit r.0)) (done o)) (stmts_end b h.1 r.1) (λ o. tt)))
      stmt_ends (core.empty p) h l = tt

      pub stmts_end : (b : Stmts K) → StmtsTouch Any Any ⊥ ⊥ b → (l : List (Value K)) → Unstopped (stmts R me b l)
      stmts_end core.Stmts.end h l = tt
      stmts_end (core.Stmts.more a b) h l = then_on (stmt R me a l) (λ f. on_flow f (λ m. stmts R me b m)) (stmt_ends a h.0 l)
          (λ f. on_flows f (λ m. stmts R me b m) (λ m. stmts_end b h.1 m))
