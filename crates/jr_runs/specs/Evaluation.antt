-- The plans of code: operands from left to right (JLS 15.7), each construct by a plan made of its
-- parts' plans.
use Rattle.std.specs.Prelude.{ℕ, zero, suc, Bool, true, false, List, [], ◌∷◌, Option, Some, None}
use Rattle.std.specs.Prelude.{unwrap_or}
use Rattle.jr_plans.specs.Plan.{Plan, done, act, ask, call, and_then}
use Rattle.jr_runs.specs.Keys.{Keys, At}
use Rattle.jr_runs.specs.Values.{Value, int, truth, null, text, class_object, object}
use Rattle.jr_runs.specs.Actions.{Location, part, shared, load, store, enter, exit, create, start}
use Rattle.jr_runs.specs.Actions.{Event, placed}
use Rattle.jr_runs.specs.Rows.{Rows}
use Rattle.jr_runs.specs.Fitting.{fits, is_truth, is_new, class_of, is_instance}
use Rattle.jr_runs.specs.Arithmetic.{null_reference, failed_cast, started_before, Out, value}
use Rattle.jr_runs.specs.Arithmetic.{thrown, calculate, number_of, operate, sign, bumped}
use Rattle.jr_runs.specs.Arithmetic.{bump_value}
use Rattle.jr_runs.specs.Core as core
use Rattle.jr_runs.specs.Core.{Exp, Target, Exps, Stmt, Stmts, Code, Method, written, starts}
use Rattle.jr_runs.specs.Core.{Program}

-- locals by number
abbrev pub Locals : Keys → Type 0
Locals K = List (Value K)

-- where a statement leads to: behind it, or out of the member, with a value or without
pub data Flow (K : Keys) : Type 0 where
  goes_on : (locals : List (Value K)) → Flow K
  returns : (value : Option (Value K)) → Flow K

-- what takes a unit of fuel: a method's run, a constructor's run, a turn of a loop
pub data Call (K : Keys) : Type 0 where
  invoke : (method : K.method) (me : Value K) (args : List (Value K)) → Call K
  construct : (constructor : K.constructor) (me : Value K) (args : List (Value K)) → Call K
  turn : (me : Value K) (condition : Exp K) (body : Stmt K) (locals : List (Value K)) → Call K

abbrev pub Step : Keys → Type 0 → Type 0
Step K A = Plan (Value K) (Event K) (Call K) (Out (Flow K)) (Out A)

abbrev pub on_value : {K : Keys} {A B : Type 0} → (A → Step K B) → Out A → Step K B
on_value k (value a) = k a
on_value k (thrown f) = done (thrown f)

-- goes on with the value, unless there is none: what throws ends abruptly (JLS 15.6)
abbrev pub next : {K : Keys} {A B : Type 0} → Step K A → (A → Step K B) → Step K B
next p k = and_then p (on_value k)

-- A local that isn't set is null, which no sound program reads.
abbrev pub local_at : {K : Keys} → List (Value K) → ℕ → Value K
local_at [] n = null
local_at (v ∷ l) zero = v
local_at (v ∷ l) (suc n) = local_at l n

abbrev pub with_local : {K : Keys} → List (Value K) → ℕ → Value K → List (Value K)
with_local [] zero w = w ∷ []
with_local [] (suc n) w = null ∷ with_local [] n w
with_local (v ∷ l) zero w = w ∷ l
with_local (v ∷ l) (suc n) w = v ∷ with_local l n w

abbrev pub unset : {K : Keys} → List ℕ → List (Value K) → List (Value K)
unset [] l = l
unset (n ∷ ns) l = unset ns (with_local l n null)

-- the first locals of a body: one for each parameter, whatever it is called with
abbrev pub first_locals : {K : Keys} → ℕ → List (Value K) → List (Value K)
first_locals zero l = []
first_locals (suc n) [] = null ∷ first_locals n []
first_locals (suc n) (v ∷ l) = v ∷ first_locals n l

abbrev pub non_null : {K : Keys} {A : Type 0} → Value K → Step K A → Step K A
non_null null p = done (thrown null_reference)
non_null (int n) p = p
non_null (truth b) p = p
non_null (text t) p = p
non_null (class_object c) p = p
non_null (object n c) p = p

-- by the truth of a boolean; what is none counts as false, which no sound program has
abbrev pub on_truth : {K : Keys} {A : Type 0} → Value K → Step K A → Step K A → Step K A
on_truth (truth true) p q = p
on_truth (truth false) p q = q
on_truth null p q = q
on_truth (int n) p q = q
on_truth (text t) p q = q
on_truth (class_object c) p q = q
on_truth (object n c) p q = q

-- by the class of a receiver; what is no reference is treated as null, which no sound program has
abbrev pub on_class : {K : Keys} {A : Type 0} → Option K.class → (K.class → Step K A) → Step K A
on_class None k = done (thrown null_reference)
on_class (Some c) k = k c

-- what is read or written, when its receiver has been evaluated
pub data Slot (K : Keys) : Type 0 where
  in_local : (number : ℕ) → Slot K
  in_static : (at : At K) (field : K.field) → Slot K
  in_object : (at : At K) (of : Value K) (field : K.field) → Slot K

-- A field's load answers what fits the field's type.
abbrev pub load_field : {K : Keys} → Rows K → At K → Location K → K.field → Step K (Value K)
load_field R at from f = ask (fits R (R.field_type f)) (λ v.
    placed at (load (R.field_kind f) from v)) (λ v. done (value v))

abbrev pub store_field : {K : Keys} → Rows K → At K → Location K → K.field → Value K → Locals K
    → Step K (Locals K)
store_field R at to f v l = act (placed at (store (R.field_kind f) to v)) (done (value l))

-- A null receiver throws here: behind the evaluation of what is stored (JLS 15.26.1).
abbrev pub load_from : {K : Keys} → Rows K → Slot K → Locals K → Step K (Value K)
load_from R (in_local n) l = done (value (local_at l n))
load_from R (in_static at f) l = load_field R at (shared f) f
load_from R (in_object at o f) l = non_null o (load_field R at (part o f) f)

abbrev pub store_to : {K : Keys} → Rows K → Slot K → Value K → Locals K → Step K (Locals K)
store_to R (in_local n) v l = done (value (with_local l n v))
store_to R (in_static at f) v l = store_field R at (shared f) f v l
store_to R (in_object at o f) v l = non_null o (store_field R at (part o f) f v l)

abbrev pub with_locals : {K : Keys} → Locals K → Out (Value K) → Out (Value K × List (Value K))
with_locals l (value v) = value (v, l)
with_locals l (thrown f) = thrown f

-- null, or an object of the class or a subclass (JLS 15.16, 5.5.3)
abbrev pub cast_value : {K : Keys} → Bool → Value K → Out (Value K)
cast_value true v = value v
cast_value false null = value null
cast_value false (int n) = thrown failed_cast
cast_value false (truth b) = thrown failed_cast
cast_value false (text t) = thrown failed_cast
cast_value false (class_object c) = thrown failed_cast
cast_value false (object n c) = thrown failed_cast

-- what a call's answer is to its caller; without a value it is null, which no sound program reads
abbrev pub answer : {K : Keys} → Locals K → Out (Flow K) → Out (Value K × List (Value K))
answer l (value (returns (Some v))) = value (v, l)
answer l (value (returns None)) = value (null, l)
answer l (value (goes_on m)) = value (null, l)
answer l (thrown f) = thrown f

-- the same of a constructor, whose value is the object
abbrev pub constructed : {K : Keys} → Value K → Locals K → Out (Flow K)
    → Out (Value K × List (Value K))
constructed o l (value f) = value (o, l)
constructed o l (thrown f) = thrown f

-- R: the declarations; me: what `this` is. A private method is none of dispatch's: it is run
-- itself.
abbrev mutual
  pub exp : {K : Keys} → Rows K → Value K → Exp K → List (Value K)
      → Step K (Value K × List (Value K))
  exp R me (core.literal at v) l = done (value (v, l))
  exp R me (core.this at) l = done (value (me, l))
  exp R me (core.read at t) l =
      next (target R me t l) (λ r. next (load_from R r.0 r.1) (λ v. done (value (v, r.1))))
  exp R me (core.assign at t e) l = next (target R me t l) (λ r. next (exp R me e r.1) (λ s.
      next (store_to R r.0 s.0 s.1) (λ m. done (value (s.0, m)))))
  exp R me (core.compound at op t e) l =
      next (target R me t l) (λ r. next (load_from R r.0 r.1) (λ old.
      next (exp R me e r.1) (λ s.
      next (done (calculate op (number_of old) (number_of s.0))) (λ v.
      next (store_to R r.0 v s.1) (λ m.
      done (value (v, m)))))))
  exp R me (core.bump at op t) l = next (target R me t l) (λ r. next (load_from R r.0 r.1) (λ old.
      next (store_to R r.0 (bumped op old) r.1) (λ m.
      done (value (bump_value op old (bumped op old), m)))))
  exp R me (core.signed at op e) l = next (exp R me e l) (λ r. done (value (sign op r.0, r.1)))
  exp R me (core.binary at op a b) l = next (exp R me a l) (λ r. next (exp R me b r.1) (λ s.
      done (with_locals s.1 (operate R.same_class op r.0 s.0))))
  exp R me (core.both at a b) l = next (exp R me a l) (λ r.
      on_truth r.0 (exp R me b r.1) (done (value (truth false, r.1))))
  exp R me (core.either at a b) l = next (exp R me a l) (λ r.
      on_truth r.0 (done (value (truth true, r.1))) (exp R me b r.1))
  exp R me (core.cast at c e) l = next (exp R me e l) (λ r.
      done (with_locals r.1 (cast_value (is_instance R c r.0) r.0)))
  exp R me (core.static_call at m es) l = next (exps R me es l) (λ s. call (invoke m null s.0) (λ o.
      done (answer s.1 o)))
  exp R me (core.instance_call at e m es) l = next (exp R me e l) (λ r.
      next (exps R me es r.1) (λ s. on_class (class_of R r.0) (λ c.
      call (invoke (unwrap_or (R.dispatch c m) m) r.0 s.0) (λ o. done (answer s.1 o)))))
  exp R me (core.super_call at e m es) l = next (exp R me e l) (λ r. next (exps R me es r.1) (λ s.
      non_null r.0 (call (invoke m r.0 s.0) (λ o. done (answer s.1 o)))))
  exp R me (core.create at c k es) l = ask (is_new R c) (λ o. placed at (create o)) (λ o.
      next (exps R me es l) (λ s. call (construct k o s.0) (λ a. done (constructed o s.1 a))))
  exp R me (core.super_constructor at e k es) l =
      next (exp R me e l) (λ r. next (exps R me es r.1) (λ s.
      non_null r.0 (call (construct k r.0 s.0) (λ a. done (constructed r.0 s.1 a)))))

  -- the receiver alone: neither the test for null nor the access
  pub target : {K : Keys} → Rows K → Value K → Target K → List (Value K)
      → Step K (Slot K × List (Value K))
  target R me (core.local at n) l = done (value (in_local n, l))
  target R me (core.static_field at f) l = done (value (in_static at f, l))
  target R me (core.field_of at e f) l =
      next (exp R me e l) (λ r. done (value (in_object at r.0 f, r.1)))

  -- arguments, in their order (JLS 15.12.4.2)
  pub exps : {K : Keys} → Rows K → Value K → Exps K → List (Value K)
      → Step K (List (Value K) × List (Value K))
  exps R me core.Exps.end l = done (value ([], l))
  exps R me (core.Exps.more e es) l = next (exp R me e l) (λ r. next (exps R me es r.1) (λ s.
      done (value (r.0 ∷ s.0, s.1))))

abbrev pub on_flow : {K : Keys} → Flow K → (List (Value K) → Step K (Flow K)) → Step K (Flow K)
on_flow (goes_on l) k = k l
on_flow (returns v) k = done (value (returns v))

-- However the block comes to its end, the monitor is exited behind it (JLS 14.19).
abbrev pub leaving : {K : Keys} {A : Type 0} → At K → Value K → Step K A → Step K A
leaving at o p = and_then p (λ a. act (placed at (exit o)) (done a))

abbrev mutual
  pub stmt : {K : Keys} → Rows K → Value K → Stmt K → List (Value K) → Step K (Flow K)
  stmt R me (core.declare at n e) l =
      next (exp R me e l) (λ r. done (value (goes_on (with_local r.1 n r.0))))
  stmt R me (core.eval at e) l = next (exp R me e l) (λ r. done (value (goes_on r.1)))
  stmt R me (core.branch at c a b) l =
      next (exp R me c l) (λ r. on_truth r.0 (stmt R me a r.1) (stmt R me b r.1))
  stmt R me (core.loop at c b) l = call (turn me c b l) (λ o. done o)
  stmt R me (core.return at e) l = next (exp R me e l) (λ r. done (value (returns (Some r.0))))
  stmt R me (core.return_nothing at) l = done (value (returns None))
  stmt R me (core.block at ns b) l = stmts R me b (unset ns l)
  stmt R me (core.sync entered exited e b) l = next (exp R me e l) (λ r.
      non_null r.0 (act (placed entered (enter r.0)) (leaving exited r.0 (stmts R me b r.1))))
  stmt R me (core.empty at) l = done (value (goes_on l))

  pub stmts : {K : Keys} → Rows K → Value K → Stmts K → List (Value K) → Step K (Flow K)
  stmts R me core.Stmts.end l = done (value (goes_on l))
  stmts R me (core.Stmts.more a b) l = next (stmt R me a l) (λ f. on_flow f (λ m. stmts R me b m))

abbrev pub run_code : {K : Keys} → Rows K → Value K → Code K → List (Value K) → Step K (Flow K)
run_code R me c args = stmts R me c.body (first_locals c.params args)

-- A start asks whether the thread was started before; if so it throws (JLS 17.2;
-- java.lang.Thread.start).
abbrev pub run_start : {K : Keys} → Value K → Step K (Flow K)
run_start me = ask is_truth (λ v. placed None (start me v)) (λ v.
    on_truth v (done (thrown started_before)) (done (value (returns None))))

abbrev pub run_method : {K : Keys} → Rows K → Value K → Method K → List (Value K) → Step K (Flow K)
run_method R me (written c) args = run_code R me c args
run_method R me starts args = run_start me

-- what stands behind each call
abbrev pub table : {K : Keys} → Program K → Call K → Step K (Flow K)
table P (invoke m me args) = run_method P.rows me (P.method m) args
table P (construct k me args) = run_code P.rows me (P.constructor k) args
table P (turn me c b l) = next (exp P.rows me c l) (λ r.
    on_truth r.0 (next (stmt P.rows me b r.1) (λ f.
    on_flow f (λ m. call (turn me c b m) (λ o. done o)))) (done (value (goes_on r.1))))
