-- Pieces of code in turn, what their results have, and locks that never are null.
use Rattle.std.proofs.Common.{◌≡◌, ◌⊎◌, ℕ, zero, suc, ◌+◌, Bool, true, false, IsTrue, List, refl, sym, ap, ◌∙◌, inl, inr, arith}
use Rattle.jr_plans.specs.Plan.{Plan, done, act, ask, call, and_then}
use Rattle.jr_plans.specs.Finite.{Finite, Results}
use Rattle.jr_plans.proofs.Finishing.{and_then_assoc, and_then_done, finite_within}
use Rattle.jr_plans.proofs.Resulting.{results_and, and_then_where}
use Rattle.jr_runs.specs.Keys.{Keys, At}
use Rattle.jr_runs.specs.Values.{Value, int, truth, null, text, class_object, object}
use Rattle.jr_runs.specs.Actions.{exit, Event, placed}
use Rattle.jr_runs.specs.Rows.{Rows}
use Rattle.jr_runs.specs.Arithmetic.{Out, value, thrown}
use Rattle.jr_runs.specs.Core.{Exp, Target}
use Rattle.jr_runs.specs.Evaluation.{Step, on_value, next, non_null, on_truth, leaving, exp, target}
use Rattle.jr_runs_held.specs.Footprint.{CalmTarget, calm_local, calm_static, calm_own, NeverNull, never_this, never_text, never_class}
use Rattle.jr_runs_held.specs.Places.{monitor_of, slot_of}

pub next_assoc : {K : Keys} {A B C : Type 0} (p : Step K A) (h : A → Step K B) (k : B → Step K C) → next (next p h) k ≡ next p (λ a. next (h a) k)
next_assoc {K = K} {A = A} {C = C} p h k = and_then_assoc p (on_value h) (on_value k) ∙ (λ i. and_then p (λ o. same_out o i))
  where
    same_out : (o : Out A) → and_then (on_value h o) (on_value k) ≡ on_value {K = K} {B = C} (λ a. next (h a) k) o
    same_out (value a) = refl
    same_out (thrown f) = refl

pub next_id : {K : Keys} {A : Type 0} (p : Step K A) → next p (λ a. done (value a)) ≡ p
next_id {K = K} {A = A} p = (λ i. and_then p (λ o. same_out o i)) ∙ and_then_done p
  where
    same_out : (o : Out A) → on_value {K = K} (λ a. done (value a)) o ≡ done o
    same_out (value a) = refl
    same_out (thrown f) = refl

-- what comes to one value
abbrev pub value_in : {K : Keys} {A : Type 0} → A → Step K A → A
value_in d (done (value a)) = a
value_in d (done (thrown f)) = d
value_in d (act x p) = d
value_in d (ask f s p) = d
value_in d (call c p) = d

pub one_value : {K : Keys} {A : Type 0} (a b : A) (p : Step K A) → p ≡ done (value a) → p ≡ done (value b) → a ≡ b
one_value a b p e h = ap (value_in a) (sym e ∙ h)

-- ---- results

module _ {V E S R A : Type 0} (U U' : A → Type 0) where
  pub results_more : ((a : A) → U a → U' a) → (p : Plan V E S R A) → Results U p → Results U' p
  results_more i (done a) h = i a h
  results_more i (act x p) h = results_more i p h
  results_more i (ask f s p) h = λ v. results_more i (p v) (h v)
  results_more i (call c p) h = λ r. results_more i (p r) (h r)

  pub results_two : (p : Plan V E S R A) → Results U p → Results U' p → Results (λ a. U a × U' a) p
  results_two (done a) h g = (h, g)
  results_two (act x p) h g = results_two p h g
  results_two (ask f s p) h g = λ v. results_two (p v) (h v) (g v)
  results_two (call c p) h g = λ r. results_two (p r) (h r) (g r)

pub results_all : {V E S R A : Type 0} (U : A → Type 0) → ((a : A) → U a) → (p : Plan V E S R A) → Results U p
results_all U u (done a) = u a
results_all U u (act x p) = results_all U u p
results_all U u (ask f s p) = λ v. results_all U u (p v)
results_all U u (call c p) = λ r. results_all U u (p r)

-- a value of which Q holds, and no throw
abbrev pub IsCame : {A : Type 0} → (A → Type 0) → Out A → Type 0
IsCame Q (value a) = Q a
IsCame Q (thrown f) = ⊥

pub came_next : {K : Keys} {A B : Type 0} (Q : A → Type 0) (Q' : B → Type 0) (p : Step K A) (k : A → Step K B) → Results (IsCame Q) p → ((a : A) → Q a → Results (IsCame Q') (k a)) → Results (IsCame Q') (next p k)
came_next {A = A} Q Q' p k h g = results_and (IsCame Q) (IsCame Q') p (on_value k) h go
  where
    go : (o : Out A) → IsCame Q o → Results (IsCame Q') (on_value k o)
    go (value a) u = g a u
    go (thrown f) u = absurd u

-- what follows need be finite only at such values
pub finite_next : {K : Keys} {A B : Type 0} (F : Event K → Type 0) (Q : A → Type 0) (p : Step K A) (k : A → Step K B) (n m : ℕ) → Finite F p n → Results (IsCame Q) p → ((a : A) → Q a → Finite F (k a) m) → Finite F (next p k) (n + m)
finite_next F Q (done (value a)) k n m c h g = finite_within F F (k a) m (n + m) (omega arith) (λ x i. i) (g a h)
finite_next F Q (done (thrown f)) k n m c h g = absurd h
finite_next F Q (act x p) k zero m c h g = absurd c
finite_next F Q (act x p) k (suc n) m c h g = let e : suc n + m ≡ suc (n + m) = omega arith in rw e (c.0, finite_next F Q p k n m c.1 h g)
finite_next F Q (ask f s p) k zero m c h g = absurd c
finite_next F Q (ask f s p) k (suc n) m c h g = let e : suc n + m ≡ suc (n + m) = omega arith in rw e (c.0, λ v i. ((c.1 v i).0, finite_next F Q (p v) k n m (c.1 v i).1 (h v) g))
finite_next F Q (call b p) k n m c h g = absurd c

-- A monitor that is left behind two pieces is left behind the second, where the first can't throw.
pub leaving_next : {K : Keys} {A B : Type 0} (q : At K) (o : Value K) (p : Step K A) (k : A → Step K B) → Results (IsCame (λ a. Unit {0})) p → leaving q o (next p k) ≡ next p (λ a. leaving q o (k a))
leaving_next {K = K} {A = A} {B = B} q o p k h = and_then_assoc p (on_value k) (λ b. act (placed q (exit o)) (done b))
    ∙ and_then_where (IsCame (λ a. Unit {0})) p (λ a. leaving q o (on_value k a)) (on_value (λ a. leaving q o (k a))) h go
  where
    go : (a : Out A) → IsCame (λ x. Unit {0}) a → leaving q o (on_value k a) ≡ on_value {K = K} {B = B} (λ x. leaving q o (k x)) a
    go (value a) u = refl
    go (thrown f) u = absurd u

-- ---- values

pub truth_cases : {K : Keys} {A : Type 0} (v : Value K) → ((p q : Step K A) → on_truth v p q ≡ p) ⊎ ((p q : Step K A) → on_truth v p q ≡ q)
truth_cases (truth true) = inl (λ p q. refl)
truth_cases (truth false) = inr (λ p q. refl)
truth_cases null = inr (λ p q. refl)
truth_cases (int n) = inr (λ p q. refl)
truth_cases (text t) = inr (λ p q. refl)
truth_cases (class_object c) = inr (λ p q. refl)
truth_cases (object n c) = inr (λ p q. refl)

pub not_null : {K : Keys} {A : Type 0} (v : Value K) → (v ≡ null → ⊥) → (p : Step K A) → non_null v p ≡ p
not_null null h p = absurd (h refl)
not_null (int n) h p = refl
not_null (truth b) h p = refl
not_null (text t) h p = refl
not_null (class_object c) h p = refl
not_null (object n c) h p = refl

module _ {K : Keys} (R : Rows K) (me : Value K) (own : Bool) where
  pub plain_target : (t : Target K) (ns : List ℕ) (fs : List K.field) → CalmTarget own t ns fs → (l : List (Value K)) → target R me t l ≡ done (value (slot_of me t, l))
  plain_target t ns fs (calm_local p n) l = refl
  plain_target t ns fs (calm_static p f) l = refl
  plain_target t ns fs (calm_own p q f i) l = refl

  pub never_value : (x : Exp K) → NeverNull own x → (l : List (Value K)) → exp R me x l ≡ done (value (monitor_of me x, l))
  never_value x (never_this p i) l = refl
  never_value x (never_text p t) l = refl
  never_value x (never_class p c) l = refl

  pub never_stops : {A : Type 0} (x : Exp K) → NeverNull own x → (IsTrue own → me ≡ null → ⊥) → (p : Step K A) → non_null (monitor_of me x) p ≡ p
  never_stops x (never_this q i) h p = not_null me (h i) p
  never_stops x (never_text q t) h p = refl
  never_stops x (never_class q c) h p = refl
