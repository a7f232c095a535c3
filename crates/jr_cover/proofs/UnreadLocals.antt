-- Code that reads no local of N does the same beside locals that are the same but for those of N:
-- one lemma a construct, over both plans at once.
use Rattle.std.proofs.Common.{◌≡◌, ℕ, Bool, true, false, List, [], ◌∷◌, Option, Some, None, unwrap_or, refl, sym, ap, subst, ◌∙◌, ⊎_elim}
use Rattle.std.proofs.lemmas.Bool.{cases_eq}
use Rattle.jr_plans.specs.Plan.{done, act, call}
use Rattle.jr_runs.specs.Keys.{Keys, At}
use Rattle.jr_runs.specs.Values.{Value, int, truth, null, text, class_object, object}
use Rattle.jr_runs.specs.Actions.{Location, part, shared, load, store, enter, exit, create, placed}
use Rattle.jr_runs.specs.Rows.{Rows}
use Rattle.jr_runs.specs.Fitting.{fits, is_new, class_of, is_instance}
use Rattle.jr_runs.specs.Arithmetic.{null_reference, Out, value, thrown, calculate, number_of, operate, sign, bumped, bump_value}
use Rattle.jr_runs.specs.Core as core
use Rattle.jr_runs.specs.Core.{Exp, Target, Exps, Stmt, Stmts, Program}
use Rattle.jr_runs.specs.Evaluation.{Flow, goes_on, returns, Call, invoke, construct, turn, Step, on_value, next, non_null, on_truth, on_class, on_flow, leaving, Slot, in_local, in_static, in_object, load_field, load_from, store_to, local_at, with_local, with_locals, unset, cast_value, answer, constructed, exp, target, exps, stmt, stmts, table}
use Rattle.jr_runs.specs.Pairs.{OutRel}
use Rattle.jr_runs.specs.Running.{is_activation}
use Rattle.jr_runs.proofs.Locals.{written, not_written}
use Rattle.jr_cover.specs.Unread.{SameBut, SameValues, SameFlows}
use Rattle.jr_cover.proofs.Touching.{Any, NotOf, ReadBy, Touches, TargetTouches, AllTouch, StmtTouches, StmtsTouch}
use Rattle.jr_cover.proofs.SideBySide.{Beside, both_done, both_act, both_ask, both_call, beside_and, beside_itself}

module _ {K : Keys} (N : ℕ → Bool) where
  abbrev pub Alone : Exp K → Type 0
  Alone e = Touches (NotOf N) Any (Unit {0}) (Unit {0}) e

  abbrev pub StmtAlone : Stmt K → Type 0
  StmtAlone s = StmtTouches (NotOf N) Any (Unit {0}) (Unit {0}) s

  -- a call beside itself; a turn of a loop beside one with other locals of N
  pub data Go : Call K → Call K → Type 0 where
    itself : (c : Call K) → Go c c
    turned : (me : Value K) (c : Exp K) (b : Stmt K) (l m : List (Value K)) → Alone c → StmtAlone b → SameBut N l m → Go (turn me c b l) (turn me c b m)

  abbrev pub Back : (c d : Call K) → Go c d → Out (Flow K) → Out (Flow K) → Type 0
  Back c d (itself e) = λ r t. r ≡ t
  Back c d (turned me e b l m h g s) = OutRel (SameFlows N)

  abbrev pub Both : {A : Type 0} → (A → A → Type 0) → Step K A → Step K A → Type 0
  Both Q p q = Beside Go Back (OutRel Q) p q

  -- what is come to: a value, a list of values, each beside locals; a value; locals; a flow
  abbrev pub Val : Value K × List (Value K) → Value K × List (Value K) → Type 0
  Val = SameValues N

  abbrev Args : List (Value K) × List (Value K) → List (Value K) × List (Value K) → Type 0
  Args a b = (a.0 ≡ b.0) × SameBut N a.1 b.1

  abbrev One : Value K → Value K → Type 0
  One v w = v ≡ w

  abbrev Loc : List (Value K) → List (Value K) → Type 0
  Loc = SameBut N

  abbrev pub Flo : Flow K → Flow K → Type 0
  Flo = SameFlows N

  -- ---- one construct behind another

  both_next : {A B : Type 0} (Q : A → A → Type 0) (U : B → B → Type 0) (p q : Step K A) (k j : A → Step K B) → Both Q p q → ((a b : A) → Q a b → Both U (k a) (j b)) → Both U (next p k) (next q j)
  both_next {A = A} Q U p q k j h g = beside_and Go Back (OutRel Q) (OutRel U) p q (on_value k) (on_value j) h go
    where
      go : (a b : Out A) → OutRel Q a b → Both U (on_value k a) (on_value j b)
      go (value a) (value b) i = g a b i
      go (thrown f) (thrown y) i = both_done (thrown f) (thrown y) i
      go (value a) (thrown y) i = absurd i
      go (thrown f) (value b) i = absurd i

  module _ {B : Type 0} (U : B → B → Type 0) where
    then_value : (p q : Step K (Value K × List (Value K))) (k j : Value K × List (Value K) → Step K B) → Both Val p q
        → ((v : Value K) (l m : List (Value K)) → SameBut N l m → Both U (k (v, l)) (j (v, m))) → Both U (next p k) (next q j)
    then_value p q k j h g = both_next Val U p q k j h (λ a b i. subst (λ z. Both U (k a) (j (z, b.1))) i.0 (g a.0 a.1 b.1 i.1))

    then_args : (p q : Step K (List (Value K) × List (Value K))) (k j : List (Value K) × List (Value K) → Step K B) → Both Args p q
        → ((vs l m : List (Value K)) → SameBut N l m → Both U (k (vs, l)) (j (vs, m))) → Both U (next p k) (next q j)
    then_args p q k j h g = both_next Args U p q k j h (λ a b i. subst (λ z. Both U (k a) (j (z, b.1))) i.0 (g a.0 a.1 b.1 i.1))

    then_one : (p q : Step K (Value K)) (k j : Value K → Step K B) → Both One p q → ((v : Value K) → Both U (k v) (j v)) → Both U (next p k) (next q j)
    then_one p q k j h g = both_next One U p q k j h (λ a b i. subst (λ z. Both U (k a) (j z)) i (g a))

    both_null : (v : Value K) (p q : Step K B) → Both U p q → Both U (non_null v p) (non_null v q)
    both_null null p q h = both_done (thrown null_reference) (thrown null_reference) refl
    both_null (int z) p q h = h
    both_null (truth b) p q h = h
    both_null (text t) p q h = h
    both_null (class_object c) p q h = h
    both_null (object i c) p q h = h

    both_truth : (v : Value K) (p q x y : Step K B) → Both U p q → Both U x y → Both U (on_truth v p x) (on_truth v q y)
    both_truth (truth true) p q x y h g = h
    both_truth (truth false) p q x y h g = g
    both_truth null p q x y h g = g
    both_truth (int z) p q x y h g = g
    both_truth (text t) p q x y h g = g
    both_truth (class_object c) p q x y h g = g
    both_truth (object i c) p q x y h g = g

    both_class : (o : Option K.class) (k j : K.class → Step K B) → ((c : K.class) → Both U (k c) (j c)) → Both U (on_class o k) (on_class o j)
    both_class None k j h = both_done (thrown null_reference) (thrown null_reference) refl
    both_class (Some c) k j h = h c

  both_flow : (f g : Flow K) (k j : List (Value K) → Step K (Flow K)) → Flo f g → ((l m : List (Value K)) → SameBut N l m → Both Flo (k l) (j m)) → Both Flo (on_flow f k) (on_flow g j)
  both_flow (goes_on l) (goes_on m) k j e h = h l m e
  both_flow (returns v) (returns w) k j e h = both_done (value (returns v)) (value (returns w)) e
  both_flow (goes_on l) (returns w) k j e h = absurd e
  both_flow (returns v) (goes_on m) k j e h = absurd e

  -- ---- locals

  written_same : (l m : List (Value K)) (n : ℕ) (v : Value K) → SameBut N l m → SameBut N (with_local l n v) (with_local m n v)
  written_same l m n v s i t = ⊎_elim
      (λ (e : i ≡ n). ap (λ z. local_at (with_local m n v) z) e ∙ written m n v ∙ sym (written l n v) ∙ sym (ap (λ z. local_at (with_local l n v) z) e))
      (λ (d : i ≡ n → ⊥). not_written m n i v d ∙ s i t ∙ sym (not_written l n i v d))
      (cases_eq i n)

  unset_same : (ns : List ℕ) (l m : List (Value K)) → SameBut N l m → SameBut N (unset ns l) (unset ns m)
  unset_same [] l m s = s
  unset_same (n ∷ ns) l m s = unset_same ns (with_local l n null) (with_local m n null) (written_same l m n null s)

  -- ---- answers of calls

  both_with : (o : Out (Value K)) (l m : List (Value K)) → SameBut N l m → Both Val (done (with_locals l o)) (done (with_locals m o))
  both_with (value v) l m s = both_done (value (v, l)) (value (v, m)) (refl, s)
  both_with (thrown f) l m s = both_done (thrown f) (thrown f) refl

  both_answer : (o : Out (Flow K)) (l m : List (Value K)) → SameBut N l m → Both Val (done (answer l o)) (done (answer m o))
  both_answer (value (returns (Some v))) l m s = both_done (value (v, l)) (value (v, m)) (refl, s)
  both_answer (value (returns None)) l m s = both_done (value (null, l)) (value (null, m)) (refl, s)
  both_answer (value (goes_on k)) l m s = both_done (value (null, l)) (value (null, m)) (refl, s)
  both_answer (thrown f) l m s = both_done (thrown f) (thrown f) refl

  both_made : (o : Value K) (r : Out (Flow K)) (l m : List (Value K)) → SameBut N l m → Both Val (done (constructed o l r)) (done (constructed o m r))
  both_made o (value f) l m s = both_done (value (o, l)) (value (o, m)) (refl, s)
  both_made o (thrown f) l m s = both_done (thrown f) (thrown f) refl

  answered : (c : Call K) (l m : List (Value K)) → SameBut N l m → Both Val (call c (λ o. done (answer l o))) (call c (λ o. done (answer m o)))
  answered c l m s = both_call c c (λ o. done (answer l o)) (λ o. done (answer m o)) (itself c) (λ r t e. subst (λ z. Both Val (done (answer l r)) (done (answer m z))) e (both_answer r l m s))

  made : (c : Call K) (o : Value K) (l m : List (Value K)) → SameBut N l m → Both Val (call c (λ r. done (constructed o l r))) (call c (λ r. done (constructed o m r)))
  made c o l m s = both_call c c (λ r. done (constructed o l r)) (λ r. done (constructed o m r)) (itself c) (λ r t e. subst (λ z. Both Val (done (constructed o l r)) (done (constructed o m z))) e (both_made o r l m s))

  module _ (R : Rows K) where
    -- ---- what is read or written

    abbrev SlotRead : Slot K → Type 0
    SlotRead (in_local n) = N n ≡ false
    SlotRead (in_static p f) = Unit {0}
    SlotRead (in_object p o f) = Unit {0}

    abbrev Aim : Target K → Slot K × List (Value K) → Slot K × List (Value K) → Type 0
    Aim t a b = (a.0 ≡ b.0) × SameBut N a.1 b.1 × (ReadBy (NotOf N) Any (Unit {0}) (Unit {0}) t → SlotRead a.0)

    then_slot : {B : Type 0} (U : B → B → Type 0) (t : Target K) (p q : Step K (Slot K × List (Value K))) (k j : Slot K × List (Value K) → Step K B) → Both (Aim t) p q
        → ((x : Slot K) (l m : List (Value K)) → SameBut N l m → (ReadBy (NotOf N) Any (Unit {0}) (Unit {0}) t → SlotRead x) → Both U (k (x, l)) (j (x, m))) → Both U (next p k) (next q j)
    then_slot U t p q k j h g = both_next (Aim t) U p q k j h (λ a b i. subst (λ z. Both U (k a) (j (z, b.1))) i.0 (g a.0 a.1 b.1 i.1 i.2))

    loaded : (p : At K) (from : Location K) (f : K.field) → Both One (load_field R p from f) (load_field R p from f)
    loaded p from f = both_ask (fits R (R.field_type f)) (λ v. placed p (load (R.field_kind f) from v)) (λ v. done (value v)) (λ v. done (value v)) (λ v. both_done (value v) (value v) refl)

    both_load : (x : Slot K) (l m : List (Value K)) → SlotRead x → SameBut N l m → Both One (load_from R x l) (load_from R x m)
    both_load (in_local n) l m h s = both_done (value (local_at l n)) (value (local_at m n)) (sym (s n h))
    both_load (in_static p f) l m h s = loaded p (shared f) f
    both_load (in_object p o f) l m h s = both_null One o (load_field R p (part o f) f) (load_field R p (part o f) f) (loaded p (part o f) f)

    stored : (p : At K) (to : Location K) (f : K.field) (v : Value K) (l m : List (Value K)) → SameBut N l m
        → Both Loc (act (placed p (store (R.field_kind f) to v)) (done (value l))) (act (placed p (store (R.field_kind f) to v)) (done (value m)))
    stored p to f v l m s = both_act (placed p (store (R.field_kind f) to v)) (done (value l)) (done (value m)) (both_done (value l) (value m) s)

    both_store : (x : Slot K) (v : Value K) (l m : List (Value K)) → SameBut N l m → Both Loc (store_to R x v l) (store_to R x v m)
    both_store (in_local n) v l m s = both_done (value (with_local l n v)) (value (with_local m n v)) (written_same l m n v s)
    both_store (in_static p f) v l m s = stored p (shared f) f v l m s
    both_store (in_object p o f) v l m s = both_null Loc o (act (placed p (store (R.field_kind f) (part o f) v)) (done (value l))) (act (placed p (store (R.field_kind f) (part o f) v)) (done (value m))) (stored p (part o f) f v l m s)

    store_gives : (x : Slot K) (v w : Value K) (l m : List (Value K)) → SameBut N l m → Both Val (next (store_to R x v l) (λ k. done (value (w, k)))) (next (store_to R x v m) (λ k. done (value (w, k))))
    store_gives x v w l m s = both_next Loc Val (store_to R x v l) (store_to R x v m) (λ k. done (value (w, k))) (λ k. done (value (w, k))) (both_store x v l m s) (λ a b i. both_done (value (w, a)) (value (w, b)) (refl, i))

    store_computed : (o : Out (Value K)) (x : Slot K) (l m : List (Value K)) → SameBut N l m
        → Both Val (next (done o) (λ v. next (store_to R x v l) (λ k. done (value (v, k))))) (next (done o) (λ v. next (store_to R x v m) (λ k. done (value (v, k)))))
    store_computed (value v) x l m s = store_gives x v v l m s
    store_computed (thrown f) x l m s = both_done (thrown f) (thrown f) refl

    module _ (me : Value K) where
      mutual
        pub exp_both : (e : Exp K) → Alone e → (l m : List (Value K)) → SameBut N l m → Both Val (exp R me e l) (exp R me e m)
        exp_both (core.literal p v) h l m s = both_done (value (v, l)) (value (v, m)) (refl, s)
        exp_both (core.this p) h l m s = both_done (value (me, l)) (value (me, m)) (refl, s)
        exp_both (core.read p t) h l m s = then_slot Val t (target R me t l) (target R me t m) (λ r. next (load_from R r.0 r.1) (λ v. done (value (v, r.1)))) (λ r. next (load_from R r.0 r.1) (λ v. done (value (v, r.1)))) (target_both t h.1 l m s)
            (λ x a b i r. then_one Val (load_from R x a) (load_from R x b) (λ v. done (value (v, a))) (λ v. done (value (v, b))) (both_load x a b (r h.0) i) (λ v. both_done (value (v, a)) (value (v, b)) (refl, i)))
        exp_both (core.assign p t e) h l m s = then_slot Val t (target R me t l) (target R me t m) (λ r. next (exp R me e r.1) (λ z. next (store_to R r.0 z.0 z.1) (λ k. done (value (z.0, k))))) (λ r. next (exp R me e r.1) (λ z. next (store_to R r.0 z.0 z.1) (λ k. done (value (z.0, k))))) (target_both t h.1 l m s)
            (λ x a b i r. then_value Val (exp R me e a) (exp R me e b) (λ z. next (store_to R x z.0 z.1) (λ k. done (value (z.0, k)))) (λ z. next (store_to R x z.0 z.1) (λ k. done (value (z.0, k)))) (exp_both e h.2 a b i) (λ v c d j. store_gives x v v c d j))
        exp_both (core.compound p o t e) h l m s = then_slot Val t (target R me t l) (target R me t m)
            (λ r. next (load_from R r.0 r.1) (λ old. next (exp R me e r.1) (λ z. next (done (calculate o (number_of old) (number_of z.0))) (λ v. next (store_to R r.0 v z.1) (λ k. done (value (v, k)))))))
            (λ r. next (load_from R r.0 r.1) (λ old. next (exp R me e r.1) (λ z. next (done (calculate o (number_of old) (number_of z.0))) (λ v. next (store_to R r.0 v z.1) (λ k. done (value (v, k))))))) (target_both t h.2 l m s)
            (λ x a b i r. then_one Val (load_from R x a) (load_from R x b)
            (λ old. next (exp R me e a) (λ z. next (done (calculate o (number_of old) (number_of z.0))) (λ v. next (store_to R x v z.1) (λ k. done (value (v, k))))))
            (λ old. next (exp R me e b) (λ z. next (done (calculate o (number_of old) (number_of z.0))) (λ v. next (store_to R x v z.1) (λ k. done (value (v, k)))))) (both_load x a b (r h.0) i)
            (λ old. then_value Val (exp R me e a) (exp R me e b) (λ z. next (done (calculate o (number_of old) (number_of z.0))) (λ v. next (store_to R x v z.1) (λ k. done (value (v, k))))) (λ z. next (done (calculate o (number_of old) (number_of z.0))) (λ v. next (store_to R x v z.1) (λ k. done (value (v, k)))))
            (exp_both e h.3 a b i) (λ w c d j. store_computed (calculate {K = K} o (number_of old) (number_of w)) x c d j)))
        exp_both (core.bump p o t) h l m s = then_slot Val t (target R me t l) (target R me t m) (λ r. next (load_from R r.0 r.1) (λ old. next (store_to R r.0 (bumped o old) r.1) (λ k. done (value (bump_value o old (bumped o old), k)))))
            (λ r. next (load_from R r.0 r.1) (λ old. next (store_to R r.0 (bumped o old) r.1) (λ k. done (value (bump_value o old (bumped o old), k))))) (target_both t h.2 l m s)
            (λ x a b i r. then_one Val (load_from R x a) (load_from R x b) (λ old. next (store_to R x (bumped o old) a) (λ k. done (value (bump_value o old (bumped o old), k)))) (λ old. next (store_to R x (bumped o old) b) (λ k. done (value (bump_value o old (bumped o old), k))))
            (both_load x a b (r h.0) i) (λ old. store_gives x (bumped o old) (bump_value o old (bumped o old)) a b i))
        exp_both (core.signed p o e) h l m s = then_value Val (exp R me e l) (exp R me e m) (λ r. done (value (sign o r.0, r.1))) (λ r. done (value (sign o r.0, r.1))) (exp_both e h l m s) (λ v a b i. both_done (value (sign o v, a)) (value (sign o v, b)) (refl, i))
        exp_both (core.binary p o x y) h l m s = then_value Val (exp R me x l) (exp R me x m) (λ r. next (exp R me y r.1) (λ z. done (with_locals z.1 (operate R.same_class o r.0 z.0)))) (λ r. next (exp R me y r.1) (λ z. done (with_locals z.1 (operate R.same_class o r.0 z.0)))) (exp_both x h.0 l m s)
            (λ v a b i. then_value Val (exp R me y a) (exp R me y b) (λ z. done (with_locals z.1 (operate R.same_class o v z.0))) (λ z. done (with_locals z.1 (operate R.same_class o v z.0))) (exp_both y h.1 a b i) (λ w c d j. both_with (operate R.same_class o v w) c d j))
        exp_both (core.both p x y) h l m s = then_value Val (exp R me x l) (exp R me x m) (λ r. on_truth r.0 (exp R me y r.1) (done (value (truth false, r.1)))) (λ r. on_truth r.0 (exp R me y r.1) (done (value (truth false, r.1)))) (exp_both x h.0 l m s)
            (λ v a b i. both_truth Val v (exp R me y a) (exp R me y b) (done (value (truth false, a))) (done (value (truth false, b))) (exp_both y h.1 a b i) (both_done (value (truth false, a)) (value (truth false, b)) (refl, i)))
        exp_both (core.either p x y) h l m s = then_value Val (exp R me x l) (exp R me x m) (λ r. on_truth r.0 (done (value (truth true, r.1))) (exp R me y r.1)) (λ r. on_truth r.0 (done (value (truth true, r.1))) (exp R me y r.1)) (exp_both x h.0 l m s)
            (λ v a b i. both_truth Val v (done (value (truth true, a))) (done (value (truth true, b))) (exp R me y a) (exp R me y b) (both_done (value (truth true, a)) (value (truth true, b)) (refl, i)) (exp_both y h.1 a b i))
        exp_both (core.cast p c e) h l m s = then_value Val (exp R me e l) (exp R me e m) (λ r. done (with_locals r.1 (cast_value (is_instance R c r.0) r.0))) (λ r. done (with_locals r.1 (cast_value (is_instance R c r.0) r.0))) (exp_both e h l m s)
            (λ v a b i. both_with (cast_value (is_instance R c v) v) a b i)
        exp_both (core.static_call p n es) h l m s = then_args Val (exps R me es l) (exps R me es m) (λ z. call (invoke n null z.0) (λ o. done (answer z.1 o))) (λ z. call (invoke n null z.0) (λ o. done (answer z.1 o))) (exps_both es h.1 l m s) (λ vs a b i. answered (invoke n null vs) a b i)
        exp_both (core.instance_call p e n es) h l m s = then_value Val (exp R me e l) (exp R me e m) (λ r. next (exps R me es r.1) (λ z. on_class (class_of R r.0) (λ c. call (invoke (unwrap_or (R.dispatch c n) n) r.0 z.0) (λ o. done (answer z.1 o)))))
            (λ r. next (exps R me es r.1) (λ z. on_class (class_of R r.0) (λ c. call (invoke (unwrap_or (R.dispatch c n) n) r.0 z.0) (λ o. done (answer z.1 o))))) (exp_both e h.1 l m s)
            (λ v a b i. then_args Val (exps R me es a) (exps R me es b) (λ z. on_class (class_of R v) (λ c. call (invoke (unwrap_or (R.dispatch c n) n) v z.0) (λ o. done (answer z.1 o)))) (λ z. on_class (class_of R v) (λ c. call (invoke (unwrap_or (R.dispatch c n) n) v z.0) (λ o. done (answer z.1 o)))) (exps_both es h.2 a b i)
            (λ vs x y j. both_class Val (class_of R v) (λ c. call (invoke (unwrap_or (R.dispatch c n) n) v vs) (λ o. done (answer x o))) (λ c. call (invoke (unwrap_or (R.dispatch c n) n) v vs) (λ o. done (answer y o))) (λ c. answered (invoke (unwrap_or (R.dispatch c n) n) v vs) x y j)))
        exp_both (core.super_call p e n es) h l m s = then_value Val (exp R me e l) (exp R me e m) (λ r. next (exps R me es r.1) (λ z. non_null r.0 (call (invoke n r.0 z.0) (λ o. done (answer z.1 o))))) (λ r. next (exps R me es r.1) (λ z. non_null r.0 (call (invoke n r.0 z.0) (λ o. done (answer z.1 o))))) (exp_both e h.1 l m s)
            (λ v a b i. then_args Val (exps R me es a) (exps R me es b) (λ z. non_null v (call (invoke n v z.0) (λ o. done (answer z.1 o)))) (λ z. non_null v (call (invoke n v z.0) (λ o. done (answer z.1 o)))) (exps_both es h.2 a b i)
            (λ vs x y j. both_null Val v (call (invoke n v vs) (λ o. done (answer x o))) (call (invoke n v vs) (λ o. done (answer y o))) (answered (invoke n v vs) x y j)))
        exp_both (core.create p c k es) h l m s = both_ask (is_new R c) (λ o. placed p (create o)) (λ o. next (exps R me es l) (λ z. call (construct k o z.0) (λ r. done (constructed o z.1 r)))) (λ o. next (exps R me es m) (λ z. call (construct k o z.0) (λ r. done (constructed o z.1 r))))
            (λ o. then_args Val (exps R me es l) (exps R me es m) (λ z. call (construct k o z.0) (λ r. done (constructed o z.1 r))) (λ z. call (construct k o z.0) (λ r. done (constructed o z.1 r))) (exps_both es h.1 l m s) (λ vs a b i. made (construct k o vs) o a b i))
        exp_both (core.super_constructor p e k es) h l m s = then_value Val (exp R me e l) (exp R me e m) (λ r. next (exps R me es r.1) (λ z. non_null r.0 (call (construct k r.0 z.0) (λ o. done (constructed r.0 z.1 o))))) (λ r. next (exps R me es r.1) (λ z. non_null r.0 (call (construct k r.0 z.0) (λ o. done (constructed r.0 z.1 o))))) (exp_both e h.1 l m s)
            (λ v a b i. then_args Val (exps R me es a) (exps R me es b) (λ z. non_null v (call (construct k v z.0) (λ o. done (constructed v z.1 o)))) (λ z. non_null v (call (construct k v z.0) (λ o. done (constructed v z.1 o)))) (exps_both es h.2 a b i)
            (λ vs x y j. both_null Val v (call (construct k v vs) (λ o. done (constructed v x o))) (call (construct k v vs) (λ o. done (constructed v y o))) (made (construct k v vs) v x y j)))

        target_both : (t : Target K) → TargetTouches (NotOf N) Any (Unit {0}) (Unit {0}) t → (l m : List (Value K)) → SameBut N l m → Both (Aim t) (target R me t l) (target R me t m)
        target_both (core.local p n) h l m s = both_done (value (in_local n, l)) (value (in_local n, m)) (refl, s, λ r. r)
        target_both (core.static_field p f) h l m s = both_done (value (in_static p f, l)) (value (in_static p f, m)) (refl, s, λ r. tt)
        target_both (core.field_of p e f) h l m s = then_value (Aim (core.field_of p e f)) (exp R me e l) (exp R me e m) (λ r. done (value (in_object p r.0 f, r.1))) (λ r. done (value (in_object p r.0 f, r.1))) (exp_both e h l m s)
            (λ v a b i. both_done (value (in_object p v f, a)) (value (in_object p v f, b)) (refl, i, λ r. tt))

        exps_both : (es : Exps K) → AllTouch (NotOf N) Any (Unit {0}) (Unit {0}) es → (l m : List (Value K)) → SameBut N l m → Both Args (exps R me es l) (exps R me es m)
        exps_both core.Exps.end h l m s = both_done (value ([], l)) (value ([], m)) (refl, s)
        exps_both (core.Exps.more e es) h l m s = then_value Args (exp R me e l) (exp R me e m) (λ r. next (exps R me es r.1) (λ z. done (value (r.0 ∷ z.0, z.1)))) (λ r. next (exps R me es r.1) (λ z. done (value (r.0 ∷ z.0, z.1)))) (exp_both e h.0 l m s)
            (λ v a b i. then_args Args (exps R me es a) (exps R me es b) (λ z. done (value (v ∷ z.0, z.1))) (λ z. done (value (v ∷ z.0, z.1))) (exps_both es h.1 a b i) (λ vs x y j. both_done (value (v ∷ vs, x)) (value (v ∷ vs, y)) (refl, j)))

      mutual
        pub stmt_both : (a : Stmt K) → StmtAlone a → (l m : List (Value K)) → SameBut N l m → Both Flo (stmt R me a l) (stmt R me a m)
        stmt_both (core.declare p n e) h l m s = then_value Flo (exp R me e l) (exp R me e m) (λ r. done (value (goes_on (with_local r.1 n r.0)))) (λ r. done (value (goes_on (with_local r.1 n r.0)))) (exp_both e h.0 l m s)
            (λ v x y i. both_done (value (goes_on (with_local x n v))) (value (goes_on (with_local y n v))) (written_same x y n v i))
        stmt_both (core.eval p e) h l m s = then_value Flo (exp R me e l) (exp R me e m) (λ r. done (value (goes_on r.1))) (λ r. done (value (goes_on r.1))) (exp_both e h l m s) (λ v x y i. both_done (value (goes_on x)) (value (goes_on y)) i)
        stmt_both (core.branch p c a b) h l m s = then_value Flo (exp R me c l) (exp R me c m) (λ r. on_truth r.0 (stmt R me a r.1) (stmt R me b r.1)) (λ r. on_truth r.0 (stmt R me a r.1) (stmt R me b r.1)) (exp_both c h.0 l m s)
            (λ v x y i. both_truth Flo v (stmt R me a x) (stmt R me a y) (stmt R me b x) (stmt R me b y) (stmt_both a h.1 x y i) (stmt_both b h.2 x y i))
        stmt_both (core.loop p c b) h l m s = both_call (turn me c b l) (turn me c b m) (λ o. done o) (λ o. done o) (turned me c b l m h.1 h.2 s) (λ r t g. both_done r t g)
        stmt_both (core.return p e) h l m s = then_value Flo (exp R me e l) (exp R me e m) (λ r. done (value (returns (Some r.0)))) (λ r. done (value (returns (Some r.0)))) (exp_both e h l m s) (λ v x y i. both_done (value (returns (Some v))) (value (returns (Some v))) refl)
        stmt_both (core.return_nothing p) h l m s = both_done (value (returns None)) (value (returns None)) refl
        stmt_both (core.block p ns b) h l m s = stmts_both b h.1 (unset ns l) (unset ns m) (unset_same ns l m s)
        stmt_both (core.sync p q e b) h l m s = then_value Flo (exp R me e l) (exp R me e m) (λ r. non_null r.0 (act (placed p (enter r.0)) (leaving q r.0 (stmts R me b r.1)))) (λ r. non_null r.0 (act (placed p (enter r.0)) (leaving q r.0 (stmts R me b r.1)))) (exp_both e h.0 l m s)
            (λ v x y i. both_null Flo v (act (placed p (enter v)) (leaving q v (stmts R me b x))) (act (placed p (enter v)) (leaving q v (stmts R me b y)))
            (both_act (placed p (enter v)) (leaving q v (stmts R me b x)) (leaving q v (stmts R me b y))
            (beside_and Go Back (OutRel Flo) (OutRel Flo) (stmts R me b x) (stmts R me b y) (λ o. act (placed q (exit v)) (done o)) (λ o. act (placed q (exit v)) (done o)) (stmts_both b h.1 x y i)
            (λ r t g. both_act (placed q (exit v)) (done r) (done t) (both_done r t g)))))
        stmt_both (core.empty p) h l m s = both_done (value (goes_on l)) (value (goes_on m)) s

        pub stmts_both : (b : Stmts K) → StmtsTouch (NotOf N) Any (Unit {0}) (Unit {0}) b → (l m : List (Value K)) → SameBut N l m → Both Flo (stmts R me b l) (stmts R me b m)
        stmts_both core.Stmts.end h l m s = both_done (value (goes_on l)) (value (goes_on m)) s
        stmts_both (core.Stmts.more a b) h l m s = both_next Flo Flo (stmt R me a l) (stmt R me a m) (λ f. on_flow f (λ k. stmts R me b k)) (λ f. on_flow f (λ k. stmts R me b k)) (stmt_both a h.0 l m s)
            (λ f g e. both_flow f g (λ k. stmts R me b k) (λ k. stmts R me b k) e (λ x y i. stmts_both b h.1 x y i))

  -- ---- what stands behind each call

  abbrev following : Value K → Exp K → Stmt K → Flow K → Step K (Flow K)
  following me c b f = on_flow f (λ k. call (turn me c b k) (λ o. done o))

  turns_go : (P : Program K) (me : Value K) (c : Exp K) (b : Stmt K) (l m : List (Value K)) → Alone c → StmtAlone b → SameBut N l m → Both Flo (table P (turn me c b l)) (table P (turn me c b m))
  turns_go P me c b l m h g s = then_value Flo (exp P.rows me c l) (exp P.rows me c m) (λ r. on_truth r.0 (next (stmt P.rows me b r.1) (λ f. following me c b f)) (done (value (goes_on r.1)))) (λ r. on_truth r.0 (next (stmt P.rows me b r.1) (λ f. following me c b f)) (done (value (goes_on r.1))))
      (exp_both P.rows me c h l m s)
      (λ v x y i. both_truth Flo v (next (stmt P.rows me b x) (λ f. following me c b f)) (next (stmt P.rows me b y) (λ f. following me c b f)) (done (value (goes_on x))) (done (value (goes_on y)))
      (both_next Flo Flo (stmt P.rows me b x) (stmt P.rows me b y) (λ f. following me c b f) (λ f. following me c b f) (stmt_both P.rows me b g x y i)
      (λ f t e. both_flow f t (λ k. call (turn me c b k) (λ o. done o)) (λ k. call (turn me c b k) (λ o. done o)) e
      (λ j k w. both_call (turn me c b j) (turn me c b k) (λ o. done o) (λ o. done o) (turned me c b j k h g w) (λ r u z. both_done r u z))))
      (both_done (value (goes_on x)) (value (goes_on y)) i))

  pub tables_go : (P : Program K) (c d : Call K) (h : Go c d) → Beside Go Back (Back c d h) (table P c) (table P d)
  tables_go P _ _ (itself c) = beside_itself Go Back (λ d. itself d) (λ d r t b. b) (table P c)
  tables_go P _ _ (turned me c b l m h g s) = turns_go P me c b l m h g s

  pub same_opening : (c d : Call K) → Go c d → is_activation d ≡ is_activation c
  same_opening _ _ (itself c) = refl
  same_opening _ _ (turned me c b l m h g s) = refl
