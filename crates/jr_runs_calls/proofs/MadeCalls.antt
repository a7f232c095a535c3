-- A call of a method that the new program alone has is unfolded where it stands: its plan is that of the method's body, which
-- stands in the method as the piece that it is made of.
use Rattle.std.proofs.Common.{◌≡◌, ℕ, zero, suc, List, [], ◌∷◌, length, map, Option, Some, unwrap_or, option_map, refl, sym, ap, ◌∙◌, subst, inr}
use Rattle.jr_plans.specs.Plan.{Plan, done, act, ask, call, and_then}
use Rattle.jr_plans.specs.Reach.{World}
use Rattle.jr_plans.specs.Follow.{Both, Tables, Unfolds, Folds}
use Rattle.jr_plans.specs.Safe.{Safe, FoldsAt, UnfoldsAt}
use Rattle.jr_plans.proofs.Safety.{safe_and}
use Rattle.jr_plans.proofs.Finishing.{and_then_assoc}
use Rattle.jr_plans.proofs.MadeCalls.{made}
use Rattle.jr_runs.specs.Keys.{Keys, At}
use Rattle.jr_runs.specs.Values.{Value, null}
use Rattle.jr_runs.specs.Rows.{Rows}
use Rattle.jr_runs.specs.Fitting.{class_of}
use Rattle.jr_runs.specs.Arithmetic.{Out, value, thrown}
use Rattle.jr_runs.specs.Core as core
use Rattle.jr_runs.specs.Core.{Stmts, Program}
use Rattle.jr_runs.specs.Evaluation.{Flow, goes_on, returns, Call, invoke, Step, on_value, next, local_at, first_locals, answer, exp, exps, on_class, on_flow, stmt, stmts, run_method, table}
use Rattle.jr_runs.specs.KeyMaps.{Undoes, same_keys, value_image}
use Rattle.jr_runs.specs.Standing.{In, SelfIn, Standing, Stands, Frame, SelfIs, Holding, Shifted}
use Rattle.jr_runs.specs.Sets.{NumberSet}
use Rattle.jr_runs.specs.Pairs.{OutRel, SomeReturns}
use Rattle.jr_runs.proofs.ImageValues.{class_of_image}
use Rattle.jr_runs.proofs.Instances.{instance_of, class_found}
use Rattle.jr_runs.proofs.Guarded.{Guarded, Matched, NewSafe}
use Rattle.jr_runs.proofs.GuardedExps.{this_comes}
use Rattle.jr_runs.proofs.GuardedPrograms.{Unfolded}
use Rattle.jr_runs_calls.specs.Extracts.{then}
use Rattle.jr_runs_calls.specs.MadeMethods.{Receiver, no_receiver, on_this, self_in, made_call, IsCalled, reads, IsAt, MadeMethod, made_standing, made_exp}

-- ---- plans of lists that are put together, of calls of locals

pub next_assoc : {K : Keys} {A B C : Type 0} (p : Step K A) (h : A → Step K B) (k : B → Step K C) → next (next p h) k ≡ next p (λ a. next (h a) k)
next_assoc {K = K} {A = A} {C = C} p h k = and_then_assoc p (on_value h) (on_value k) ∙ (λ i. and_then p (λ o. same_out o i))
  where
    same_out : (o : Out A) → and_then (on_value h o) (on_value k) ≡ on_value {K = K} {B = C} (λ a. next (h a) k) o
    same_out (value a) = refl
    same_out (thrown f) = refl

pub next_done : {K : Keys} {A : Type 0} (p : Step K A) → next p (λ a. done (value a)) ≡ p
next_done {K = K} {A = A} p = (λ i. and_then p (λ o. same_out o i)) ∙ and_then_done p
  where
    same_out : (o : Out A) → on_value {K = K} {B = A} (λ a. done (value a)) o ≡ done o
    same_out (value a) = refl
    same_out (thrown f) = refl

    and_then_done : {V E S R B : Type 0} (p : Plan V E S R B) → and_then p (λ b. done b) ≡ p
    and_then_done (done b) = refl
    and_then_done (act x p) = ap (λ q. act x q) (and_then_done p)
    and_then_done (ask f s p) = λ i. ask f s (λ v. and_then_done (p v) i)
    and_then_done (call c p) = λ i. call c (λ r. and_then_done (p r) i)

module _ {K : Keys} (R : Rows K) (me : Value K) where
  pub then_is : (b c : Stmts K) (l : List (Value K)) → stmts R me (then b c) l ≡ next (stmts R me b l) (λ x. on_flow x (λ m. stmts R me c m))
  then_is core.Stmts.end c l = refl
  then_is (core.Stmts.more a b) c l = (λ i. next (stmt R me a l) (λ x. behind (λ m. then_is b c m) x i)) ∙ sym (next_assoc (stmt R me a l) (λ x. on_flow x (λ m. stmts R me b m)) (λ x. on_flow x (λ m. stmts R me c m)))
    where
      behind : ((m : List (Value K)) → stmts R me (then b c) m ≡ next (stmts R me b m) (λ y. on_flow y (λ n. stmts R me c n))) → (x : Flow K) → on_flow x (λ m. stmts R me (then b c) m) ≡ next (on_flow x (λ m. stmts R me b m)) (λ y. on_flow y (λ m. stmts R me c m))
      behind known (goes_on m) = known m
      behind known (returns v) = refl

  reads_are : (p : At K) (at : ℕ → ℕ) (os : List ℕ) (l : List (Value K)) → exps R me (reads p at os) l ≡ done (value (map (λ o. local_at l (at o)) os, l))
  reads_are p at [] l = refl
  reads_are p at (o ∷ os) l = ap (λ (q : Step K (List (Value K) × List (Value K))). next q (λ s. done (value (local_at l (at o) ∷ s.0, s.1)))) (reads_are p at os l)

pub returns_then : {K : Keys} (b c : Stmts K) → SomeReturns c → SomeReturns (then b c)
returns_then core.Stmts.end c h = h
returns_then (core.Stmts.more a b) c h = inr (returns_then b c h)

module _ {K : Keys} (v : ℕ → Value K) where
  all_first : (os : List ℕ) → first_locals (length os) (map v os) ≡ map v os
  all_first [] = refl
  all_first (o ∷ os) = ap (λ l. v o ∷ l) (all_first os)

  value_at : (os : List ℕ) (k o : ℕ) → IsAt os k o → local_at (map v os) k ≡ v o
  value_at [] k o h = absurd h
  value_at (x ∷ xs) zero o h = ap v h
  value_at (x ∷ xs) (suc k) o h = value_at xs k o h

-- ---- calls that one side alone makes, unfolded where they stand

pub same_undoes : {K : Keys} → Undoes (same_keys {K = K}) same_keys
same_undoes = record { class = λ k. refl; field = λ k. refl; method = λ k. refl; constructor = λ k. refl }

fold_at : {V E S R : Type 0} (table : S → Plan V E S R R) (X : World E S R) → Folds table X → (c : S) → FoldsAt table X c
fold_at table X f c = record { ends = λ t r h. f.ends c t r h; begins = λ t h. f.begins c t h }

unfold_at : {V E S R : Type 0} (table : S → Plan V E S R R) (X : World E S R) → Unfolds table X → (c : S) → UnfoldsAt table X c
unfold_at table X f c = record { ends = λ t r h. f.ends c t r h; begins = λ t h. f.begins c t h }

-- where nothing is known of any call, both tables may be used for all
pub any_unfolded : {K : Keys} (P Q : Program K) (g : Guarded same_keys P.rows Q.rows)
    → ((c : Call K) → Safe g.old_pre g.old_good (g.old_good c) (table P c)) → ((c : Call K) → Safe g.new_pre g.new_good (g.new_good c) (table Q c)) → Tables (table P) (table Q) g.sides → Unfolded P Q g
any_unfolded P Q g safe safe' t = record {
  tables = record {
    old_unfolds = λ c h. unfold_at (table P) g.sides.old_given t.old_unfolds c;
    new_folds = λ c h. fold_at (table Q) g.sides.new_found t.new_folds c;
    new_unfolds = λ c h. unfold_at (table Q) g.sides.new_given t.new_unfolds c;
    old_folds = λ c h. fold_at (table P) g.sides.old_found t.old_folds c;
  };
  old_safe = λ c h. safe c;
  new_safe = λ c h. safe' c;
}

module _ {K : Keys} (P Q : Program K) (g : Guarded same_keys P.rows Q.rows) (none_more : g.more ≡ 0) (known : Unfolded P Q g) where
  -- a call that the new program makes
  pub made_here : {A B : Type 0} (F : A → B → Type 0) (p : Step K A) (d : Call K) → g.new_pre d → (k : Out (Flow K) → Step K B) → Matched g F p (and_then (table Q d) k) → Matched g F p (call d k)
  made_here F p d pre k f = subst (λ n. Both n g.relation g.sides (OutRel F) p (call d k)) (sym none_more)
      (made g.relation (table P) (table Q) g.sides (OutRel F) p d (known.tables.new_folds d pre) (known.tables.new_unfolds d pre) k (subst (λ n. Both n g.relation g.sides (OutRel F) p (and_then (table Q d) k)) none_more f))

  module _ (s : Standing K) (stands : Stands s) (frame : Frame K) (me me' : Value K) (im : Holding P.rows same_keys s.code frame me me') (A : NumberSet) (x : MadeMethod Q s A) (l l' : List (Value K)) (h : Shifted same_keys s frame A l l') where
    abbrev handed_value : ℕ → Value K
    handed_value o = local_at l' (s.code.at o)

    abbrev pub handed : List (Value K)
    handed = map handed_value x.outs

    -- on what the method runs
    abbrev pub receiver_of : Receiver K → Value K
    receiver_of no_receiver = null
    receiver_of (on_this e) = value_image same_keys me

    abbrev pub made_me : Value K
    made_me = receiver_of x.receiver

    abbrev pub called : Call K
    called = invoke x.method made_me handed

    abbrev pub inner : Standing K
    inner = made_standing x

    abbrev pub inner_frame : Frame K
    inner_frame = record { here = l; there = [] }

    self_inside : (v : Receiver K) → SelfIn (self_in v) []
    self_inside no_receiver = tt
    self_inside (on_this e) = tt

    pub inner_stands : Stands inner
    inner_stands = record { injective = x.injective; apart = λ i b e. e; self = self_inside x.receiver; held = tt; cast = tt }

    -- the new method's first locals agree with those that are handed over
    pub inner_agree : Shifted same_keys inner inner_frame x.begins l handed
    inner_agree = record {
      moved = λ i b a.
          let o : In i x.outs = x.begins_with i a in
          let t = x.handed i a in
          value_at handed_value x.outs (x.at i) i (x.are_params i o) ∙ h.moved i t.0 t.1;
      others = λ j e. absurd e;
      known = λ j e. refl;
    }

    self_is : (v : Receiver K) → SelfIs same_keys (self_in v) inner_frame me (receiver_of v)
    self_is no_receiver = tt
    self_is (on_this e) = refl

    pub inner_holding : Holding P.rows same_keys inner.code inner_frame me made_me
    inner_holding = record { self = self_is x.receiver; classes = im.classes; holds = tt; casts = tt }

    abbrev do_call : Value K → List (Value K) × List (Value K) → Step K (Value K × List (Value K))
    do_call v z = call (invoke x.method v z.0) (λ o. done (answer z.1 o))

    abbrev dispatched : Value K → List (Value K) × List (Value K) → Option K.class → Step K (Value K × List (Value K))
    dispatched v z o = on_class o (λ c. call (invoke (unwrap_or (Q.rows.dispatch c x.method) x.method) v z.0) (λ a. done (answer z.1 a)))

    call_is : (v : Receiver K) → IsCalled Q s x.method v → exp Q.rows me' (made_call v x.call_at x.method (reads x.read_at s.code.at x.outs)) l' ≡ do_call (receiver_of v) (handed, l')
    call_is no_receiver t = ap (λ (p : Step K (List (Value K) × List (Value K))). next p (do_call null)) (reads_are Q.rows me' x.read_at s.code.at x.outs l')
    call_is (on_this e) t =
        let v : Value K = value_image same_keys me in
        let c = class_found P.rows (class_of P.rows me) t.1.0 (instance_of P.rows me s.code.classes im.classes t.1.0 t.1.1) in
        let of : class_of Q.rows v ≡ Some c.0 = class_of_image same_keys P.rows Q.rows g.rows me ∙ ap (option_map (λ k. k)) c.1 in
        ap (λ (p : Step K (Value K × List (Value K))). next p (λ r. next (exps Q.rows me' (reads x.read_at s.code.at x.outs) r.1) (λ z. dispatched r.0 z (class_of Q.rows r.0)))) (this_comes g s stands frame me me' im A e t.0 l l' h)
        ∙ ap (λ (p : Step K (List (Value K) × List (Value K))). next p (λ z. dispatched v z (class_of Q.rows v))) (reads_are Q.rows me' x.read_at s.code.at x.outs l')
        ∙ ap (dispatched v (handed, l')) of
        ∙ ap (λ o. call (invoke (unwrap_or o x.method) v handed) (λ a. done (answer l' a))) (t.2 c.0)

    -- the call that stands in the piece's place
    pub made_is : exp Q.rows me' (made_exp x) l' ≡ call called (λ o. done (answer l' o))
    made_is = call_is x.receiver x.is_called

    pub called_is : table Q called ≡ stmts Q.rows made_me x.code.body handed
    called_is = ap (λ k. run_method Q.rows made_me k handed) x.is_written ∙ ap (λ n. stmts Q.rows made_me x.code.body (first_locals n handed)) x.params ∙ ap (λ k. stmts Q.rows made_me x.code.body k) (all_first handed_value x.outs)

    -- what follows the call follows the method's body, which makes calls as they should be
    pub body_safe : {B : Type 0} (k : Out (Flow K) → Step K B) → NewSafe g (call called k) → NewSafe g (and_then (stmts Q.rows made_me x.code.body handed) k)
    body_safe {B = B} k o = subst (λ p. NewSafe g (and_then p k)) called_is (safe_and g.new_pre g.new_good (g.new_good called) (λ (b : Out B). Unit {0}) (table Q called) k (known.new_safe called o.0) o.1)

    pub made_body : {E B : Type 0} (F : E → B → Type 0) (p : Step K E) (k : Out (Flow K) → Step K B) → NewSafe g (call called k) → Matched g F p (and_then (stmts Q.rows made_me x.code.body handed) k) → Matched g F p (call called k)
    made_body F p k o f = made_here F p called o.0 k (subst (λ q. Matched g F p (and_then q k)) (sym called_is) f)
