-- Well-typed statements make well-made calls, keep locals of their types, and return what the member's result is.
use Rattle.std.proofs.Common.{◌≡◌, ◌⊎◌, inl, inr, Bool, true, false, List, ◌∷◌, Option, Some, None, ℕ, refl, sym, subst}
use Rattle.jr_plans.specs.Plan.{done, act, call}
use Rattle.jr_plans.proofs.Safety.{safe_and}
use Rattle.jr_runs.specs.Keys.{Keys, At}
use Rattle.jr_runs.specs.Values.{Value, int, truth, null, text, class_object, object, Ty, boolean_type, reference}
use Rattle.jr_runs.specs.Actions.{enter, exit}
use Rattle.jr_runs.specs.Rows.{Rows}
use Rattle.jr_runs.specs.Arithmetic.{value}
use Rattle.jr_runs.specs.Core as core
use Rattle.jr_runs.specs.Core.{Exp, Stmt, Stmts}
use Rattle.jr_runs.specs.Evaluation.{Flow, goes_on, returns, turn, Step, next, with_local, unset, non_null, on_truth, on_flow, leaving, exp, stmt, stmts}
use Rattle.jr_runs.specs.Starting.{IsReceiver}
use Rattle.jr_runs.specs.Typing.{HasType, is_always, MayComplete, AllMayComplete, StmtTyped, StmtsTyped, SoundRows}
use Rattle.jr_runs.specs.TypedRuns.{LocalsFit, GivenFits, FlowFits, OutHas, TurnTyped, WellMade, WellAnswered}
use Rattle.jr_runs.proofs.TypedLocals.{locals_declared, locals_unset, locals_less}
use Rattle.jr_runs.proofs.TypedValues.{no}
use Rattle.jr_runs.proofs.TypedSteps.{Well, Typed, well_next, well_weaker, well_truth, well_non_null}
use Rattle.jr_runs.proofs.TypedExps.{exp_well}

module _ {K : Keys} (R : Rows K) where
  flow_weaker : (G D : List (ℕ × Ty K)) (T : Option (Ty K)) (M N : Type 0) → ((l : List (Value K)) → LocalsFit R D l → LocalsFit R G l) → (M → N) → (f : Flow K) → FlowFits R D T M f → FlowFits R G T N f
  flow_weaker G D T M N i j (goes_on l) h = (i l h.0, j h.1)
  flow_weaker G D T M N i j (returns v) h = h

  -- behind a statement the locals that were set before are still so
  pub behind_fits : (C : Option K.class) (T : Option (Ty K)) (a : Stmt K) (G D : List (ℕ × Ty K)) → StmtTyped R G C T a D → (l : List (Value K)) → LocalsFit R D l → LocalsFit R G l
  behind_fits C T (core.declare p n e) G D t l h = locals_less R G l n t.0 t.2 (subst (λ E. LocalsFit R E l) t.3 h)
  behind_fits C T (core.eval p e) G D t l h = subst (λ E. LocalsFit R E l) t.1 h
  behind_fits C T (core.branch p c a b) G D t l h = subst (λ E. LocalsFit R E l) t.5 h
  behind_fits C T (core.loop p c b) G D t l h = subst (λ E. LocalsFit R E l) t.3 h
  behind_fits C T (core.return p e) G D t l h = subst (λ E. LocalsFit R E l) t.3 h
  behind_fits C T (core.return_nothing p) G D t l h = subst (λ E. LocalsFit R E l) t.1 h
  behind_fits C T (core.block p ns b) G D t l h = subst (λ E. LocalsFit R E l) t.2 h
  behind_fits C T (core.sync p q e b) G D t l h = subst (λ E. LocalsFit R E l) t.3 h
  behind_fits C T (core.empty p) G D t l h = subst (λ E. LocalsFit R E l) t h

  -- the condition that is always true is the literal
  always_is : (c : Exp K) → is_always c ≡ true → (p : At K) × (c ≡ core.literal p (truth true))
  always_is (core.literal p (truth true)) e = (p, refl)
  always_is (core.literal p (truth false)) e = no e
  always_is (core.literal p null) e = no e
  always_is (core.literal p (int n)) e = no e
  always_is (core.literal p (text t)) e = no e
  always_is (core.literal p (class_object d)) e = no e
  always_is (core.literal p (object n d)) e = no e
  always_is (core.this p) e = no e
  always_is (core.read p t) e = no e
  always_is (core.assign p t x) e = no e
  always_is (core.compound p op t x) e = no e
  always_is (core.bump p op t) e = no e
  always_is (core.signed p op x) e = no e
  always_is (core.binary p op a b) e = no e
  always_is (core.both p a b) e = no e
  always_is (core.either p a b) e = no e
  always_is (core.cast p d x) e = no e
  always_is (core.static_call p m es) e = no e
  always_is (core.instance_call p x m es) e = no e
  always_is (core.super_call p x m es) e = no e
  always_is (core.create p d k es) e = no e
  always_is (core.super_constructor p x k es) e = no e

  module _ (sound : SoundRows R) (C : Option K.class) (me : Value K) (receiver : IsReceiver R C me) (T : Option (Ty K)) where
    abbrev Flows : List (ℕ × Ty K) → Type 0 → Flow K → Type 0
    Flows G M f = FlowFits R G T M f

    weaker : (G D : List (ℕ × Ty K)) (M N : Type 0) → ((l : List (Value K)) → LocalsFit R D l → LocalsFit R G l) → (M → N) → (p : Step K (Flow K)) → Well R (Flows D M) p → Well R (Flows G N) p
    weaker G D M N i j p h = well_weaker R (Flows D M) (Flows G N) (λ f q. flow_weaker G D T M N i j f q) p h

    -- what comes behind, from the locals on; to: the locals in front of both
    on_flow_well : (G D : List (ℕ × Ty K)) (M N : Type 0) (f : Flow K) → Flows D M f → (k : List (Value K) → Step K (Flow K)) → ((l : List (Value K)) → LocalsFit R D l → Well R (Flows G N) (k l)) → Well R (Flows G (M × N)) (on_flow f k)
    on_flow_well G D M N (goes_on l) h k g = well_weaker R (Flows G N) (Flows G (M × N)) (λ f q. flow_weaker G G T N (M × N) (λ l i. i) (λ n. (h.1, n)) f q) (k l) (g l h.0)
    on_flow_well G D M N (returns v) h k g = h

    leaving_well : (G : List (ℕ × Ty K)) (M : Type 0) (p : At K) (o : Value K) (x : Step K (Flow K)) → Well R (Flows G M) x → Well R (Flows G M) (leaving p o x)
    leaving_well G M p o x h = safe_and (WellMade R) (WellAnswered R) (OutHas (Flows G M)) (OutHas (Flows G M)) x (λ a. act record { at = p; action = exit o } (done a)) h (λ a q. q)

    turn_well : (G D : List (ℕ × Ty K)) (c : Exp K) (b : Stmt K) → HasType R G C c (Some boolean_type) → StmtTyped R G C T b D → (l : List (Value K)) → LocalsFit R G l → Well R (Flows G (is_always c ≡ false)) (call (turn me c b l) (λ o. done o))
    turn_well G D c b t u l h =
        let typed : TurnTyped R me c b l = record { context = G; class = C; result = T; behind = D; receiver = receiver; condition = t; body = u; locals = h } in
        (typed, λ o q. q typed)

    mutual
      pub stmt_well : (a : Stmt K) (G D : List (ℕ × Ty K)) → StmtTyped R G C T a D → (l : List (Value K)) → LocalsFit R G l → Well R (Flows D (MayComplete a)) (stmt R me a l)
      stmt_well (core.declare p n e) G D t l h = subst (λ E. Well R (Flows E (Unit {0})) (stmt R me (core.declare p n e) l)) (sym t.3)
          (well_next R (Typed R G (Some t.0)) (Flows ((n, t.0) ∷ G) (Unit {0})) (exp R me e l) (λ r. done (value (goes_on (with_local r.1 n r.0)))) (exp_well R sound G C me receiver e (Some t.0) t.1 l h)
          (λ r k. (locals_declared R G r.1 n t.0 r.0 t.2 k.0 k.1, tt)))
      stmt_well (core.eval p e) G D t l h = subst (λ E. Well R (Flows E (Unit {0})) (stmt R me (core.eval p e) l)) (sym t.1)
          (well_next R (Typed R G None) (Flows G (Unit {0})) (exp R me e l) (λ r. done (value (goes_on r.1))) (exp_well R sound G C me receiver e None t.0 l h) (λ r k. (k.1, tt)))
      stmt_well (core.branch p c a b) G D t l h = subst (λ E. Well R (Flows E (MayComplete a ⊎ MayComplete b)) (stmt R me (core.branch p c a b) l)) (sym t.5)
          (well_next R (Typed R G (Some boolean_type)) (Flows G (MayComplete a ⊎ MayComplete b)) (exp R me c l) (λ r. on_truth r.0 (stmt R me a r.1) (stmt R me b r.1)) (exp_well R sound G C me receiver c (Some boolean_type) t.2 l h)
          (λ r k. well_truth R (Flows G (MayComplete a ⊎ MayComplete b)) (Unit {0}) r.0 (inl tt) (stmt R me a r.1) (stmt R me b r.1)
          (weaker G t.0 (MayComplete a) (MayComplete a ⊎ MayComplete b) (behind_fits C T a G t.0 t.3) inl (stmt R me a r.1) (stmt_well a G t.0 t.3 r.1 k.1))
          (λ x. weaker G t.1 (MayComplete b) (MayComplete a ⊎ MayComplete b) (behind_fits C T b G t.1 t.4) inr (stmt R me b r.1) (stmt_well b G t.1 t.4 r.1 k.1))))
      stmt_well (core.loop p c b) G D t l h = subst (λ E. Well R (Flows E (is_always c ≡ false)) (stmt R me (core.loop p c b) l)) (sym t.3) (turn_well G t.0 c b t.1 t.2 l h)
      stmt_well (core.return p e) G D t l h = well_next R (Typed R G (Some t.0)) (Flows D ⊥) (exp R me e l) (λ r. done (value (returns (Some r.0)))) (exp_well R sound G C me receiver e (Some t.0) t.2 l h)
          (λ r k. subst (λ U. GivenFits R U (Some r.0)) (sym t.1) k.0)
      stmt_well (core.return_nothing p) G D t l h = subst (λ U. GivenFits {K = K} R U None) (sym t.0) tt
      stmt_well (core.block p ns b) G D t l h = subst (λ E. Well R (Flows E (AllMayComplete b)) (stmt R me (core.block p ns b) l)) (sym t.2) (stmts_well b G t.1 (unset ns l) (locals_unset R G ns l t.0 h))
      stmt_well (core.sync p q e b) G D t l h = subst (λ E. Well R (Flows E (AllMayComplete b)) (stmt R me (core.sync p q e b) l)) (sym t.3)
          (well_next R (Typed R G (Some (reference t.0))) (Flows G (AllMayComplete b)) (exp R me e l) (λ r. non_null r.0 (act record { at = p; action = enter r.0 } (leaving q r.0 (stmts R me b r.1)))) (exp_well R sound G C me receiver e (Some (reference t.0)) t.1 l h)
          (λ r k. well_non_null R (Flows G (AllMayComplete b)) r.0 (act record { at = p; action = enter r.0 } (leaving q r.0 (stmts R me b r.1))) (leaving_well G (AllMayComplete b) q r.0 (stmts R me b r.1) (stmts_well b G t.2 r.1 k.1))))
      stmt_well (core.empty p) G D t l h = (subst (λ E. LocalsFit R E l) (sym t) h, tt)

      pub stmts_well : (b : Stmts K) (G : List (ℕ × Ty K)) → StmtsTyped R G C T b → (l : List (Value K)) → LocalsFit R G l → Well R (Flows G (AllMayComplete b)) (stmts R me b l)
      stmts_well core.Stmts.end G t l h = (h, tt)
      stmts_well (core.Stmts.more a b) G t l h = well_next R (Flows t.0 (MayComplete a)) (Flows G (MayComplete a × AllMayComplete b)) (stmt R me a l) (λ f. on_flow f (λ m. stmts R me b m)) (stmt_well a G t.0 t.1 l h)
          (λ f q. on_flow_well G t.0 (MayComplete a) (AllMayComplete b) f q (λ m. stmts R me b m) (λ m i. weaker G t.0 (AllMayComplete b) (AllMayComplete b) (behind_fits C T a G t.0 t.1) (λ x. x) (stmts R me b m) (stmts_well b t.0 t.2 m i)))

    -- a turn: where the condition is the literal `true`, the loop doesn't end by it
    pub whole_turn_well : (G D : List (ℕ × Ty K)) (c : Exp K) (b : Stmt K) → HasType R G C c (Some boolean_type) → StmtTyped R G C T b D → (l : List (Value K)) → LocalsFit R G l
        → Well R (Flows G (is_always c ≡ false)) (next (exp R me c l) (λ r. on_truth r.0 (next (stmt R me b r.1) (λ f. on_flow f (λ m. call (turn me c b m) (λ o. done o)))) (done (value (goes_on r.1)))))
    whole_turn_well G D c b t u l h = well_next R Condition (Flows G X) (exp R me c l) (λ r. on_truth r.0 (again r.1) (done (value (goes_on r.1)))) (condition (is_always c) refl)
        (λ r k. well_truth R (Flows G X) X r.0 k.1 (again r.1) (done (value (goes_on r.1)))
        (well_next R (Flows D (MayComplete b)) (Flows G X) (stmt R me b r.1) (λ f. on_flow f (λ m. call (turn me c b m) (λ o. done o))) (stmt_well b G D u r.1 k.0)
        (λ f q. weaker G G (MayComplete b × X) X (λ m i. i) (λ y. y.1) (on_flow f (λ m. call (turn me c b m) (λ o. done o)))
        (on_flow_well G D (MayComplete b) X f q (λ m. call (turn me c b m) (λ o. done o)) (λ m i. turn_well G D c b t u m (behind_fits C T b G D u m i)))))
        (λ x. (k.0, x)))
      where
        X : Type 0
        X = is_always c ≡ false

        again : List (Value K) → Step K (Flow K)
        again m = next (stmt R me b m) (λ f. on_flow f (λ m'. call (turn me c b m') (λ o. done o)))

        Condition : Value K × List (Value K) → Type 0
        Condition r = LocalsFit R G r.1 × (X ⊎ (r.0 ≡ truth true))

        condition : (v : Bool) → is_always c ≡ v → Well R Condition (exp R me c l)
        condition false e = well_weaker R (Typed R G (Some boolean_type)) Condition (λ r k. (k.1, inl e)) (exp R me c l) (exp_well R sound G C me receiver c (Some boolean_type) t l h)
        condition true e = let i = always_is c e in subst (λ x. Well R Condition (exp R me x l)) (sym i.1) (h, inr refl)
