-- The runs of a statement match those of its image, where calls are made as they should be on both sides (`Guarded`), but for
-- what Spot allows, which matches by itself.
use Rattle.std.proofs.Common.{◌⊎◌, inl, inr, ⊎_elim, ℕ, List, Some, None, ap}
use Rattle.jr_plans.specs.Plan.{done, act, call}
use Rattle.jr_plans.specs.Follow.{CallBoth}
use Rattle.jr_plans.proofs.BothWays.{both_done, both_act, both_call, both_and}
use Rattle.jr_runs.specs.Keys.{Keys, At}
use Rattle.jr_runs.specs.Values.{Value}
use Rattle.jr_runs.specs.Actions.{enter, exit}
use Rattle.jr_runs.specs.Rows.{Rows}
use Rattle.jr_runs.specs.Arithmetic.{Out, value, thrown}
use Rattle.jr_runs.specs.Core as core
use Rattle.jr_runs.specs.Core.{Exp, Stmt, Stmts}
use Rattle.jr_runs.specs.Evaluation.{Flow, goes_on, returns, turn, Step, next, with_local, unset, non_null, on_truth, on_flow, leaving, exp, stmt, stmts}
use Rattle.jr_runs.specs.KeyMaps.{KeyMap}
use Rattle.jr_runs.specs.Standing.{IsFree, Standing, Stands, Frame, Holding, Shifted}
use Rattle.jr_runs.specs.Sets.{NumberSet, with_one, with_all, Within}
use Rattle.jr_runs.specs.Images.{ExpImage, AllSpots, StmtImage, to_declare, to_eval, to_branch, to_loop, to_return, to_return_nothing, to_block, to_sync, to_empty, StmtsImage, to_no_more, to_list, to_spot}
use Rattle.jr_runs.specs.Pairs.{OutRel, ImageOf, ResultRel, FlowRel, Returns, SomeReturns, TurnImage}
use Rattle.jr_runs.proofs.Locals.{shifted_less, shifted_write}
use Rattle.jr_runs.proofs.Numbers.{shifted_unset}
use Rattle.jr_runs.proofs.Guarded.{Guarded, Matched, OldSafe, NewSafe, safe_first, match_value, match_action, match_weaker, match_next_safe, match_truth_safe, match_non_null_safe}
use Rattle.jr_runs.proofs.GuardedExps.{ExpsKnown, exp_with}

-- turns of loops that belong together are answered alike, if both are taken as they should be
abbrev pub TurnsKnown : {K : Keys} {keys : KeyMap K} {R R' : Rows K} (g : Guarded keys R R') → AllSpots K → Type 0
TurnsKnown {K = K} {keys = keys} {R = R} g Spot = (me : Value K) (c : Exp K) (b : Stmt K) (l : List (Value K)) (me' : Value K) (c' : Exp K) (b' : Stmt K) (l' : List (Value K)) (t : TurnImage keys R Spot me c b l me' c' b' l') → g.old_pre (turn me c b l) → g.new_pre (turn me' c' b' l')
    → CallBoth g.more g.relation g.sides (OutRel (FlowRel keys (Shifted keys t.at t.frame t.tested) (Returns b))) (turn me c b l) (turn me' c' b' l')

-- code that may return by more ways, and behind which less agrees
pub wider : {K : Keys} (keys : KeyMap K) (L L' : List (Value K) → List (Value K) → Type 0) (M N : Type 0) → ((l l' : List (Value K)) → L l l' → L' l l') → (M → N) → (o o' : Out (Flow K)) → OutRel (FlowRel keys L M) o o' → OutRel (FlowRel keys L' N) o o'
wider keys L L' M N j i (value (goes_on l)) (value (goes_on l')) h = j l l' h
wider keys L L' M N j i (value (returns v)) (value (returns v')) h = (h.0, i h.1)
wider keys L L' M N j i (value (goes_on l)) (value (returns v')) h = h
wider keys L L' M N j i (value (returns v)) (value (goes_on l')) h = h
wider keys L L' M N j i (value f) (thrown f') h = h
wider keys L L' M N j i (thrown f) (value f') h = h
wider keys L L' M N j i (thrown f) (thrown f') h = h

module _ {K : Keys} {keys : KeyMap K} {R R' : Rows K} (g : Guarded keys R R') where
  module _ (s : Standing K) (stands : Stands s) (frame : Frame K) (me me' : Value K) (im : Holding R keys s.code frame me me') where
    abbrev Shift : NumberSet → List (Value K) → List (Value K) → Type 0
    Shift A l l' = Shifted keys s frame A l l'

    abbrev pub FlowTo : NumberSet → Type 0 → Flow K → Flow K → Type 0
    FlowTo B M x x' = FlowRel keys (Shift B) M x x'

    -- two pieces of code match from locals on of which A agree, to where B do; M: may the old one return?
    abbrev pub Follow : NumberSet → Type 0 → NumberSet → (List (Value K) → Step K (Flow K)) → (List (Value K) → Step K (Flow K)) → Type 0
    Follow A M B p p' = (l l' : List (Value K)) → Shift A l l' → OldSafe g (p l) → NewSafe g (p' l') → Matched g (FlowTo B M) (p l) (p' l')

    -- the same of two expressions
    abbrev pub ExpFollow : NumberSet → NumberSet → Exp K → Exp K → Type 0
    ExpFollow A B e e' = (l l' : List (Value K)) → Shift A l l' → OldSafe g (exp R me e l) → NewSafe g (exp R' me' e' l') → Matched g (ResultRel keys s frame B) (exp R me e l) (exp R' me' e' l')

    pub looser : (B C : NumberSet) → Within C B → (M N : Type 0) → (M → N) → (p p' : Step K (Flow K)) → Matched g (FlowTo B M) p p' → Matched g (FlowTo C N) p p'
    looser B C w M N i p p' x = match_weaker g (FlowTo B M) (FlowTo C N) p p' (wider keys (Shift B) (Shift C) M N (λ l l' h. shifted_less keys s frame B C w l l' h) i) x

    pub match_flow : (B C : NumberSet) (M N : Type 0) (x x' : Flow K) → FlowTo B M x x' → (k k' : List (Value K) → Step K (Flow K)) → OldSafe g (on_flow x k) → NewSafe g (on_flow x' k') → Follow B N C k k' → Matched g (FlowTo C (M ⊎ N)) (on_flow x k) (on_flow x' k')
    match_flow B C M N (goes_on l) (goes_on l') h k k' o o' d = looser C C (λ i a. a) N (M ⊎ N) inr (k l) (k' l') (d l l' h o o')
    match_flow B C M N (returns v) (returns v') h k k' o o' d = match_value g (FlowTo C (M ⊎ N)) (returns v) (returns v') (h.0, inl h.1)
    match_flow B C M N (goes_on l) (returns v) h k k' o o' d = absurd h
    match_flow B C M N (returns v) (goes_on l) h k k' o o' d = absurd h

    pub listed_known : (A B C : NumberSet) (a a' : Stmt K) (b b' : Stmts K) (M N : Type 0) → Follow A M B (stmt R me a) (stmt R' me' a') → Follow B N C (stmts R me b) (stmts R' me' b')
        → Follow A (M ⊎ N) C (stmts R me (core.Stmts.more a b)) (stmts R' me' (core.Stmts.more a' b'))
    listed_known A B C a a' b b' M N x d l l' h o o' = match_next_safe g (FlowTo B M) (FlowTo C (M ⊎ N)) (stmt R me a l) (stmt R' me' a' l') (λ y. on_flow y (λ z. stmts R me b z)) (λ y. on_flow y (λ z. stmts R' me' b' z)) o o' (λ i i'. x l l' h i i')
        (λ y y' q u u'. match_flow B C M N y y' q (λ z. stmts R me b z) (λ z. stmts R' me' b' z) u u' d)

    pub leaving_known : (B : NumberSet) (M : Type 0) (p q : At K) (v v' : Value K) → ImageOf keys v v' → (x x' : Step K (Flow K)) → OldSafe g (leaving p v x) → NewSafe g (leaving q v' x') → (OldSafe g x → NewSafe g x' → Matched g (FlowTo B M) x x') → Matched g (FlowTo B M) (leaving p v x) (leaving q v' x')
    leaving_known B M p q v v' e x x' o o' y = both_and g.more g.relation g.joins g.sides (OutRel (FlowTo B M)) (OutRel (FlowTo B M)) x (λ a. act record { at = p; action = exit v } (done a)) x' (λ a. act record { at = q; action = exit v' } (done a))
        (y (safe_first g.old_pre g.old_good x (λ a. act record { at = p; action = exit v } (done a)) o) (safe_first g.new_pre g.new_good x' (λ a. act record { at = q; action = exit v' } (done a)) o'))
        (λ a a' h. both_act g.more g.relation g.joins g.sides (OutRel (FlowTo B M)) record { at = p; action = exit v } record { at = q; action = exit v' } (done a) (done a')
        (g.images record { at = p; action = exit v } record { at = q; action = exit v' } (ap (λ u. exit u) e)) (both_done g.more g.relation g.joins g.sides (OutRel (FlowTo B M)) a a' h))

    pub branch_known : (A B C D E : NumberSet) → Within E C → Within E D → (p q : At K) (c c' : Exp K) (a a' b b' : Stmt K) → ExpFollow A B c c' → Follow B (Returns a) C (stmt R me a) (stmt R' me' a') → Follow B (Returns b) D (stmt R me b) (stmt R' me' b')
        → Follow A (Returns a ⊎ Returns b) E (stmt R me (core.branch p c a b)) (stmt R' me' (core.branch q c' a' b'))
    branch_known A B C D E i j p q c c' a a' b b' d x k l l' h o o' = match_next_safe g (ResultRel keys s frame B) (FlowTo E (Returns a ⊎ Returns b)) (exp R me c l) (exp R' me' c' l') (λ r. on_truth r.0 (stmt R me a r.1) (stmt R me b r.1)) (λ r. on_truth r.0 (stmt R' me' a' r.1) (stmt R' me' b' r.1)) o o'
        (λ n n'. d l l' h n n')
        (λ r r' e u u'. match_truth_safe g (FlowTo E (Returns a ⊎ Returns b)) r.0 r'.0 e.0 (stmt R me a r.1) (stmt R me b r.1) (stmt R' me' a' r'.1) (stmt R' me' b' r'.1) u u'
        (λ n n'. looser C E i (Returns a) (Returns a ⊎ Returns b) inl (stmt R me a r.1) (stmt R' me' a' r'.1) (x r.1 r'.1 e.1 n n'))
        (λ n n'. looser D E j (Returns b) (Returns a ⊎ Returns b) inr (stmt R me b r.1) (stmt R' me' b' r'.1) (k r.1 r'.1 e.1 n n')))

    pub sync_known : (A B C : NumberSet) (p q p' q' : At K) (e e' : Exp K) (b b' : Stmts K) → ExpFollow A B e e' → Follow B (SomeReturns b) C (stmts R me b) (stmts R' me' b') → Follow A (SomeReturns b) C (stmt R me (core.sync p q e b)) (stmt R' me' (core.sync p' q' e' b'))
    sync_known A B C p q p' q' e e' b b' d x l l' h o o' = match_next_safe g (ResultRel keys s frame B) (FlowTo C (SomeReturns b)) (exp R me e l) (exp R' me' e' l')
        (λ r. non_null r.0 (act record { at = p; action = enter r.0 } (leaving q r.0 (stmts R me b r.1)))) (λ r. non_null r.0 (act record { at = p'; action = enter r.0 } (leaving q' r.0 (stmts R' me' b' r.1)))) o o'
        (λ n n'. d l l' h n n')
        (λ r r' i u u'. match_non_null_safe g (FlowTo C (SomeReturns b)) r.0 r'.0 i.0 (act record { at = p; action = enter r.0 } (leaving q r.0 (stmts R me b r.1))) (act record { at = p'; action = enter r'.0 } (leaving q' r'.0 (stmts R' me' b' r'.1))) u u'
        (λ n n'. match_action g (FlowTo C (SomeReturns b)) record { at = p; action = enter r.0 } record { at = p'; action = enter r'.0 } (leaving q r.0 (stmts R me b r.1)) (leaving q' r'.0 (stmts R' me' b' r'.1)) (ap (λ v. enter v) i.0)
        (leaving_known C (SomeReturns b) q q' r.0 r'.0 i.0 (stmts R me b r.1) (stmts R' me' b' r'.1) n n' (λ z z'. x r.1 r'.1 i.1 z z'))))

    pub declare_known : (A B C : NumberSet) (p q : At K) (n : ℕ) (e e' : Exp K) → IsFree s.code n → ExpFollow A B e e' → Within C (with_one B n)
        → Follow A ⊥ C (stmt R me (core.declare p n e)) (stmt R' me' (core.declare q (s.code.at n) e'))
    declare_known A B C p q n e e' free d w l l' h o o' = match_next_safe g (ResultRel keys s frame B) (FlowTo C ⊥) (exp R me e l) (exp R' me' e' l') (λ r. done (value (goes_on (with_local r.1 n r.0)))) (λ r. done (value (goes_on (with_local r.1 (s.code.at n) r.0)))) o o'
        (λ u u'. d l l' h u u')
        (λ r r' i u u'. match_value g (FlowTo C ⊥) (goes_on (with_local r.1 n r.0)) (goes_on (with_local r'.1 (s.code.at n) r'.0))
        (shifted_less keys s frame (with_one B n) C w (with_local r.1 n r.0) (with_local r'.1 (s.code.at n) r'.0) (shifted_write keys s stands frame B r.1 r'.1 n r.0 r'.0 free.below free.unknown i.0 i.1)))

    pub eval_known : (A B : NumberSet) (p q : At K) (e e' : Exp K) → ExpFollow A B e e' → Follow A ⊥ B (stmt R me (core.eval p e)) (stmt R' me' (core.eval q e'))
    eval_known A B p q e e' d l l' h o o' = match_next_safe g (ResultRel keys s frame B) (FlowTo B ⊥) (exp R me e l) (exp R' me' e' l') (λ r. done (value (goes_on r.1))) (λ r. done (value (goes_on r.1))) o o' (λ n n'. d l l' h n n')
        (λ r r' i u u'. match_value g (FlowTo B ⊥) (goes_on r.1) (goes_on r'.1) i.1)

    -- behind it nothing is run, so any set will do
    pub return_known : (A B C : NumberSet) (p q : At K) (e e' : Exp K) → ExpFollow A B e e' → Follow A (Unit {0}) C (stmt R me (core.return p e)) (stmt R' me' (core.return q e'))
    return_known A B C p q e e' d l l' h o o' = match_next_safe g (ResultRel keys s frame B) (FlowTo C (Unit {0})) (exp R me e l) (exp R' me' e' l') (λ r. done (value (returns (Some r.0)))) (λ r. done (value (returns (Some r.0)))) o o' (λ n n'. d l l' h n n')
        (λ r r' i u u'. match_value g (FlowTo C (Unit {0})) (returns (Some r.0)) (returns (Some r'.0)) (i.0, tt))

module _ {K : Keys} {keys : KeyMap K} {R R' : Rows K} (g : Guarded keys R R') (Spot : AllSpots K) where
  -- what the changed expressions and statement lists owe
  pub record SpotsKnown : Type 0 where
    pub exps : (s : Standing K) (stands : Stands s) (frame : Frame K) (me me' : Value K) (im : Holding R keys s.code frame me me') → ExpsKnown g s stands frame me me' im (Spot.exps s)
    pub lists : (s : Standing K) (stands : Stands s) (frame : Frame K) (me me' : Value K) (im : Holding R keys s.code frame me me') (A : NumberSet) (b b' : Stmts K) (B : NumberSet) → Spot.lists s A b b' B → (l l' : List (Value K)) → Shifted keys s frame A l l'
        → OldSafe g (stmts R me b l) → NewSafe g (stmts R' me' b' l') → Matched g (FlowRel keys (Shifted keys s frame B) (SomeReturns b)) (stmts R me b l) (stmts R' me' b' l')

  module _ (turns : TurnsKnown g Spot) (s : Standing K) (stands : Stands s) (frame : Frame K) (me me' : Value K) (im : Holding R keys s.code frame me me') where
    abbrev To : NumberSet → Type 0 → Flow K → Flow K → Type 0
    To B M x x' = FlowRel keys (Shifted keys s frame B) M x x'

    -- a turn of a loop is a call that is answered
    pub turn_known : (H B C : NumberSet) (c c' : Exp K) (b b' : Stmt K) → ExpImage keys R (Spot.exps s) s.code H c c' B → StmtImage keys R Spot s B b b' C → Within H C
        → Follow g s stands frame me me' im H (Returns b) B (λ l. call (turn me c b l) (λ o. done o)) (λ l. call (turn me' c' b' l) (λ o. done o))
    turn_known H B C c c' b b' d t w l l' h o o' = both_call g.more g.relation g.joins g.sides (OutRel (To B (Returns b))) (OutRel (To B (Returns b))) (turn me c b l) (turn me' c' b' l') (λ x. done x) (λ x. done x)
        (turns me c b l me' c' b' l' record { at = s; stands = stands; frame = frame; self = im; head = H; tested = B; behind = C; condition = d; body = t; again = w; locals = h } o.0 o'.0)
        (λ x x' q. both_done g.more g.relation g.joins g.sides (OutRel (To B (Returns b))) x x' q)

    module _ (spots : SpotsKnown) where
      mutual
        pub stmt_known : (A B : NumberSet) (a a' : Stmt K) → StmtImage keys R Spot s A a a' B → Follow g s stands frame me me' im A (Returns a) B (stmt R me a) (stmt R' me' a')
        stmt_known A B a a' (to_declare C D E p q n e e' free d w) l l' h o o' = declare_known g s stands frame me me' im A D B p q n e e' free (exp_with g s stands frame me me' im (Spot.exps s) (spots.exps s stands frame me me' im) A D e e' d) w l l' h o o'
        stmt_known A B a a' (to_eval C D p q e e' d) l l' h o o' = eval_known g s stands frame me me' im A B p q e e' (exp_with g s stands frame me me' im (Spot.exps s) (spots.exps s stands frame me me' im) A B e e' d) l l' h o o'
        stmt_known A B a a' (to_branch C D E F G p q c c' x x' y y' d t k u v) l l' h o o' = branch_known g s stands frame me me' im A D E F B u v p q c c' x x' y y' (exp_with g s stands frame me me' im (Spot.exps s) (spots.exps s stands frame me me' im) A D c c' d) (λ m m' i n n'. stmt_known D E x x' t m m' i n n') (λ m m' i n n'. stmt_known D F y y' k m m' i n n') l l' h o o'
        stmt_known A B a a' (to_loop C H D E p q c c' b b' u d t w) l l' h o o' = turn_known H B E c c' b b' d t w l l' (shifted_less keys s frame A H u l l' h) o o'
        stmt_known A B a a' (to_return C D E p q e e' d) l l' h o o' = return_known g s stands frame me me' im A D B p q e e' (exp_with g s stands frame me me' im (Spot.exps s) (spots.exps s stands frame me me' im) A D e e' d) l l' h o o'
        stmt_known A B a a' (to_return_nothing C D p q) l l' h o o' = match_value g (To B (Unit {0})) (returns None) (returns None) (tt, tt)
        stmt_known A B a a' (to_block C D E p q ns ns' b b' d w t) l l' h o o' = stmts_known D B b b' t (unset ns l) (unset ns' l')
            (shifted_less keys s frame (with_all A ns) D w (unset ns l) (unset ns' l') (shifted_unset keys s ns ns' d frame A l l' h)) o o'
        stmt_known A B a a' (to_sync C D E p q p' q' e e' b b' d t) l l' h o o' = sync_known g s stands frame me me' im A D B p q p' q' e e' b b' (exp_with g s stands frame me me' im (Spot.exps s) (spots.exps s stands frame me me' im) A D e e' d) (λ m m' i n n'. stmts_known D B b b' t m m' i n n') l l' h o o'
        stmt_known A B a a' (to_empty C p q) l l' h o o' = match_value g (To A ⊥) (goes_on l) (goes_on l') h

        pub stmts_known : (A B : NumberSet) (b b' : Stmts K) → StmtsImage keys R Spot s A b b' B → Follow g s stands frame me me' im A (SomeReturns b) B (stmts R me b) (stmts R' me' b')
        stmts_known A B b b' (to_no_more C) l l' h o o' = match_value g (To A ⊥) (goes_on l) (goes_on l') h
        stmts_known A B b b' (to_list C D E x x' y y' t k) l l' h o o' = listed_known g s stands frame me me' im A D B x x' y y' (Returns x) (SomeReturns y) (λ m m' i n n'. stmt_known A D x x' t m m' i n n') (λ m m' i n n'. stmts_known D B y y' k m m' i n n') l l' h o o'
        stmts_known A B b b' (to_spot C D x x' t) l l' h o o' = spots.lists s stands frame me me' im A x x' B t l l' h o o'

      -- a turn of a loop, by its plan
      pub whole_turn_known : (H B C : NumberSet) (c c' : Exp K) (b b' : Stmt K) → ExpImage keys R (Spot.exps s) s.code H c c' B → StmtImage keys R Spot s B b b' C → Within H C
          → Follow g s stands frame me me' im H (Returns b) B
          (λ l. next (exp R me c l) (λ r. on_truth r.0 (next (stmt R me b r.1) (λ v. on_flow v (λ m. call (turn me c b m) (λ o. done o)))) (done (value (goes_on r.1)))))
          (λ l. next (exp R' me' c' l) (λ r. on_truth r.0 (next (stmt R' me' b' r.1) (λ v. on_flow v (λ m. call (turn me' c' b' m) (λ o. done o)))) (done (value (goes_on r.1)))))
      whole_turn_known H B C c c' b b' d t w l l' h o o' =
          match_next_safe g (ResultRel keys s frame B) (To B M) (exp R me c l) (exp R' me' c' l')
          (λ r. on_truth r.0 (next (stmt R me b r.1) (λ v. on_flow v again)) (done (value (goes_on r.1)))) (λ r. on_truth r.0 (next (stmt R' me' b' r.1) (λ v. on_flow v again')) (done (value (goes_on r.1)))) o o'
          (λ n n'. exp_with g s stands frame me me' im (Spot.exps s) (spots.exps s stands frame me me' im) H B c c' d l l' h n n')
          (λ r r' i u u'. match_truth_safe g (To B M) r.0 r'.0 i.0 (next (stmt R me b r.1) (λ v. on_flow v again)) (done (value (goes_on r.1))) (next (stmt R' me' b' r'.1) (λ v. on_flow v again')) (done (value (goes_on r'.1))) u u'
          (λ n n'. match_next_safe g (To C M) (To B M) (stmt R me b r.1) (stmt R' me' b' r'.1) (λ v. on_flow v again) (λ v. on_flow v again') n n'
          (λ z z'. stmt_known B C b b' t r.1 r'.1 i.1 z z')
          (λ y y' q z z'. looser g s stands frame me me' im B B (λ k a. a) (M ⊎ M) M (λ k. ⊎_elim (λ e. e) (λ e. e) k) (on_flow y again) (on_flow y' again')
          (match_flow g s stands frame me me' im C B M M y y' q again again' z z'
          (λ m m' e j j'. turn_known H B C c c' b b' d t w m m' (shifted_less keys s frame C H w m m' e) j j'))))
          (λ n n'. match_value g (To B M) (goes_on r.1) (goes_on r'.1) i.1))
        where
          M : Type 0
          M = Returns b

          again : List (Value K) → Step K (Flow K)
          again m = call (turn me c b m) (λ x. done x)

          again' : List (Value K) → Step K (Flow K)
          again' m = call (turn me' c' b' m) (λ x. done x)
