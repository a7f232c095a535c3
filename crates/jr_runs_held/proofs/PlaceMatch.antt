-- What stands before an expression in its place, and what comes behind, match those of another program.
use Rattle.std.proofs.Common.{◌≡◌, ◌⊎◌, List, ◌∷◌, Some, true, false, refl, sym, ap, ◌∙◌, subst, inl, inr}
use Rattle.jr_plans.specs.Plan.{done, act, call}
use Rattle.jr_runs.specs.Keys.{Keys, At}
use Rattle.jr_runs.specs.Values.{Value, truth, null}
use Rattle.jr_runs.specs.Actions.{enter, placed}
use Rattle.jr_runs.specs.Fitting.{is_instance}
use Rattle.jr_runs.specs.Arithmetic.{Out, value, thrown, operate, sign}
use Rattle.jr_runs.specs.Core as core
use Rattle.jr_runs.specs.Core.{Exp, Target, Stmt}
use Rattle.jr_runs.specs.Evaluation.{Flow, goes_on, returns, invoke, Step, next, with_local, with_locals, cast_value, answer, unset, non_null, on_truth, leaving, exp, exps, on_flow, stmt, stmts}
use Rattle.jr_runs.specs.KeyMaps.{value_image}
use Rattle.jr_runs.specs.Standing.{Self, Standing, Stands, Frame, SelfIs, Holding, Shifted}
use Rattle.jr_runs.specs.Sets.{NumberSet, with_one, with_all, Within}
use Rattle.jr_runs.specs.Images.{Spots, NoSpot, StmtTo}
use Rattle.jr_runs.specs.Pairs.{OutRel, ResultRel, ListRel, SlotTo, local_slots, static_slots, object_slots, FlowRel, Returns, SomeReturns}
use Rattle.jr_runs.proofs.Locals.{shifted_less, shifted_write}
use Rattle.jr_runs.proofs.Numbers.{shifted_unset}
use Rattle.jr_runs.proofs.ImageValues.{sign_image, operate_rel, is_instance_image, cast_rel}
use Rattle.jr_runs.proofs.Matching.{Setting, Matches, match_next, match_value, match_outcome, match_truth, match_non_null, match_action, match_call, match_weaker, with_rel}
use Rattle.jr_runs.proofs.ImageExps.{stored_match, answer_match, exp_match, exps_match}
use Rattle.jr_runs.proofs.ImageStmts.{TurnsAnswered, looser, match_flow, leaving_match, stmt_match}
use Rattle.jr_runs.proofs.Kept.{kept_turns, kept_match}
use Rattle.jr_runs_held.specs.Places.{Piece, run_piece, run_pieces, Wrap, User, Sequel, monitor_of, slot_of, run_wrap, run_user, run_sequels, UserReturns, SequelsReturn, LockTo, to_own_lock, to_text_lock, to_class_lock, PieceTo, to_declared, to_evaluated, to_opened, to_locked, PiecesTo, to_no_piece, to_pieces, PlainTo, plain_local, plain_static, plain_own, WrapTo, to_assigns, to_signs, to_casts, to_operates, to_operates_behind, to_ands, to_ors, to_hands, UserTo, to_through, to_declares, to_evaluates, to_gives, to_chooses, to_locks, SequelsTo, to_no_sequel, to_follows, to_leaves}

module _ {K : Keys} (g : Setting K) (s : Standing K) (stands : Stands s) (frame : Frame K) (me me' : Value K) (im : Holding g.old g.keys s.code frame me me') where
  abbrev Shift : NumberSet → List (Value K) → List (Value K) → Type 0
  Shift A l l' = Shifted g.keys s frame A l l'

  lock_image : (e e' : Exp K) → LockTo g.keys s.code e e' → monitor_of me' e' ≡ value_image g.keys (monitor_of me e)
  lock_image e e' (to_own_lock p q i) = subst (λ (x : Self). SelfIs g.keys x frame me me') i im.self
  lock_image e e' (to_text_lock p q t) = refl
  lock_image e e' (to_class_lock p q c) = refl

  entered_match : (A : NumberSet) (p q : At K) (o o' : Value K) → o' ≡ value_image g.keys o → (l l' : List (Value K)) → Shift A l l' → Matches g (Shift A) (act (placed p (enter o)) (done (value l))) (act (placed q (enter o')) (done (value l')))
  entered_match A p q o o' i l l' h = match_action g (Shift A) (placed p (enter o)) (placed q (enter o')) (done (value l)) (done (value l')) (ap enter i) (match_value g (Shift A) l l' h)

  locked_match : (A : NumberSet) (p q : At K) (e e' : Exp K) → LockTo g.keys s.code e e' → (l l' : List (Value K)) → Shift A l l'
      → Matches g (Shift A) (next (exp g.old me e l) (λ r. act (placed p (enter r.0)) (done (value r.1)))) (next (exp g.new me' e' l') (λ r. act (placed q (enter r.0)) (done (value r.1))))
  locked_match A p q e e' (to_own_lock x y i) l l' h = entered_match A p q me me' (lock_image e e' (to_own_lock x y i)) l l' h
  locked_match A p q e e' (to_text_lock x y t) l l' h = entered_match A p q (monitor_of me e) (monitor_of me' e') refl l l' h
  locked_match A p q e e' (to_class_lock x y c) l l' h = entered_match A p q (monitor_of me e) (monitor_of me' e') refl l l' h

  piece_match : (A B : NumberSet) (b b' : Piece K) → PieceTo g.keys g.old s A b b' B → (l l' : List (Value K)) → Shift A l l' → Matches g (Shift B) (run_piece g.old me b l) (run_piece g.new me' b' l')
  piece_match A B b b' (to_declared C D E n e e' free d w) l l' h = match_next g (ResultRel g.keys s frame D) (Shift B) (exp g.old me e l) (exp g.new me' e' l') (λ r. done (value (with_local r.1 n r.0))) (λ r. done (value (with_local r.1 (s.code.at n) r.0)))
      (exp_match g s stands frame me me' im A D e e' d l l' h)
      (λ r r' k. match_value g (Shift B) (with_local r.1 n r.0) (with_local r'.1 (s.code.at n) r'.0)
      (shifted_less g.keys s frame (with_one D n) B w (with_local r.1 n r.0) (with_local r'.1 (s.code.at n) r'.0) (shifted_write g.keys s stands frame D r.1 r'.1 n r.0 r'.0 free.below free.unknown k.0 k.1)))
  piece_match A B b b' (to_evaluated C D e e' d) l l' h = match_next g (ResultRel g.keys s frame B) (Shift B) (exp g.old me e l) (exp g.new me' e' l') (λ r. done (value r.1)) (λ r. done (value r.1)) (exp_match g s stands frame me me' im A B e e' d l l' h) (λ r r' k. match_value g (Shift B) r.1 r'.1 k.1)
  piece_match A B b b' (to_opened C D ns ns' d w) l l' h = match_value g (Shift B) (unset ns l) (unset ns' l') (shifted_less g.keys s frame (with_all A ns) B w (unset ns l) (unset ns' l') (shifted_unset g.keys s ns ns' d frame A l l' h))
  piece_match A B b b' (to_locked C p q e e' d) l l' h = locked_match A p q e e' d l l' h

  pub pieces_match : (A B : NumberSet) (bs bs' : List (Piece K)) → PiecesTo g.keys g.old s A bs bs' B → (l l' : List (Value K)) → Shift A l l' → Matches g (Shift B) (run_pieces g.old me bs l) (run_pieces g.new me' bs' l')
  pieces_match A B bs bs' (to_no_piece C) l l' h = match_value g (Shift A) l l' h
  pieces_match A B bs bs' (to_pieces C D E b b' cs cs' d f) l l' h = match_next g (Shift D) (Shift B) (run_piece g.old me b l) (run_piece g.new me' b' l') (λ m. run_pieces g.old me cs m) (λ m. run_pieces g.new me' cs' m) (piece_match A D b b' d l l' h)
      (λ m m' i. pieces_match D B cs cs' f m m' i)

  module _ (Spot : Spots K) (turns : TurnsAnswered g Spot) where
    less : (B C : NumberSet) → Within C B → (p p' : Step K (Value K × List (Value K))) → Matches g (ResultRel g.keys s frame B) p p' → Matches g (ResultRel g.keys s frame C) p p'
    less B C w p p' f = match_weaker g (ResultRel g.keys s frame B) (ResultRel g.keys s frame C) p p' fewer f
      where
        fewer : (o o' : Out (Value K × List (Value K))) → OutRel (ResultRel g.keys s frame B) o o' → OutRel (ResultRel g.keys s frame C) o o'
        fewer (value a) (value b) h = (h.0, shifted_less g.keys s frame B C w a.1 b.1 h.1)
        fewer (thrown x) (thrown y) h = h
        fewer (value a) (thrown y) h = absurd h
        fewer (thrown x) (value b) h = absurd h

    abbrev FlowTo : NumberSet → Type 0 → Flow K → Flow K → Type 0
    FlowTo B M f f' = FlowRel g.keys (Shift B) M f f'

    kept_one : (A B : NumberSet) (a a' : Stmt K) → StmtTo g.keys g.old NoSpot s A a a' B → (l l' : List (Value K)) → Shift A l l' → Matches g (FlowTo B (Returns a)) (stmt g.old me a l) (stmt g.new me' a' l')
    kept_one A B a a' d l l' h = stmt_match g NoSpot (kept_turns g Spot turns) (λ b t f m m' i C1 y y' D1 none. absurd none) s stands frame me me' im A B a a' d l l' h

    plain_slots : (t t' : Target K) → PlainTo g.keys s.code t t' → SlotTo g.keys s t (slot_of me t) (slot_of me' t')
    plain_slots t t' (plain_local p q n b) = local_slots p n b
    plain_slots t t' (plain_static p q f) = static_slots p q f
    plain_slots t t' (plain_own p q x y f i) = object_slots p q (core.this x) me me' f (subst (λ (z : Self). SelfIs g.keys z frame me me') i im.self)

    wrap_match : (A B : NumberSet) (w w' : Wrap K) → WrapTo g.keys g.old s A w w' B → (r r' : Value K × List (Value K)) → ResultRel g.keys s frame A r r' → Matches g (ResultRel g.keys s frame B) (run_wrap g.old me w r) (run_wrap g.new me' w' r')
    wrap_match A B w w' (to_assigns C D t t' d u v) r r' k = stored_match g s stands frame A B t (slot_of me t) (slot_of me' t') (plain_slots t t' d) u v r.0 r'.0 r.0 r'.0 k.0 k.0 r.1 r'.1 k.1
    wrap_match A B w w' (to_signs C op) r r' k = match_value g (ResultRel g.keys s frame A) (sign op r.0, r.1) (sign op r'.0, r'.1) (ap (sign op) k.0 ∙ sign_image g.keys op r.0, k.1)
    wrap_match A B w w' (to_casts C c) r r' k = match_outcome g (ResultRel g.keys s frame A) (with_locals r.1 (cast_value (is_instance g.old c r.0) r.0)) (with_locals r'.1 (cast_value (is_instance g.new (g.keys.class c) r'.0) r'.0))
        (with_rel g.keys s frame A r.1 r'.1 (cast_value (is_instance g.old c r.0) r.0) (cast_value (is_instance g.new (g.keys.class c) r'.0) r'.0) (rw (k.0, is_instance_image g.keys g.old g.new g.rows c r.0) (cast_rel g.keys (is_instance g.old c r.0) r.0)) k.1)
    wrap_match A B w w' (to_operates C D op b b' d) r r' k = match_next g (ResultRel g.keys s frame B) (ResultRel g.keys s frame B) (exp g.old me b r.1) (exp g.new me' b' r'.1) (λ z. done (with_locals z.1 (operate g.old.same_class op r.0 z.0))) (λ z. done (with_locals z.1 (operate g.new.same_class op r'.0 z.0)))
        (exp_match g s stands frame me me' im A B b b' d r.1 r'.1 k.1)
        (λ z z' j. match_outcome g (ResultRel g.keys s frame B) (with_locals z.1 (operate g.old.same_class op r.0 z.0)) (with_locals z'.1 (operate g.new.same_class op r'.0 z'.0))
        (with_rel g.keys s frame B z.1 z'.1 (operate g.old.same_class op r.0 z.0) (operate g.new.same_class op r'.0 z'.0) (rw (k.0, j.0) (operate_rel g.keys g.old g.new g.rows op r.0 z.0)) j.1))
    wrap_match A B w w' (to_operates_behind C D op a a' d) r r' k = match_next g (ResultRel g.keys s frame B) (ResultRel g.keys s frame B) (exp g.old me a r.1) (exp g.new me' a' r'.1) (λ z. done (with_locals z.1 (operate g.old.same_class op z.0 r.0))) (λ z. done (with_locals z.1 (operate g.new.same_class op z.0 r'.0)))
        (exp_match g s stands frame me me' im A B a a' d r.1 r'.1 k.1)
        (λ z z' j. match_outcome g (ResultRel g.keys s frame B) (with_locals z.1 (operate g.old.same_class op z.0 r.0)) (with_locals z'.1 (operate g.new.same_class op z'.0 r'.0))
        (with_rel g.keys s frame B z.1 z'.1 (operate g.old.same_class op z.0 r.0) (operate g.new.same_class op z'.0 r'.0) (rw (j.0, k.0) (operate_rel g.keys g.old g.new g.rows op z.0 r.0)) j.1))
    wrap_match A B w w' (to_ands C D E b b' d u v) r r' k = subst (λ x. Matches g (ResultRel g.keys s frame B) (on_truth r.0 (exp g.old me b r.1) (done (value (truth false, r.1)))) (on_truth x (exp g.new me' b' r'.1) (done (value (truth false, r'.1))))) (sym k.0)
        (match_truth g (ResultRel g.keys s frame B) r.0 (exp g.old me b r.1) (done (value (truth false, r.1))) (exp g.new me' b' r'.1) (done (value (truth false, r'.1)))
        (less D B v (exp g.old me b r.1) (exp g.new me' b' r'.1) (exp_match g s stands frame me me' im A D b b' d r.1 r'.1 k.1)) (match_value g (ResultRel g.keys s frame B) (truth false, r.1) (truth false, r'.1) (refl, shifted_less g.keys s frame A B u r.1 r'.1 k.1)))
    wrap_match A B w w' (to_ors C D E b b' d u v) r r' k = subst (λ x. Matches g (ResultRel g.keys s frame B) (on_truth r.0 (done (value (truth true, r.1))) (exp g.old me b r.1)) (on_truth x (done (value (truth true, r'.1))) (exp g.new me' b' r'.1))) (sym k.0)
        (match_truth g (ResultRel g.keys s frame B) r.0 (done (value (truth true, r.1))) (exp g.old me b r.1) (done (value (truth true, r'.1))) (exp g.new me' b' r'.1) (match_value g (ResultRel g.keys s frame B) (truth true, r.1) (truth true, r'.1) (refl, shifted_less g.keys s frame A B u r.1 r'.1 k.1))
        (less D B v (exp g.old me b r.1) (exp g.new me' b' r'.1) (exp_match g s stands frame me me' im A D b b' d r.1 r'.1 k.1)))
    wrap_match A B w w' (to_hands C D m es es' has d) r r' k = match_next g (ListRel g.keys s frame B) (ResultRel g.keys s frame B) (exps g.old me es r.1) (exps g.new me' es' r'.1) (λ z. call (invoke m null (r.0 ∷ z.0)) (λ o. done (answer z.1 o))) (λ z. call (invoke (g.keys.method m) null (r'.0 ∷ z.0)) (λ o. done (answer z.1 o)))
        (exps_match g s stands frame me me' im A B es es' d r.1 r'.1 k.1)
        (λ z z' j. match_call g (ResultRel g.keys s frame B) m null null (r.0 ∷ z.0) (r'.0 ∷ z'.0) (λ o. done (answer z.1 o)) (λ o. done (answer z'.1 o)) has refl (λ i. k.0 i ∷ j.0 i) (answer_match g s stands frame B z.1 z'.1 j.1))

    user_match : (A B : NumberSet) (u u' : User K) → UserTo g.keys g.old s A u u' B → (r r' : Value K × List (Value K)) → ResultRel g.keys s frame A r r' → Matches g (FlowTo B (UserReturns u)) (run_user g.old me u r) (run_user g.new me' u' r')
    user_match A B u u' (to_through C D E w w' v v' d f) r r' k = match_next g (ResultRel g.keys s frame D) (FlowTo B (UserReturns v)) (run_wrap g.old me w r) (run_wrap g.new me' w' r') (λ x. run_user g.old me v x) (λ x. run_user g.new me' v' x) (wrap_match A D w w' d r r' k) (λ x x' j. user_match D B v v' f x x' j)
    user_match A B u u' (to_declares C D n free w) r r' k = match_value g (FlowTo B ⊥) (goes_on (with_local r.1 n r.0)) (goes_on (with_local r'.1 (s.code.at n) r'.0))
        (shifted_less g.keys s frame (with_one A n) B w (with_local r.1 n r.0) (with_local r'.1 (s.code.at n) r'.0) (shifted_write g.keys s stands frame A r.1 r'.1 n r.0 r'.0 free.below free.unknown k.0 k.1))
    user_match A B u u' (to_evaluates C) r r' k = match_value g (FlowTo A ⊥) (goes_on r.1) (goes_on r'.1) k.1
    user_match A B u u' (to_gives C D) r r' k = match_value g (FlowTo B (Unit {0})) (returns (Some r.0)) (returns (Some r'.0)) (k.0, tt)
    user_match A B u u' (to_chooses C D E F a a' b b' d f v w) r r' k = subst (λ x. Matches g (FlowTo B (Returns a ⊎ Returns b)) (on_truth r.0 (stmt g.old me a r.1) (stmt g.old me b r.1)) (on_truth x (stmt g.new me' a' r'.1) (stmt g.new me' b' r'.1))) (sym k.0) (match_truth g (FlowTo B (Returns a ⊎ Returns b)) r.0 (stmt g.old me a r.1) (stmt g.old me b r.1) (stmt g.new me' a' r'.1) (stmt g.new me' b' r'.1)
        (looser g s stands frame me me' im D B v (Returns a) (Returns a ⊎ Returns b) inl (stmt g.old me a r.1) (stmt g.new me' a' r'.1) (kept_one A D a a' d r.1 r'.1 k.1))
        (looser g s stands frame me me' im E B w (Returns b) (Returns a ⊎ Returns b) inr (stmt g.old me b r.1) (stmt g.new me' b' r'.1) (kept_one A E b b' f r.1 r'.1 k.1)))
    user_match A B u u' (to_locks C D p q p' q' b b' d) r r' k = subst (λ x. Matches g (FlowTo B (SomeReturns b)) (non_null r.0 (act (placed p (enter r.0)) (leaving q r.0 (stmts g.old me b r.1)))) (non_null x (act (placed p' (enter x)) (leaving q' x (stmts g.new me' b' r'.1))))) (sym k.0) (match_non_null g (FlowTo B (SomeReturns b)) r.0 (act (placed p (enter r.0)) (leaving q r.0 (stmts g.old me b r.1))) (act (placed p' (enter (value_image g.keys r.0))) (leaving q' (value_image g.keys r.0) (stmts g.new me' b' r'.1)))
        (match_action g (FlowTo B (SomeReturns b)) (placed p (enter r.0)) (placed p' (enter (value_image g.keys r.0))) (leaving q r.0 (stmts g.old me b r.1)) (leaving q' (value_image g.keys r.0) (stmts g.new me' b' r'.1)) refl
        (leaving_match g s stands frame me me' im B (SomeReturns b) q q' r.0 (stmts g.old me b r.1) (stmts g.new me' b' r'.1) (kept_match g Spot turns s stands frame me me' im A b b' B d r.1 r'.1 k.1))))

    sequels_match : (A B : NumberSet) (zs zs' : List (Sequel K)) → SequelsTo g.keys g.old s A zs zs' B → (M : Type 0) (p p' : Step K (Flow K)) → Matches g (FlowTo A M) p p' → Matches g (FlowTo B (SequelsReturn zs M)) (run_sequels g.old me zs p) (run_sequels g.new me' zs' p')
    sequels_match A B zs zs' (to_no_sequel C) M p p' f = f
    sequels_match A B zs zs' (to_follows C D E b b' ys ys' d t) M p p' f =
        let k : Flow K → Step K (Flow K) = λ y. on_flow y (λ m. stmts g.old me b m) in
        let k' : Flow K → Step K (Flow K) = λ y. on_flow y (λ m. stmts g.new me' b' m) in
        sequels_match D B ys ys' t (M ⊎ SomeReturns b) (next p k) (next p' k')
        (match_next g (FlowTo A M) (FlowTo D (M ⊎ SomeReturns b)) p p' k k' f
        (λ y y' i. match_flow g s stands frame me me' im A D M (SomeReturns b) y y' i (λ m. stmts g.old me b m) (λ m. stmts g.new me' b' m) (λ m m' j. kept_match g Spot turns s stands frame me me' im A b b' D d m m' j)))
    sequels_match A B zs zs' (to_leaves C D p q e e' ys ys' d t) M x x' f =
        sequels_match A B ys ys' t M (leaving p (monitor_of me e) x) (leaving q (monitor_of me' e') x')
        (subst (λ o. Matches g (FlowTo A M) (leaving p (monitor_of me e) x) (leaving q o x')) (sym (lock_image e e' d)) (leaving_match g s stands frame me me' im A M p q (monitor_of me e) x x' f))

    -- what is done with a value, and then
    pub later_match : (A B C : NumberSet) (u u' : User K) (zs zs' : List (Sequel K)) → UserTo g.keys g.old s A u u' B → SequelsTo g.keys g.old s B zs zs' C → (r r' : Value K × List (Value K)) → ResultRel g.keys s frame A r r'
        → Matches g (FlowTo C (SequelsReturn zs (UserReturns u))) (run_sequels g.old me zs (run_user g.old me u r)) (run_sequels g.new me' zs' (run_user g.new me' u' r'))
    later_match A B C u u' zs zs' d f r r' k = sequels_match B C zs zs' f (UserReturns u) (run_user g.old me u r) (run_user g.new me' u' r') (user_match A B u u' d r r' k)
