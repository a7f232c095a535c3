-- A list with an expression in a place runs the pieces before it, then the expression, and then what uses its value and
-- what comes behind.
use Rattle.std.proofs.Common.{◌≡◌, ◌⊎◌, ℕ, Bool, true, IsTrue, List, [], ◌∷◌, ◌++◌, refl, sym, ap, ◌∙◌, inl, inr, ⊎_elim}
use Rattle.jr_plans.specs.Plan.{done, act, call}
use Rattle.jr_plans.specs.Finite.{Results}
use Rattle.jr_runs.specs.Keys.{Keys}
use Rattle.jr_runs.specs.Values.{Value, null}
use Rattle.jr_runs.specs.Actions.{enter, placed}
use Rattle.jr_runs.specs.Rows.{Rows}
use Rattle.jr_runs.specs.Arithmetic.{Out, value, thrown, operate}
use Rattle.jr_runs.specs.Core as core
use Rattle.jr_runs.specs.Core.{Exp, Stmt, Stmts}
use Rattle.jr_runs.specs.Evaluation.{Flow, goes_on, invoke, Step, next, non_null, Slot, store_to, with_locals, answer, with_local, unset, leaving, exp, exps, on_flow, stmt, stmts}
use Rattle.jr_runs.specs.Pairs.{Returns, SomeReturns}
use Rattle.jr_runs_held.specs.Footprint.{Access}
use Rattle.jr_runs_held.specs.Places.{Piece, declared, evaluated, run_piece, run_pieces, CalmPieces, calm_none, calm_more, InPieces, one_declared, one_evaluated, one_empty, in_a_block, AllInPieces, no_more_pieces, more_pieces, assigns, signs, casts_to, operates, operates_behind, ands, ors, hands, User, through, declares, evaluates, gives, chooses, locks, Sequel, follows, leaves, monitor_of, run_wrap, run_user, run_sequels, ExpPlace, at_once, in_value, in_sign, in_cast, in_left, in_right, in_and, in_or, in_argument, ListPlace, in_first, behind_pieces, StmtPlace, in_declare, in_eval, in_return, in_condition, in_lock, in_block, in_sync, UserReturns, SequelsReturn}
use Rattle.jr_runs_held.proofs.Steps.{next_assoc, results_more, IsCame, came_next, leaving_next, plain_target, never_value, never_stops}
use Rattle.jr_runs_held.proofs.CalmCode.{Kept, calm_piece}
use Rattle.jr_runs_held.proofs.SilentCode.{silent_is}
use Rattle.jr_runs_held.proofs.Written.{left_behind}

-- a monitor is left somewhere behind
abbrev pub LeavesIn : {K : Keys} → List (Sequel K) → Type 0
LeavesIn [] = ⊥
LeavesIn (follows b ∷ zs) = LeavesIn zs
LeavesIn (leaves q e ∷ zs) = Unit {0}

leaves_left : {K : Keys} (zs ys : List (Sequel K)) → LeavesIn zs → LeavesIn (zs ++ ys)
leaves_left [] ys h = absurd h
leaves_left (follows b ∷ zs) ys h = leaves_left zs ys h
leaves_left (leaves q e ∷ zs) ys h = tt

leaves_right : {K : Keys} (zs ys : List (Sequel K)) → LeavesIn ys → LeavesIn (zs ++ ys)
leaves_right [] ys h = h
leaves_right (follows b ∷ zs) ys h = leaves_right zs ys h
leaves_right (leaves q e ∷ zs) ys h = tt

module _ {K : Keys} (R : Rows K) (me : Value K) where
  -- it comes to a value
  abbrev pub Comes : {A : Type 0} → Step K A → Type 0
  Comes {A = A} p = Results (IsCame (λ (a : A). Unit {0})) p

  abbrev pub AllCome : List (Piece K) → Type 0
  AllCome [] = Unit {0}
  AllCome (b ∷ bs) = ((l : List (Value K)) → Comes (run_piece R me b l)) × AllCome bs

  all_right : (cs bs : List (Piece K)) → AllCome (cs ++ bs) → AllCome bs
  all_right [] bs h = h
  all_right (c ∷ cs) bs h = all_right cs bs h.1

  pieces_come : (bs : List (Piece K)) → AllCome bs → (l : List (Value K)) → Comes (run_pieces R me bs l)
  pieces_come [] h l = tt
  pieces_come (b ∷ bs) h l = came_next (λ m. Unit {0}) (λ m. Unit {0}) (run_piece R me b l) (λ m. run_pieces R me bs m) (h.0 l) (λ m u. pieces_come bs h.1 m)

  pub any_come : {A : Type 0} (Q : A → Type 0) (p : Step K A) → Results (IsCame Q) p → Comes p
  any_come {A = A} Q p h = results_more (IsCame Q) (IsCame (λ a. Unit {0})) go p h
    where
      go : (o : Out A) → IsCame Q o → IsCame (λ a. Unit {0}) o
      go (value a) i = tt
      go (thrown f) i = i

  pub calm_all_come : (own : Bool) → (IsTrue own → me ≡ null → ⊥) → (bs : List (Piece K)) (rs ws : List ℕ) (xs : List (Access K)) → CalmPieces own bs rs ws xs → AllCome bs
  calm_all_come own some bs rs ws xs calm_none = tt
  calm_all_come own some bs rs ws xs (calm_more b cs rs1 ws1 rs2 ws2 xs1 xs2 c d) = ((λ l. any_come (Kept ws1 l) (run_piece R me b l) (calm_piece R me own some b rs1 ws1 xs1 c l).comes), calm_all_come own some cs rs2 ws2 xs2 d)

  -- ---- pieces

  pieces_append : (cs bs : List (Piece K)) (l : List (Value K)) → run_pieces R me (cs ++ bs) l ≡ next (run_pieces R me cs l) (λ m. run_pieces R me bs m)
  pieces_append [] bs l = refl
  pieces_append (c ∷ cs) bs l = (λ i. next (run_piece R me c l) (λ m. pieces_append cs bs m i)) ∙ sym (next_assoc (run_piece R me c l) (λ m. run_pieces R me cs m) (λ m. run_pieces R me bs m))

  -- a statement that is pieces, and a list that begins with pieces
  list_of_pieces : (a : Stmt K) (c : Stmts K) (cs ds : List (Piece K)) (k : List (Value K) → Step K (Flow K)) → ((l : List (Value K)) → stmt R me a l ≡ next (run_pieces R me cs l) (λ m. done (value (goes_on m))))
      → ((l : List (Value K)) → stmts R me c l ≡ next (run_pieces R me ds l) k) → (l : List (Value K)) → stmts R me (core.Stmts.more a c) l ≡ next (run_pieces R me (cs ++ ds) l) k
  list_of_pieces a c cs ds k h g l =
      let on : Flow K → Step K (Flow K) = λ f. on_flow f (λ m. stmts R me c m) in
      ap (λ p. next p on) (h l) ∙ next_assoc (run_pieces R me cs l) (λ m. done (value (goes_on m))) on ∙ (λ i. next (run_pieces R me cs l) (λ m. g m i))
      ∙ sym (next_assoc (run_pieces R me cs l) (λ m. run_pieces R me ds m) k) ∙ ap (λ p. next p k) (sym (pieces_append cs ds l))

  mutual
    stmt_in_pieces : (a : Stmt K) (bs : List (Piece K)) → InPieces a bs → (l : List (Value K)) → stmt R me a l ≡ next (run_pieces R me bs l) (λ m. done (value (goes_on m)))
    stmt_in_pieces a bs (one_declared p n e) l = sym (next_assoc (run_piece R me (declared n e) l) (λ m. done (value m)) (λ m. done (value (goes_on m))) ∙ next_assoc (exp R me e l) (λ r. done (value (with_local r.1 n r.0))) (λ m. done (value (goes_on m))))
    stmt_in_pieces a bs (one_evaluated p e) l = sym (next_assoc (run_piece R me (evaluated e) l) (λ m. done (value m)) (λ m. done (value (goes_on m))) ∙ next_assoc (exp R me e l) (λ r. done (value r.1)) (λ m. done (value (goes_on m))))
    stmt_in_pieces a bs (one_empty p) l = refl
    stmt_in_pieces a bs (in_a_block p ns b cs h) l = stmts_in_pieces b cs h (unset ns l)

    stmts_in_pieces : (b : Stmts K) (bs : List (Piece K)) → AllInPieces b bs → (l : List (Value K)) → stmts R me b l ≡ next (run_pieces R me bs l) (λ m. done (value (goes_on m)))
    stmts_in_pieces b bs no_more_pieces l = refl
    stmts_in_pieces b bs (more_pieces a c cs ds h g) l = list_of_pieces a c cs ds (λ m. done (value (goes_on m))) (stmt_in_pieces a cs h) (stmts_in_pieces c ds g) l

  -- ---- sequels

  sequels_append : (zs ys : List (Sequel K)) (p : Step K (Flow K)) → run_sequels R me (zs ++ ys) p ≡ run_sequels R me ys (run_sequels R me zs p)
  sequels_append [] ys p = refl
  sequels_append (follows b ∷ zs) ys p = sequels_append zs ys (next p (λ f. on_flow f (λ m. stmts R me b m)))
  sequels_append (leaves q e ∷ zs) ys p = sequels_append zs ys (leaving q (monitor_of me e) p)

  -- ---- the whole

  module _ (own : Bool) (e : Exp K) where
    -- behind the value
    abbrev pub then_on : User K → List (Sequel K) → Value K × List (Value K) → Step K (Flow K)
    then_on u zs r = run_sequels R me zs (run_user R me u r)

    abbrev pub Parted : List (Piece K) → User K → List (Sequel K) → List (Value K) → Step K (Flow K)
    Parted bs u zs l = next (run_pieces R me bs l) (λ m. next (exp R me e m) (then_on u zs))

    -- where a monitor is left behind, all that is done in it up to the value comes to values
    abbrev pub NoThrow : List (Piece K) → List (Sequel K) → Type 0
    NoThrow bs zs = LeavesIn zs → (IsTrue own → me ≡ null → ⊥) × AllCome bs × ((l : List (Value K)) → Comes (exp R me e l))

    exp_parts : (x : Exp K) (u v : User K) → ExpPlace e x u v → (l : List (Value K)) → next (exp R me x l) (run_user R me u) ≡ next (exp R me e l) (run_user R me v)
    exp_parts x u v (at_once w) l = refl
    exp_parts x u v (in_value p t ns fs y u1 v1 c d) l =
        let k : Slot K × List (Value K) → Step K (Value K × List (Value K)) = λ r. next (exp R me y r.1) (λ a. next (store_to R r.0 a.0 a.1) (λ m. done (value (a.0, m)))) in
        ap (λ p. next (next p k) (run_user R me u)) (plain_target R me true t ns fs c l) ∙ next_assoc (exp R me y l) (run_wrap R me (assigns t)) (run_user R me u) ∙ exp_parts y (through (assigns t) u) v d l
    exp_parts x u v (in_sign p op y u1 v1 d) l = next_assoc (exp R me y l) (run_wrap R me (signs op)) (run_user R me u) ∙ exp_parts y (through (signs op) u) v d l
    exp_parts x u v (in_cast p c y u1 v1 d) l = next_assoc (exp R me y l) (run_wrap R me (casts_to c)) (run_user R me u) ∙ exp_parts y (through (casts_to c) u) v d l
    exp_parts x u v (in_left p op y b u1 v1 d) l = next_assoc (exp R me y l) (run_wrap R me (operates op b)) (run_user R me u) ∙ exp_parts y (through (operates op b) u) v d l
    exp_parts x u v (in_right p op a y rs u1 v1 c apart d) l =
        let silent = silent_is R true a rs c in
        let first : Value K × List (Value K) → Step K (Value K × List (Value K)) = λ r. next (exp R me y r.1) (λ s. done (with_locals s.1 (operate R.same_class op r.0 s.0))) in
        ap (λ p. next (next p first) (run_user R me u)) (silent.comes me l)
        ∙ ap (λ p. next p (run_user R me u)) (left_behind R me op a rs silent y apart l)
        ∙ next_assoc (exp R me y l) (run_wrap R me (operates_behind op a)) (run_user R me u) ∙ exp_parts y (through (operates_behind op a) u) v d l
    exp_parts x u v (in_and p y b u1 v1 d) l = next_assoc (exp R me y l) (run_wrap R me (ands b)) (run_user R me u) ∙ exp_parts y (through (ands b) u) v d l
    exp_parts x u v (in_or p y b u1 v1 d) l = next_assoc (exp R me y l) (run_wrap R me (ors b)) (run_user R me u) ∙ exp_parts y (through (ors b) u) v d l
    exp_parts x u v (in_argument p m y es u1 v1 d) l =
        let cons : Value K × List (Value K) → Step K (List (Value K) × List (Value K)) = λ r. next (exps R me es r.1) (λ s. done (value (r.0 ∷ s.0, s.1))) in
        let called : List (Value K) × List (Value K) → Step K (Value K × List (Value K)) = λ s. call (invoke m null s.0) (λ o. done (answer s.1 o)) in
        let one : next (next (exp R me y l) cons) called ≡ next (exp R me y l) (run_wrap R me (hands m es)) =
        next_assoc (exp R me y l) cons called ∙ (λ i. next (exp R me y l) (λ r. next_assoc (exps R me es r.1) (λ s. done (value (r.0 ∷ s.0, s.1))) called i)) in
        ap (λ p. next p (run_user R me u)) one ∙ next_assoc (exp R me y l) (run_wrap R me (hands m es)) (run_user R me u) ∙ exp_parts y (through (hands m es) u) v d l

    mutual
      pub list_parts : (b : Stmts K) (bs : List (Piece K)) (u : User K) (zs : List (Sequel K)) → ListPlace own e b bs u zs → NoThrow bs zs → (l : List (Value K)) → stmts R me b l ≡ Parted bs u zs l
      list_parts b bs u zs (in_first a c cs v ys d) n l =
          let on : Flow K → Step K (Flow K) = λ f. on_flow f (λ m. stmts R me c m) in
          let k : List (Value K) → Step K (Flow K) = λ m. next (exp R me e m) (then_on v ys) in
          ap (λ p. next p on) (stmt_parts a cs v ys d (λ h. n (leaves_left ys (follows c ∷ []) h)) l) ∙ next_assoc (run_pieces R me cs l) k on
          ∙ (λ i. next (run_pieces R me cs l) (λ m. (next_assoc (exp R me e m) (then_on v ys) on ∙ (λ j. next (exp R me e m) (λ r. sym (sequels_append ys (follows c ∷ []) (run_user R me v r)) j))) i))
      list_parts b bs u zs (behind_pieces a c cs ds v ys h d) n l =
          list_of_pieces a c cs ds (λ m. next (exp R me e m) (then_on v ys)) (stmt_in_pieces a cs h) (list_parts c ds v ys d (λ i. let g = n i in (g.0, all_right cs ds g.1, g.2))) l

      stmt_parts : (a : Stmt K) (bs : List (Piece K)) (u : User K) (zs : List (Sequel K)) → StmtPlace own e a bs u zs → NoThrow bs zs → (l : List (Value K)) → stmt R me a l ≡ Parted bs u zs l
      stmt_parts a bs u zs (in_declare p i x v d) n l = exp_parts x (declares i) v d l
      stmt_parts a bs u zs (in_eval p x v d) n l = exp_parts x evaluates v d l
      stmt_parts a bs u zs (in_return p x v d) n l = exp_parts x gives v d l
      stmt_parts a bs u zs (in_condition p x y z v d) n l = exp_parts x (chooses y z) v d l
      stmt_parts a bs u zs (in_lock p q x c v d) n l = exp_parts x (locks p q c) v d l
      stmt_parts a bs u zs (in_block p ns c cs v ys d) n l = list_parts c cs v ys d (λ h. let g = n h in (g.0, g.1.1, g.2)) (unset ns l)
      stmt_parts a bs u zs (in_sync p q x c cs v ys nn d) n l =
          let g = n (leaves_right ys (leaves q x ∷ []) tt) in
          let o = monitor_of me x in
          let k : List (Value K) → Step K (Flow K) = λ m. next (exp R me e m) (then_on v ys) in
          let lock : Value K × List (Value K) → Step K (Flow K) = λ r. non_null r.0 (act (placed p (enter r.0)) (leaving q r.0 (stmts R me c r.1))) in
          let entered : Value K × List (Value K) → Step K (List (Value K)) = λ r. act (placed p (enter r.0)) (done (value r.1)) in
          let whole : Step K (Flow K) → Step K (Flow K) = λ s. act (placed p (enter o)) s in
          let inner : leaving q o (stmts R me c l) ≡ next (run_pieces R me cs l) (λ m. next (exp R me e m) (then_on v (ys ++ (leaves q x ∷ [])))) =
          ap (leaving q o) (list_parts c cs v ys d (λ h. (g.0, g.1.1, g.2)) l)
          ∙ leaving_next q o (run_pieces R me cs l) k (pieces_come cs g.1.1 l)
          ∙ (λ i. next (run_pieces R me cs l) (λ m. (leaving_next q o (exp R me e m) (then_on v ys) (g.2 m) ∙ (λ j. next (exp R me e m) (λ r. sym (sequels_append ys (leaves q x ∷ []) (run_user R me v r)) j))) i)) in
          ap (λ s. next s lock) (never_value R me own x nn l) ∙ never_stops R me own x nn g.0 (whole (leaving q o (stmts R me c l))) ∙ ap whole inner
          ∙ ap (λ s. next (next (next s entered) (λ m. run_pieces R me cs m)) (λ m. next (exp R me e m) (then_on v (ys ++ (leaves q x ∷ []))))) (sym (never_value R me own x nn l))

-- ---- where it may return, the list may

sequels_return : {K : Keys} (zs ys : List (Sequel K)) (M : Type 0) → SequelsReturn (zs ++ ys) M → SequelsReturn ys (SequelsReturn zs M)
sequels_return [] ys M h = h
sequels_return (follows b ∷ zs) ys M h = sequels_return zs ys (M ⊎ SomeReturns b) h
sequels_return (leaves q e ∷ zs) ys M h = sequels_return zs ys M h

module _ {K : Keys} (own : Bool) (e : Exp K) where
  exp_returns : (x : Exp K) (u v : User K) → ExpPlace e x u v → UserReturns v → UserReturns u
  exp_returns x u v (at_once w) h = h
  exp_returns x u v (in_value p t ns fs y u1 v1 c d) h = exp_returns y (through (assigns t) u) v d h
  exp_returns x u v (in_sign p op y u1 v1 d) h = exp_returns y (through (signs op) u) v d h
  exp_returns x u v (in_cast p c y u1 v1 d) h = exp_returns y (through (casts_to c) u) v d h
  exp_returns x u v (in_left p op y b u1 v1 d) h = exp_returns y (through (operates op b) u) v d h
  exp_returns x u v (in_right p op a y rs u1 v1 c apart d) h = exp_returns y (through (operates_behind op a) u) v d h
  exp_returns x u v (in_and p y b u1 v1 d) h = exp_returns y (through (ands b) u) v d h
  exp_returns x u v (in_or p y b u1 v1 d) h = exp_returns y (through (ors b) u) v d h
  exp_returns x u v (in_argument p m y es u1 v1 d) h = exp_returns y (through (hands m es) u) v d h

  mutual
    pub list_returns : (b : Stmts K) (bs : List (Piece K)) (u : User K) (zs : List (Sequel K)) → ListPlace own e b bs u zs → SequelsReturn zs (UserReturns u) → SomeReturns b
    list_returns b bs u zs (in_first a c cs v ys d) h = ⊎_elim (λ i. inl (stmt_returns a cs v ys d i)) (λ i. inr i) (sequels_return ys (follows c ∷ []) (UserReturns v) h)
    list_returns b bs u zs (behind_pieces a c cs ds v ys i d) h = inr (list_returns c ds v ys d h)

    stmt_returns : (a : Stmt K) (bs : List (Piece K)) (u : User K) (zs : List (Sequel K)) → StmtPlace own e a bs u zs → SequelsReturn zs (UserReturns u) → Returns a
    stmt_returns a bs u zs (in_declare p i x v d) h = exp_returns x (declares i) v d h
    stmt_returns a bs u zs (in_eval p x v d) h = exp_returns x evaluates v d h
    stmt_returns a bs u zs (in_return p x v d) h = exp_returns x gives v d h
    stmt_returns a bs u zs (in_condition p x y z v d) h = exp_returns x (chooses y z) v d h
    stmt_returns a bs u zs (in_lock p q x c v d) h = exp_returns x (locks p q c) v d h
    stmt_returns a bs u zs (in_block p ns c cs v ys d) h = list_returns c cs v ys d h
    stmt_returns a bs u zs (in_sync p q x c cs v ys nn d) h = list_returns c cs v ys d (sequels_return ys (leaves q x ∷ []) (UserReturns v) h)
