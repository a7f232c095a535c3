-- Where an expression stands in a statement list: what is done before it, and what with its value.
use Rattle.std.specs.Prelude.{◌≡◌, ◌⊎◌, ℕ, Bool, true, false, List, [], ◌∷◌, ◌++◌, Some, IsTrue}
use Rattle.jr_plans.specs.Plan.{done, act, call}
use Rattle.jr_runs.specs.Keys.{Keys, At}
use Rattle.jr_runs.specs.Values.{Value, truth, null, text, class_object}
use Rattle.jr_runs.specs.Actions.{enter, placed}
use Rattle.jr_runs.specs.Rows.{Rows}
use Rattle.jr_runs.specs.Fitting.{is_instance}
use Rattle.jr_runs.specs.Arithmetic.{value, operate, sign}
use Rattle.jr_runs.specs.Core as core
use Rattle.jr_runs.specs.Core.{Operator, Sign, Exp, Target, Exps, Stmt, Stmts}
use Rattle.jr_runs.specs.Evaluation.{Flow, goes_on, returns, invoke, Step, next, non_null}
use Rattle.jr_runs.specs.Evaluation.{on_truth, Slot, in_local, in_static, in_object, store_to}
use Rattle.jr_runs.specs.Evaluation.{with_locals, cast_value, answer, with_local, unset, leaving}
use Rattle.jr_runs.specs.Evaluation.{exp, exps, on_flow, stmt, stmts}
use Rattle.jr_runs.specs.KeyMaps.{KeyMap}
use Rattle.jr_runs.specs.Sets.{NumberSet, with_one, with_all, Within}
use Rattle.jr_runs.specs.Standing.{itself, Renumbering, Standing, In, IsFree}
use Rattle.jr_runs.specs.Images.{Writable, behind_write, ExpTo, ExpsTo, BlockTo, NoSpot, StmtTo}
use Rattle.jr_runs.specs.Images.{StmtsTo}
use Rattle.jr_runs.specs.Pairs.{Returns, SomeReturns}
use Rattle.jr_runs_held.specs.Footprint.{Access, enters, CalmTarget, Calm, NeverNull, writes_in}

-- ---- what is done before

pub data Piece (K : Keys) : Type 0 where
  declared : (number : ℕ) (init : Exp K) → Piece K
  evaluated : (of : Exp K) → Piece K
  -- a block begins
  opened : (locals : List ℕ) → Piece K
  -- a monitor is entered
  locked : (entered : At K) (lock : Exp K) → Piece K

abbrev pub run_piece : {K : Keys} → Rows K → Value K → Piece K → List (Value K)
    → Step K (List (Value K))
run_piece R me (declared n e) l =
    next (exp R me e l) (λ r. done (value (with_local r.1 n r.0)))
run_piece R me (evaluated e) l = next (exp R me e l) (λ r. done (value r.1))
run_piece R me (opened ns) l = done (value (unset ns l))
run_piece R me (locked p e) l =
    next (exp R me e l) (λ r. act (placed p (enter r.0)) (done (value r.1)))

abbrev pub run_pieces : {K : Keys} → Rows K → Value K → List (Piece K) → List (Value K)
    → Step K (List (Value K))
run_pieces R me [] l = done (value l)
run_pieces R me (b ∷ bs) l = next (run_piece R me b l) (λ m. run_pieces R me bs m)

pub data CalmPiece {K : Keys} (own : Bool) : Piece K → List ℕ → List ℕ → List (Access K)
    → Type 0 where
  calm_declared : (n : ℕ) (e : Exp K) (rs ws : List ℕ) (xs : List (Access K)) → Calm own e rs ws xs
      → CalmPiece own (declared n e) rs (ws ++ (n ∷ [])) xs
  calm_evaluated : (e : Exp K) (rs ws : List ℕ) (xs : List (Access K)) → Calm own e rs ws xs
      → CalmPiece own (evaluated e) rs ws xs
  calm_opened : (ns : List ℕ) → CalmPiece own (opened ns) [] ns []
  calm_locked : (p : At K) (e : Exp K) → NeverNull own e
      → CalmPiece own (locked p e) [] [] (enters ∷ [])

pub data CalmPieces {K : Keys} (own : Bool) : List (Piece K) → List ℕ → List ℕ → List (Access K)
    → Type 0 where
  calm_none : CalmPieces own [] [] [] []
  calm_more : (b : Piece K) (bs : List (Piece K)) (rs ws rs' ws' : List ℕ)
      (xs xs' : List (Access K))
      → CalmPiece own b rs ws xs → CalmPieces own bs rs' ws' xs'
      → CalmPieces own (b ∷ bs) (rs ++ rs') (ws ++ ws') (xs ++ xs')

-- The statement is these pieces: nothing else is done, and it doesn't return.
mutual
  pub data InPieces {K : Keys} : Stmt K → List (Piece K) → Type 0 where
    one_declared : (p : At K) (n : ℕ) (e : Exp K)
        → InPieces (core.declare p n e) (declared n e ∷ [])
    one_evaluated : (p : At K) (e : Exp K) → InPieces (core.eval p e) (evaluated e ∷ [])
    one_empty : (p : At K) → InPieces (core.empty p) []
    in_a_block : (p : At K) (ns : List ℕ) (b : Stmts K) (bs : List (Piece K)) → AllInPieces b bs
        → InPieces (core.block p ns b) (opened ns ∷ bs)

  pub data AllInPieces {K : Keys} : Stmts K → List (Piece K) → Type 0 where
    no_more_pieces : AllInPieces core.Stmts.end []
    more_pieces : (a : Stmt K) (b : Stmts K) (cs bs : List (Piece K)) → InPieces a cs
        → AllInPieces b bs
        → AllInPieces (core.Stmts.more a b) (cs ++ bs)

-- ---- what is done with the value, and then

-- an expression around it, of which it is evaluated first
pub data Wrap (K : Keys) : Type 0 where
  assigns : (to : Target K) → Wrap K
  signs : (op : Sign) → Wrap K
  casts_to : (class : K.class) → Wrap K
  operates : (op : Operator) (right : Exp K) → Wrap K
  -- the left operand is silent, and does as well behind it
  operates_behind : (op : Operator) (left : Exp K) → Wrap K
  ands : (right : Exp K) → Wrap K
  ors : (right : Exp K) → Wrap K
  -- the first argument of a static call
  hands : (method : K.method) (others : Exps K) → Wrap K

-- what uses the value: expressions around it, and the statement whose expression it is
pub data User (K : Keys) : Type 0 where
  through : (wrap : Wrap K) (then : User K) → User K
  declares : (number : ℕ) → User K
  evaluates : User K
  gives : User K
  chooses : (then otherwise : Stmt K) → User K
  locks : (entered exited : At K) (body : Stmts K) → User K

-- what comes behind the statement: the rest of its list, or that a monitor is left
pub data Sequel (K : Keys) : Type 0 where
  follows : (rest : Stmts K) → Sequel K
  leaves : (exited : At K) (lock : Exp K) → Sequel K

-- the object of a lock that never is null
abbrev pub monitor_of : {K : Keys} → Value K → Exp K → Value K
monitor_of me (core.literal p v) = v
monitor_of me (core.this p) = me
monitor_of me (core.read p t) = null
monitor_of me (core.assign p t e) = null
monitor_of me (core.compound p op t e) = null
monitor_of me (core.bump p op t) = null
monitor_of me (core.signed p op e) = null
monitor_of me (core.binary p op a b) = null
monitor_of me (core.both p a b) = null
monitor_of me (core.either p a b) = null
monitor_of me (core.cast p c e) = null
monitor_of me (core.static_call p m es) = null
monitor_of me (core.instance_call p e m es) = null
monitor_of me (core.super_call p e m es) = null
monitor_of me (core.create p c k es) = null
monitor_of me (core.super_constructor p e k es) = null

-- what a target comes to, where its object is `this`
abbrev pub slot_of : {K : Keys} → Value K → Target K → Slot K
slot_of me (core.local p n) = in_local n
slot_of me (core.static_field p f) = in_static p f
slot_of me (core.field_of p e f) = in_object p me f

abbrev pub run_wrap : {K : Keys} → Rows K → Value K → Wrap K → Value K × List (Value K)
    → Step K (Value K × List (Value K))
run_wrap R me (assigns t) r =
    next (store_to R (slot_of me t) r.0 r.1) (λ m. done (value (r.0, m)))
run_wrap R me (signs op) r = done (value (sign op r.0, r.1))
run_wrap R me (casts_to c) r = done (with_locals r.1 (cast_value (is_instance R c r.0) r.0))
run_wrap R me (operates op b) r = next (exp R me b r.1) (λ s.
    done (with_locals s.1 (operate R.same_class op r.0 s.0)))
run_wrap R me (operates_behind op a) r = next (exp R me a r.1) (λ s.
    done (with_locals s.1 (operate R.same_class op s.0 r.0)))
run_wrap R me (ands b) r = on_truth r.0 (exp R me b r.1) (done (value (truth false, r.1)))
run_wrap R me (ors b) r = on_truth r.0 (done (value (truth true, r.1))) (exp R me b r.1)
run_wrap R me (hands m es) r = next (exps R me es r.1) (λ s.
    call (invoke m null (r.0 ∷ s.0)) (λ o. done (answer s.1 o)))

abbrev pub run_user : {K : Keys} → Rows K → Value K → User K → Value K × List (Value K)
    → Step K (Flow K)
run_user R me (through w u) r = next (run_wrap R me w r) (λ s. run_user R me u s)
run_user R me (declares n) r = done (value (goes_on (with_local r.1 n r.0)))
run_user R me evaluates r = done (value (goes_on r.1))
run_user R me gives r = done (value (returns (Some r.0)))
run_user R me (chooses a b) r = on_truth r.0 (stmt R me a r.1) (stmt R me b r.1)
run_user R me (locks p q b) r =
    non_null r.0 (act (placed p (enter r.0)) (leaving q r.0 (stmts R me b r.1)))

-- the innermost first
abbrev pub run_sequels : {K : Keys} → Rows K → Value K → List (Sequel K) → Step K (Flow K)
    → Step K (Flow K)
run_sequels R me [] p = p
run_sequels R me (follows b ∷ zs) p =
    run_sequels R me zs (next p (λ f. on_flow f (λ m. stmts R me b m)))
run_sequels R me (leaves q e ∷ zs) p = run_sequels R me zs (leaving q (monitor_of me e) p)

-- ---- the place

-- The expression e is evaluated first in another one, but for silent operands before it. If that
-- one's value is used by the first user, e's is by the second.
pub data ExpPlace {K : Keys} (e : Exp K) : Exp K → User K → User K → Type 0 where
  at_once : (u : User K) → ExpPlace e e u u
  in_value : (p : At K) (t : Target K) (ns : List ℕ) (fs : List K.field) (x : Exp K)
      (u v : User K)
      → CalmTarget true t ns fs → ExpPlace e x (through (assigns t) u) v
      → ExpPlace e (core.assign p t x) u v
  in_sign : (p : At K) (op : Sign) (x : Exp K) (u v : User K)
      → ExpPlace e x (through (signs op) u) v
      → ExpPlace e (core.signed p op x) u v
  in_cast : (p : At K) (c : K.class) (x : Exp K) (u v : User K)
      → ExpPlace e x (through (casts_to c) u) v
      → ExpPlace e (core.cast p c x) u v
  in_left : (p : At K) (op : Operator) (x b : Exp K) (u v : User K)
      → ExpPlace e x (through (operates op b) u) v
      → ExpPlace e (core.binary p op x b) u v
  in_right : (p : At K) (op : Operator) (a x : Exp K) (reads : List ℕ) (u v : User K)
      → Calm true a reads [] []
      → ((i : ℕ) → In i reads → In i (writes_in x) → ⊥)
      → ExpPlace e x (through (operates_behind op a) u) v
      → ExpPlace e (core.binary p op a x) u v
  in_and : (p : At K) (x b : Exp K) (u v : User K) → ExpPlace e x (through (ands b) u) v
      → ExpPlace e (core.both p x b) u v
  in_or : (p : At K) (x b : Exp K) (u v : User K) → ExpPlace e x (through (ors b) u) v
      → ExpPlace e (core.either p x b) u v
  in_argument : (p : At K) (m : K.method) (x : Exp K) (es : Exps K) (u v : User K)
      → ExpPlace e x (through (hands m es) u) v
      → ExpPlace e (core.static_call p m (core.Exps.more x es)) u v

-- The expression e stands in the list or statement behind these pieces; then come this user and
-- these sequels.
mutual
  pub data ListPlace {K : Keys} (own : Bool) (e : Exp K) : Stmts K → List (Piece K) → User K
      → List (Sequel K) → Type 0 where
    in_first : (a : Stmt K) (b : Stmts K) (bs : List (Piece K)) (u : User K) (zs : List (Sequel K))
        → StmtPlace own e a bs u zs
        → ListPlace own e (core.Stmts.more a b) bs u (zs ++ (follows b ∷ []))
    behind_pieces : (a : Stmt K) (b : Stmts K) (cs bs : List (Piece K)) (u : User K)
        (zs : List (Sequel K))
        → InPieces a cs → ListPlace own e b bs u zs
        → ListPlace own e (core.Stmts.more a b) (cs ++ bs) u zs

  pub data StmtPlace {K : Keys} (own : Bool) (e : Exp K) : Stmt K → List (Piece K) → User K
      → List (Sequel K) → Type 0 where
    in_declare : (p : At K) (n : ℕ) (x : Exp K) (v : User K) → ExpPlace e x (declares n) v
        → StmtPlace own e (core.declare p n x) [] v []
    in_eval : (p : At K) (x : Exp K) (v : User K) → ExpPlace e x evaluates v
        → StmtPlace own e (core.eval p x) [] v []
    in_return : (p : At K) (x : Exp K) (v : User K) → ExpPlace e x gives v
        → StmtPlace own e (core.return p x) [] v []
    in_condition : (p : At K) (x : Exp K) (a b : Stmt K) (v : User K)
        → ExpPlace e x (chooses a b) v
        → StmtPlace own e (core.branch p x a b) [] v []
    in_lock : (p q : At K) (x : Exp K) (b : Stmts K) (v : User K) → ExpPlace e x (locks p q b) v
        → StmtPlace own e (core.sync p q x b) [] v []
    in_block : (p : At K) (ns : List ℕ) (b : Stmts K) (bs : List (Piece K)) (u : User K)
        (zs : List (Sequel K))
        → ListPlace own e b bs u zs
        → StmtPlace own e (core.block p ns b) (opened ns ∷ bs) u zs
    in_sync : (p q : At K) (x : Exp K) (b : Stmts K) (bs : List (Piece K)) (u : User K)
        (zs : List (Sequel K))
        → NeverNull own x → ListPlace own e b bs u zs
        → StmtPlace own e (core.sync p q x b) (locked p x ∷ bs) u (zs ++ (leaves q x ∷ []))

-- ---- which may return

abbrev pub UserReturns : {K : Keys} → User K → Type 0
UserReturns (through w u) = UserReturns u
UserReturns (declares n) = ⊥
UserReturns evaluates = ⊥
UserReturns gives = Unit {0}
UserReturns (chooses a b) = Returns a ⊎ Returns b
UserReturns (locks p q b) = SomeReturns b

-- M: may what stands within return?
abbrev pub SequelsReturn : {K : Keys} → List (Sequel K) → Type 0 → Type 0
SequelsReturn [] M = M
SequelsReturn (follows b ∷ zs) M = SequelsReturn zs (M ⊎ SomeReturns b)
SequelsReturn (leaves q e ∷ zs) M = SequelsReturn zs M

-- ---- two programs

-- the monitor of a lock that never is null, and its image
pub data LockTo {K : Keys} (r : KeyMap K) (s : Renumbering K) : Exp K → Exp K → Type 0 where
  to_own_lock : (p q : At K) → s.self ≡ itself → LockTo r s (core.this p) (core.this q)
  to_text_lock : (p q : At K) (t : List ℕ)
      → LockTo r s (core.literal p (text t)) (core.literal q (text t))
  to_class_lock : (p q : At K) (c : K.class)
      → LockTo r s (core.literal p (class_object c)) (core.literal q (class_object (r.class c)))

pub data PieceTo {K : Keys} (r : KeyMap K) (R : Rows K) (s : Standing K)
    : NumberSet → Piece K → Piece K → NumberSet → Type 0 where
  to_declared : (A B C : NumberSet) (n : ℕ) (e e' : Exp K) → IsFree s.code n
      → ExpTo r R s.code A e e' B → Within C (with_one B n)
      → PieceTo r R s A (declared n e) (declared (s.code.at n) e') C
  to_evaluated : (A B : NumberSet) (e e' : Exp K) → ExpTo r R s.code A e e' B
      → PieceTo r R s A (evaluated e) (evaluated e') B
  to_opened : (A B : NumberSet) (ns ns' : List ℕ) → BlockTo s ns ns' → Within B (with_all A ns)
      → PieceTo r R s A (opened ns) (opened ns') B
  to_locked : (A : NumberSet) (p q : At K) (e e' : Exp K) → LockTo r s.code e e'
      → PieceTo r R s A (locked p e) (locked q e') A

pub data PiecesTo {K : Keys} (r : KeyMap K) (R : Rows K) (s : Standing K)
    : NumberSet → List (Piece K) → List (Piece K) → NumberSet → Type 0 where
  to_no_piece : (A : NumberSet) → PiecesTo r R s A [] [] A
  to_pieces : (A B C : NumberSet) (b b' : Piece K) (bs bs' : List (Piece K))
      → PieceTo r R s A b b' B → PiecesTo r R s B bs bs' C
      → PiecesTo r R s A (b ∷ bs) (b' ∷ bs') C

-- what a target whose object is `this` becomes
pub data PlainTo {K : Keys} (r : KeyMap K) (s : Renumbering K) : Target K → Target K
    → Type 0 where
  plain_local : (p q : At K) (n : ℕ) → In n s.mine
      → PlainTo r s (core.local p n) (core.local q (s.at n))
  plain_static : (p q : At K) (f : K.field)
      → PlainTo r s (core.static_field p f) (core.static_field q (r.field f))
  plain_own : (p q x y : At K) (f : K.field) → s.self ≡ itself
      → PlainTo r s (core.field_of p (core.this x) f)
      (core.field_of q (core.this y) (r.field f))

pub data WrapTo {K : Keys} (r : KeyMap K) (R : Rows K) (s : Standing K)
    : NumberSet → Wrap K → Wrap K → NumberSet → Type 0 where
  to_assigns : (A B : NumberSet) (t t' : Target K) → PlainTo r s.code t t' → Writable s.code t
      → Within B (behind_write A t)
      → WrapTo r R s A (assigns t) (assigns t') B
  to_signs : (A : NumberSet) (op : Sign) → WrapTo r R s A (signs op) (signs op) A
  to_casts : (A : NumberSet) (c : K.class)
      → WrapTo r R s A (casts_to c) (casts_to (r.class c)) A
  to_operates : (A B : NumberSet) (op : Operator) (b b' : Exp K) → ExpTo r R s.code A b b' B
      → WrapTo r R s A (operates op b) (operates op b') B
  to_operates_behind : (A B : NumberSet) (op : Operator) (a a' : Exp K)
      → ExpTo r R s.code A a a' B
      → WrapTo r R s A (operates_behind op a) (operates_behind op a') B
  to_ands : (A B C : NumberSet) (b b' : Exp K) → ExpTo r R s.code A b b' B → Within C A
      → Within C B
      → WrapTo r R s A (ands b) (ands b') C
  to_ors : (A B C : NumberSet) (b b' : Exp K) → ExpTo r R s.code A b b' B → Within C A
      → Within C B
      → WrapTo r R s A (ors b) (ors b') C
  to_hands : (A B : NumberSet) (m : K.method) (es es' : Exps K) → IsTrue (R.has_method m)
      → ExpsTo r R s.code A es es' B
      → WrapTo r R s A (hands m es) (hands (r.method m) es') B

pub data UserTo {K : Keys} (r : KeyMap K) (R : Rows K) (s : Standing K)
    : NumberSet → User K → User K → NumberSet → Type 0 where
  to_through : (A B C : NumberSet) (w w' : Wrap K) (u u' : User K) → WrapTo r R s A w w' B
      → UserTo r R s B u u' C
      → UserTo r R s A (through w u) (through w' u') C
  to_declares : (A C : NumberSet) (n : ℕ) → IsFree s.code n → Within C (with_one A n)
      → UserTo r R s A (declares n) (declares (s.code.at n)) C
  to_evaluates : (A : NumberSet) → UserTo r R s A evaluates evaluates A
  to_gives : (A C : NumberSet) → UserTo r R s A gives gives C
  to_chooses : (A C D E : NumberSet) (a a' b b' : Stmt K)
      → StmtTo r R NoSpot s A a a' C → StmtTo r R NoSpot s A b b' D → Within E C → Within E D
      → UserTo r R s A (chooses a b) (chooses a' b') E
  to_locks : (A C : NumberSet) (p q p' q' : At K) (b b' : Stmts K)
      → StmtsTo r R NoSpot s A b b' C
      → UserTo r R s A (locks p q b) (locks p' q' b') C

pub data SequelsTo {K : Keys} (r : KeyMap K) (R : Rows K) (s : Standing K)
    : NumberSet → List (Sequel K) → List (Sequel K) → NumberSet → Type 0 where
  to_no_sequel : (A : NumberSet) → SequelsTo r R s A [] [] A
  to_follows : (A B C : NumberSet) (b b' : Stmts K) (zs zs' : List (Sequel K))
      → StmtsTo r R NoSpot s A b b' B → SequelsTo r R s B zs zs' C
      → SequelsTo r R s A (follows b ∷ zs) (follows b' ∷ zs') C
  to_leaves : (A C : NumberSet) (p q : At K) (e e' : Exp K) (zs zs' : List (Sequel K))
      → LockTo r s.code e e' → SequelsTo r R s A zs zs' C
      → SequelsTo r R s A (leaves p e ∷ zs) (leaves q e' ∷ zs') C
