-- What is evaluated in a run of a member: its pieces of code, each with the locals that it is
-- evaluated with.
use Rattle.std.specs.Prelude.{◌≡◌, ℕ, Bool, true, false, List}
use Rattle.jr_plans.specs.Reach.{Ends, anyhow}
use Rattle.jr_runs.specs.Keys.{Keys, At}
use Rattle.jr_runs.specs.Values.{Value, truth, text, class_object}
use Rattle.jr_runs.specs.Actions.{Event}
use Rattle.jr_runs.specs.Arithmetic.{value}
use Rattle.jr_runs.specs.Core as core
use Rattle.jr_runs.specs.Core.{Exp, Target, Exps, Stmt, Stmts, Program}
use Rattle.jr_runs.specs.Evaluation.{
  goes_on,
  Step,
  Slot,
  load_from,
  unset,
  exp,
  target,
  stmt,
  table,
}

pub data Piece (K : Keys) : Type 0 where
  an_exp : (of : Exp K) (locals : List (Value K)) → Piece K
  a_target : (of : Target K) (locals : List (Value K)) → Piece K
  an_args : (of : Exps K) (locals : List (Value K)) → Piece K
  a_stmt : (of : Stmt K) (locals : List (Value K)) → Piece K
  a_list : (of : Stmts K) (locals : List (Value K)) → Piece K
  a_turn : (condition : Exp K) (body : Stmt K) (locals : List (Value K)) → Piece K

module _ {K : Keys} (P : Program K) (me : Value K) where
  -- in some run it comes to this
  abbrev pub Gives : {A : Type 0} → Step K A → A → Type 0
  Gives x a = (t : List (Event K)) × Ends (anyhow (table P)) x t (value a)

  -- the second piece is evaluated as a part of the first one
  pub data Part : Piece K → Piece K → Type 0 where
    read : (p : At K) (t : Target K) (l : List (Value K))
        → Part (an_exp (core.read p t) l) (a_target t l)
    assigned : (p : At K) (t : Target K) (e : Exp K) (l : List (Value K))
        → Part (an_exp (core.assign p t e) l) (a_target t l)
    right : (p : At K) (t : Target K) (e : Exp K) (l m : List (Value K)) (x : Slot K)
        → Gives (target P.rows me t l) (x, m) → Part (an_exp (core.assign p t e) l) (an_exp e m)
    changed : (p : At K) (o : core.Arithmetic) (t : Target K) (e : Exp K) (l : List (Value K))
        → Part (an_exp (core.compound p o t e) l) (a_target t l)
    by : (p : At K) (o : core.Arithmetic) (t : Target K) (e : Exp K) (l m : List (Value K))
        (x : Slot K) (v : Value K) → Gives (target P.rows me t l) (x, m)
        → Gives (load_from P.rows x m) v → Part (an_exp (core.compound p o t e) l) (an_exp e m)
    bumped : (p : At K) (o : core.Bump) (t : Target K) (l : List (Value K))
        → Part (an_exp (core.bump p o t) l) (a_target t l)
    signed : (p : At K) (o : core.Sign) (e : Exp K) (l : List (Value K))
        → Part (an_exp (core.signed p o e) l) (an_exp e l)
    first : (p : At K) (o : core.Operator) (a b : Exp K) (l : List (Value K))
        → Part (an_exp (core.binary p o a b) l) (an_exp a l)
    second : (p : At K) (o : core.Operator) (a b : Exp K) (l m : List (Value K)) (v : Value K)
        → Gives (exp P.rows me a l) (v, m) → Part (an_exp (core.binary p o a b) l) (an_exp b m)
    both_first : (p : At K) (a b : Exp K) (l : List (Value K))
        → Part (an_exp (core.both p a b) l) (an_exp a l)
    both_second : (p : At K) (a b : Exp K) (l m : List (Value K))
        → Gives (exp P.rows me a l) (truth true, m)
        → Part (an_exp (core.both p a b) l) (an_exp b m)
    either_first : (p : At K) (a b : Exp K) (l : List (Value K))
        → Part (an_exp (core.either p a b) l) (an_exp a l)
    either_second : (p : At K) (a b : Exp K) (l m : List (Value K)) (v : Value K)
        → (v ≡ truth true → ⊥) → Gives (exp P.rows me a l) (v, m)
        → Part (an_exp (core.either p a b) l) (an_exp b m)
    cast : (p : At K) (c : K.class) (e : Exp K) (l : List (Value K))
        → Part (an_exp (core.cast p c e) l) (an_exp e l)
    static_args : (p : At K) (m : K.method) (es : Exps K) (l : List (Value K))
        → Part (an_exp (core.static_call p m es) l) (an_args es l)
    receiver : (p : At K) (e : Exp K) (m : K.method) (es : Exps K) (l : List (Value K))
        → Part (an_exp (core.instance_call p e m es) l) (an_exp e l)
    call_args : (p : At K) (e : Exp K) (m : K.method) (es : Exps K) (l k : List (Value K))
        (v : Value K) → Gives (exp P.rows me e l) (v, k)
        → Part (an_exp (core.instance_call p e m es) l) (an_args es k)
    super_receiver : (p : At K) (e : Exp K) (m : K.method) (es : Exps K) (l : List (Value K))
        → Part (an_exp (core.super_call p e m es) l) (an_exp e l)
    super_args : (p : At K) (e : Exp K) (m : K.method) (es : Exps K) (l k : List (Value K))
        (v : Value K) → Gives (exp P.rows me e l) (v, k)
        → Part (an_exp (core.super_call p e m es) l) (an_args es k)
    new_args : (p : At K) (c : K.class) (k : K.constructor) (es : Exps K) (l : List (Value K))
        → Part (an_exp (core.create p c k es) l) (an_args es l)
    built : (p : At K) (e : Exp K) (k : K.constructor) (es : Exps K) (l : List (Value K))
        → Part (an_exp (core.super_constructor p e k es) l) (an_exp e l)
    built_args : (p : At K) (e : Exp K) (k : K.constructor) (es : Exps K) (l m : List (Value K))
        (v : Value K) → Gives (exp P.rows me e l) (v, m)
        → Part (an_exp (core.super_constructor p e k es) l) (an_args es m)
    of_field : (p : At K) (e : Exp K) (f : K.field) (l : List (Value K))
        → Part (a_target (core.field_of p e f) l) (an_exp e l)
    arg : (e : Exp K) (es : Exps K) (l : List (Value K))
        → Part (an_args (core.Exps.more e es) l) (an_exp e l)
    args : (e : Exp K) (es : Exps K) (l m : List (Value K)) (v : Value K)
        → Gives (exp P.rows me e l) (v, m) → Part (an_args (core.Exps.more e es) l) (an_args es m)
    init : (p : At K) (n : ℕ) (e : Exp K) (l : List (Value K))
        → Part (a_stmt (core.declare p n e) l) (an_exp e l)
    eval : (p : At K) (e : Exp K) (l : List (Value K))
        → Part (a_stmt (core.eval p e) l) (an_exp e l)
    test : (p : At K) (c : Exp K) (a b : Stmt K) (l : List (Value K))
        → Part (a_stmt (core.branch p c a b) l) (an_exp c l)
    yes_branch : (p : At K) (c : Exp K) (a b : Stmt K) (l m : List (Value K))
        → Gives (exp P.rows me c l) (truth true, m)
        → Part (a_stmt (core.branch p c a b) l) (a_stmt a m)
    no_branch : (p : At K) (c : Exp K) (a b : Stmt K) (l m : List (Value K)) (v : Value K)
        → (v ≡ truth true → ⊥) → Gives (exp P.rows me c l) (v, m)
        → Part (a_stmt (core.branch p c a b) l) (a_stmt b m)
    looped : (p : At K) (c : Exp K) (b : Stmt K) (l : List (Value K))
        → Part (a_stmt (core.loop p c b) l) (a_turn c b l)
    turn_test : (c : Exp K) (b : Stmt K) (l : List (Value K)) → Part (a_turn c b l) (an_exp c l)
    turn_body : (c : Exp K) (b : Stmt K) (l m : List (Value K))
        → Gives (exp P.rows me c l) (truth true, m) → Part (a_turn c b l) (a_stmt b m)
    turn_next : (c : Exp K) (b : Stmt K) (l m k : List (Value K))
        → Gives (exp P.rows me c l) (truth true, m) → Gives (stmt P.rows me b m) (goes_on k)
        → Part (a_turn c b l) (a_turn c b k)
    returned : (p : At K) (e : Exp K) (l : List (Value K))
        → Part (a_stmt (core.return p e) l) (an_exp e l)
    in_block : (p : At K) (ns : List ℕ) (b : Stmts K) (l : List (Value K))
        → Part (a_stmt (core.block p ns b) l) (a_list b (unset ns l))
    lock : (p q : At K) (e : Exp K) (b : Stmts K) (l : List (Value K))
        → Part (a_stmt (core.sync p q e b) l) (an_exp e l)
    in_monitor : (p q : At K) (e : Exp K) (b : Stmts K) (l m : List (Value K)) (v : Value K)
        → Gives (exp P.rows me e l) (v, m) → Part (a_stmt (core.sync p q e b) l) (a_list b m)
    front : (s : Stmt K) (b : Stmts K) (l : List (Value K))
        → Part (a_list (core.Stmts.more s b) l) (a_stmt s l)
    behind : (s : Stmt K) (b : Stmts K) (l m : List (Value K))
        → Gives (stmt P.rows me s l) (goes_on m)
        → Part (a_list (core.Stmts.more s b) l) (a_list b m)

  -- it is the piece, or a part of a part of it
  pub data Evaluated (whole : Piece K) : Piece K → Type 0 where
    itself : Evaluated whole whole
    part : (x y : Piece K) → Evaluated whole x → Part x y → Evaluated whole y

-- ---- never null: N tells which locals hold such values

abbrev pub is_never_null : {K : Keys} → (ℕ → Bool) → Exp K → Bool
is_never_null N (core.literal p (text t)) = true
is_never_null N (core.literal p (class_object c)) = true
is_never_null N (core.literal p v) = false
is_never_null N (core.this p) = true
is_never_null N (core.create p c k es) = true
is_never_null N (core.read p (core.local q n)) = N n
is_never_null N e = false
