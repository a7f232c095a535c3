-- Reading statements token by token, over the machine for expressions: what has been begun stands
-- on a stack. The marks are any that can be joined.
use Rattle.std.specs.Prelude.{
  Bool,
  true,
  false,
  List,
  [],
  ◌∷◌,
  Option,
  Some,
  None,
  if◌then◌else◌,
  option_map,
  option_and_then,
}
use Rattle.jr_ast.specs.declared.operators.ModWord.{ModWord}
use Rattle.jr_ast.specs.declared.operators.ModWord.TheVariants.{Final, Synchronized}
use Rattle.jr_ast.specs.Tree.{Word, TypeName, Exp}
use Rattle.jr_ast.specs.StatementTree.{
  Stmt,
  local,
  eval,
  branch,
  loop,
  return,
  block,
  sync,
  empty,
  no_else,
  otherwise,
  Stmts,
  end,
  more,
}
use Rattle.jr_ast.specs.Marks.{type_mark, exp_mark, stmt_mark}
use Rattle.jr_grammar.specs.Tokens.{Token}
use Rattle.jr_pexpr.specs.Machine as E
use Rattle.jr_pexpr.specs.Starts.{type_read}
use Rattle.jr_pstmt.specs.Cues.{
  Primitive,
  Cue,
  a_word,
  a_primitive,
  a_modifier,
  an_if,
  an_else,
  a_while,
  a_return,
  an_open_brace,
  a_close_brace,
  a_semicolon,
  at_semicolon,
  at_open,
  at_close,
  at_open_brace,
  at_equals,
  cue_of,
}
use Rattle.jr_pstmt.specs.Inside.{inner}
use Rattle.jr_pstmt.specs.TypeMachine as T

-- what has been begun, and waits for a statement or its closing brace
pub data Frame (A : Type 0) : Type 0 where
  in_block : (start : A) (items : Stmts A) → Frame A
  in_sync : (start : A) (lock : Exp A) (items : Stmts A) → Frame A
  in_then : (start : A) (condition : Exp A) → Frame A
  in_else : (start : A) (condition : Exp A) (first : Stmt A) → Frame A
  in_loop : (start : A) (condition : Exp A) → Frame A

-- what an expression in parentheses stands behind
pub data Head : Type 0 where
  if_head : Head
  while_head : Head
  sync_head : Head

-- what an expression is to become a part of
pub data Slot (A : Type 0) : Type 0 where
  for_local : (start : A) (is_final : Bool) (type : TypeName A) (word : Word A) → Slot A
  for_return : (start : A) → Slot A
  for_head : (start : A) (head : Head) → Slot A

-- `on` has what was begun, the innermost first; `all` is the list of statements below it.
pub data State (A : Type 0) : Type 0 where
  -- a statement may come, or the end of the innermost list
  ready : (on : List (Frame A)) (all : Stmts A) → State A
  -- behind a statement
  done : (on : List (Frame A)) (all : Stmts A) (stmt : Stmt A) → State A
  -- behind `if`, `while` or `synchronized`
  headed : (on : List (Frame A)) (all : Stmts A) (start : A) (head : Head) → State A
  -- behind `return`
  returning : (on : List (Frame A)) (all : Stmts A) (start : A) → State A
  -- in an expression
  in_exp : (on : List (Frame A)) (all : Stmts A) (slot : Slot A) (exp : E.State A) → State A
  -- in a statement expression, or in what may still become the type of a local
  in_eval : (on : List (Frame A)) (all : Stmts A) (exp : E.State A) → State A
  -- behind the lock of `synchronized`
  locked : (on : List (Frame A)) (all : Stmts A) (start : A) (lock : Exp A) → State A
  -- in the type of a local
  in_type : (on : List (Frame A)) (all : Stmts A) (start : A) (is_final : Bool) (type : T.State A) →
      State A
  -- behind the word of a local
  named : (on : List (Frame A)) (all : Stmts A) (start : A) (is_final : Bool) (type : TypeName A)
      (word : Word A) → State A

abbrev pub start : {A : Type 0} → State A
start = ready [] end

abbrev pub with_stmt : {A : Type 0} → Stmts A → Stmt A → Stmts A
with_stmt end s = more s end
with_stmt (more d ss) s = more d (with_stmt ss s)

-- ---- behind a statement

-- a stack and the list below it
pub record Place (A : Type 0) : Type 0 where
  pub on : List (Frame A)
  pub all : Stmts A

abbrev pub place : {A : Type 0} → List (Frame A) → Stmts A → Place A
place fs all = record { on = fs; all = all }

-- the statement goes into the innermost list, and ends each `if`, `else` and `while` that stands
-- before it
abbrev pub ended : {A : Type 0} → (A → A → A) → List (Frame A) → Stmts A → Stmt A → Place A
ended join [] all s = place [] (with_stmt all s)
ended join (in_block m ss ∷ fs) all s = place (in_block m (with_stmt ss s) ∷ fs) all
ended join (in_sync m e ss ∷ fs) all s = place (in_sync m e (with_stmt ss s) ∷ fs) all
ended join (in_then m c ∷ fs) all s = ended join fs all (branch (join m (stmt_mark s)) c s no_else)
ended join (in_else m c first ∷ fs) all s =
    ended join fs all (branch (join m (stmt_mark s)) c first (otherwise s))
ended join (in_loop m c ∷ fs) all s = ended join fs all (loop (join m (stmt_mark s)) c s)

-- an `else` goes to the nearest `if` that has none
abbrev pub taken_by_if : {A : Type 0} → (A → A → A) → List (Frame A) → Stmts A → Stmt A →
    Option (State A)
taken_by_if join [] all s = None
taken_by_if join (in_block m ss ∷ fs) all s = None
taken_by_if join (in_sync m e ss ∷ fs) all s = None
taken_by_if join (in_then m c ∷ fs) all s = Some (ready (in_else m c s ∷ fs) all)
taken_by_if join (in_else m c first ∷ fs) all s =
    taken_by_if join fs all (branch (join m (stmt_mark s)) c first (otherwise s))
taken_by_if join (in_loop m c ∷ fs) all s =
    taken_by_if join fs all (loop (join m (stmt_mark s)) c s)

-- ---- where a statement may come

-- A local is declared only in a list, and not behind `if`, `else` or `while`.
abbrev pub may_declare : {A : Type 0} → List (Frame A) → Bool
may_declare [] = true
may_declare (in_block m ss ∷ fs) = true
may_declare (in_sync m e ss ∷ fs) = true
may_declare (in_then m c ∷ fs) = false
may_declare (in_else m c s ∷ fs) = false
may_declare (in_loop m c ∷ fs) = false

abbrev pub declared : {A : Type 0} → List (Frame A) → State A → Option (State A)
declared fs s = if may_declare fs then Some s else None

-- a closing brace
abbrev pub list_closed : {A : Type 0} → (A → A → A) → List (Frame A) → Stmts A → A →
    Option (State A)
list_closed join [] all at = None
list_closed join (in_block m ss ∷ fs) all at = Some (done fs all (block (join m at) ss))
list_closed join (in_sync m e ss ∷ fs) all at = Some (done fs all (sync (join m at) e ss))
list_closed join (in_then m c ∷ fs) all at = None
list_closed join (in_else m c s ∷ fs) all at = None
list_closed join (in_loop m c ∷ fs) all at = None

abbrev pub begin_modified : {A : Type 0} → List (Frame A) → Stmts A → A → ModWord → Option (State A)
begin_modified fs all at Synchronized = Some (headed fs all at sync_head)
begin_modified fs all at Final = declared fs (in_type fs all at true (T.want true))
begin_modified fs all at _ = None

abbrev pub begin_primitive : {A : Type 0} → List (Frame A) → Stmts A → A → Primitive →
    Option (State A)
begin_primitive fs all at p = declared fs (in_type fs all at false (T.have (T.primitive_type at p)))

abbrev pub begin_eval : {A : Type 0} → (A → A → A) → List (Frame A) → Stmts A → A → Token →
    Option (State A)
begin_eval join fs all at t = option_map (in_eval fs all) (E.statement_step join (E.want []) at t)

unfoldable pub from_ready : {A : Type 0} → (A → A → A) → List (Frame A) → Stmts A → A → Token →
    Cue → Option (State A)
from_ready join fs all at t a_semicolon = Some (done fs all (empty at))
from_ready join fs all at t an_open_brace = Some (ready (in_block at end ∷ fs) all)
from_ready join fs all at t a_close_brace = list_closed join fs all at
from_ready join fs all at t an_if = Some (headed fs all at if_head)
from_ready join fs all at t a_while = Some (headed fs all at while_head)
from_ready join fs all at t a_return = Some (returning fs all at)
from_ready join fs all at t (a_modifier m) = begin_modified fs all at m
from_ready join fs all at t (a_primitive p) = begin_primitive fs all at p
from_ready join fs all at t _ = begin_eval join fs all at t

abbrev pub from_place : {A : Type 0} → (A → A → A) → Place A → A → Token → Cue → Option (State A)
from_place join p at t c = from_ready join p.on p.all at t c

abbrev pub from_done : {A : Type 0} → (A → A → A) → List (Frame A) → Stmts A → Stmt A → A → Token →
    Cue → Option (State A)
from_done join fs all s at t an_else = taken_by_if join fs all s
from_done join fs all s at t c = from_place join (ended join fs all s) at t c

-- ---- with expressions inside

abbrev pub begin_value : {A : Type 0} → (A → A → A) → List (Frame A) → Stmts A → A → A → Token →
    Option (State A)
begin_value join fs all m at t =
    option_map (in_exp fs all (for_return m)) (E.step join (E.want []) at t)

abbrev pub from_returning : {A : Type 0} → (A → A → A) → List (Frame A) → Stmts A → A → A → Token →
    Cue → Option (State A)
from_returning join fs all m at t a_semicolon = Some (done fs all (return (join m at) None))
from_returning join fs all m at t _ = begin_value join fs all m at t

-- behind the closing parenthesis of what the head has
abbrev pub behind_head : {A : Type 0} → List (Frame A) → Stmts A → A → Head → Exp A → State A
behind_head fs all m if_head e = ready (in_then m e ∷ fs) all
behind_head fs all m while_head e = ready (in_loop m e ∷ fs) all
behind_head fs all m sync_head e = locked fs all m e

-- a whole expression, and the token behind it
abbrev pub filled : {A : Type 0} → (A → A → A) → List (Frame A) → Stmts A → Slot A → A → Cue →
    Exp A → Option (State A)
filled join fs all (for_local m f t w) at c e =
    at_semicolon c (done fs all (local (join m at) f t w e))
filled join fs all (for_return m) at c e =
    at_semicolon c (done fs all (return (join m at) (Some e)))
filled join fs all (for_head m h) at c e = at_close c (behind_head fs all m h e)

abbrev pub from_exp : {A : Type 0} → (A → A → A) → List (Frame A) → Stmts A → Slot A → E.State A →
    A → Token → Cue → Option (State A)
from_exp join fs all slot s at t c =
    inner (in_exp fs all slot) (option_and_then (filled join fs all slot at c) (E.whole join s))
    (E.step join s at t)

-- ---- statement expressions, and locals of a named type

abbrev pub begin_local : {A : Type 0} → List (Frame A) → Stmts A → Word A → TypeName A →
    Option (State A)
begin_local fs all w t = declared fs (named fs all (type_mark t) false t w)

abbrev pub evaluated : {A : Type 0} → (A → A → A) → List (Frame A) → Stmts A → A → Exp A → State A
evaluated join fs all at e = done fs all (eval (join (exp_mark e) at) e)

abbrev pub eval_ended : {A : Type 0} → (A → A → A) → List (Frame A) → Stmts A → E.State A → A →
    Cue → Option (State A)
eval_ended join fs all s at a_semicolon =
    option_map (evaluated join fs all at) (E.statement_whole join s)
eval_ended join fs all s at (a_word w) =
    option_and_then (begin_local fs all (E.marked at w)) (type_read s)
eval_ended join fs all s at _ = None

abbrev pub from_eval : {A : Type 0} → (A → A → A) → List (Frame A) → Stmts A → E.State A → A →
    Token → Cue → Option (State A)
from_eval join fs all s at t c =
    inner (in_eval fs all) (eval_ended join fs all s at c) (E.statement_step join s at t)

-- ---- locals

abbrev pub local_named : {A : Type 0} → List (Frame A) → Stmts A → A → Bool → A → Cue → TypeName A →
    Option (State A)
local_named fs all m f at (a_word w) t = Some (named fs all m f t (E.marked at w))
local_named fs all m f at _ t = None

abbrev pub from_type : {A : Type 0} → (A → A → A) → List (Frame A) → Stmts A → A → Bool →
    T.State A → A → Cue → Option (State A)
from_type join fs all m f s at c =
    inner (in_type fs all m f) (option_and_then (local_named fs all m f at c) (T.whole s))
    (T.cue_step join s at c)

-- ---- one step

abbrev pub cue_step : {A : Type 0} → (A → A → A) → State A → A → Token → Cue → Option (State A)
cue_step join (ready fs all) at t c = from_ready join fs all at t c
cue_step join (done fs all s) at t c = from_done join fs all s at t c
cue_step join (headed fs all m h) at t c = at_open c (in_exp fs all (for_head m h) (E.want []))
cue_step join (returning fs all m) at t c = from_returning join fs all m at t c
cue_step join (in_exp fs all slot s) at t c = from_exp join fs all slot s at t c
cue_step join (in_eval fs all s) at t c = from_eval join fs all s at t c
cue_step join (locked fs all m e) at t c = at_open_brace c (ready (in_sync m e end ∷ fs) all)
cue_step join (in_type fs all m f s) at t c = from_type join fs all m f s at c
cue_step join (named fs all m f ty w) at t c =
    at_equals c (in_exp fs all (for_local m f ty w) (E.want []))

abbrev pub step : {A : Type 0} → (A → A → A) → State A → A → Token → Option (State A)
step join s at t = cue_step join s at t (cue_of t)

-- ---- what is whole

abbrev pub whole_in : {A : Type 0} → List (Frame A) → Stmts A → Option (Stmts A)
whole_in [] all = Some all
whole_in (f ∷ fs) all = None

abbrev pub whole_at : {A : Type 0} → Place A → Option (Stmts A)
whole_at p = whole_in p.on p.all

-- the list of statements, where it could end here
abbrev pub whole : {A : Type 0} → (A → A → A) → State A → Option (Stmts A)
whole join (ready fs all) = whole_in fs all
whole join (done fs all s) = whole_at (ended join fs all s)
whole join (headed fs all m h) = None
whole join (returning fs all m) = None
whole join (in_exp fs all slot s) = None
whole join (in_eval fs all s) = None
whole join (locked fs all m e) = None
whole join (in_type fs all m f s) = None
whole join (named fs all m f t w) = None
