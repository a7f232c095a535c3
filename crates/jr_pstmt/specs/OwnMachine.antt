-- Reading a member that is no class, token by token (JLS 8.3, 8.4, 8.8). The machine is told the
-- name of the member's class.
use Rattle.std.specs.Prelude.{
  ℕ,
  Bool,
  true,
  false,
  List,
  [],
  ◌∷◌,
  ◌++◌,
  Option,
  Some,
  None,
  if◌then◌else◌,
  option_map,
  option_and_then,
}
use Rattle.std.specs.Str.{bytes_eq}
use Rattle.jr_ast.specs.declared.operators.ModWord.{ModWord}
use Rattle.jr_ast.specs.Tree.{Word, TypeName, int, boolean, named, Exp, Exps}
use Rattle.jr_ast.specs.StatementTree as S
use Rattle.jr_ast.specs.MemberTree.{Modifier, Param, Member, field, method, constructor}
use Rattle.jr_grammar.specs.Tokens.{Token}
use Rattle.jr_pexpr.specs.Machine as E
use Rattle.jr_pstmt.specs.Cues.{
  Cue,
  a_word,
  a_modifier,
  a_void,
  a_super,
  an_open,
  a_semicolon,
  an_equals,
  at_semicolon,
  at_close,
  at_open_brace,
  at_close_brace,
  cue_of,
}
use Rattle.jr_pstmt.specs.Inside.{inner}
use Rattle.jr_pstmt.specs.TypeMachine as T
use Rattle.jr_pstmt.specs.ArgumentMachine as Arguments
use Rattle.jr_pstmt.specs.ParameterMachine as Parameters
use Rattle.jr_pstmt.specs.StatementMachine as Statements

-- where a member or class begins, and its modifiers
pub record Lead (A : Type 0) : Type 0 where
  pub start : A
  pub modifiers : List (Modifier A)

-- what stands before parameters
pub data Head (A : Type 0) : Type 0 where
  method_head : (lead : Lead A) (result : Option (TypeName A)) (word : Word A) → Head A
  constructor_head : (lead : Lead A) (word : Word A) → Head A

-- a constructor up to its body
pub record Constructor (A : Type 0) : Type 0 where
  pub lead : Lead A
  pub word : Word A
  pub params : List (Param A)

-- what stands before the statements of a body
pub data Body (A : Type 0) : Type 0 where
  method_body : (lead : Lead A) (result : Option (TypeName A)) (word : Word A)
      (params : List (Param A)) → Body A
  constructor_body : (of : Constructor A) (parent_args : Option (Exps A)) → Body A

pub data State (A : Type 0) : Type 0 where
  -- behind modifiers, if any
  modified : (modifiers : List (Modifier A)) → State A
  -- in a type, or the name of a constructor
  in_type : (lead : Lead A) (type : T.State A) → State A
  -- behind `void`
  voided : (lead : Lead A) → State A
  -- behind the word of a field or method
  worded : (lead : Lead A) (result : Option (TypeName A)) (word : Word A) → State A
  -- in the value of a field
  in_value : (lead : Lead A) (type : TypeName A) (word : Word A) (value : E.State A) → State A
  -- between the parentheses
  in_params : (head : Head A) (params : Parameters.State A) → State A
  -- and behind them
  headed : (head : Head A) (params : List (Param A)) → State A
  -- first in a constructor's body
  in_constructor : (of : Constructor A) → State A
  -- behind `super` there
  at_super : (of : Constructor A) (word : A) → State A
  -- in its arguments, and behind them
  in_super : (of : Constructor A) (args : Arguments.State A) → State A
  behind_super : (of : Constructor A) (args : Exps A) → State A
  -- among the statements of a body
  in_body : (body : Body A) (items : Statements.State A) → State A
  done : (member : Member A) → State A

abbrev pub start : {A : Type 0} → State A
start = modified []

-- ---- modifiers

abbrev pub modifier : {A : Type 0} → A → ModWord → Modifier A
modifier at m = record { mark = at; word = m }

-- where what has the modifiers begins: with the first of them, or else with the token at hand
abbrev pub begins_at : {A : Type 0} → List (Modifier A) → A → A
begins_at [] at = at
begins_at (m ∷ ms) at = m.mark

abbrev pub lead_of : {A : Type 0} → List (Modifier A) → A → Lead A
lead_of ms at = record { start = begins_at ms at; modifiers = ms }

abbrev pub from_modified : {A : Type 0} → List (Modifier A) → A → Cue → Option (State A)
from_modified ms at (a_modifier m) = Some (modified (ms ++ (modifier at m ∷ [])))
from_modified ms at a_void = Some (voided (lead_of ms at))
from_modified ms at c = option_map (in_type (lead_of ms at)) (T.from_want true at c)

-- ---- types and words

-- the word of a constructor, if the type is the class's own name
abbrev pub own_name : {A : Type 0} → List ℕ → TypeName A → Option (Word A)
own_name name (int m) = None
own_name name (boolean m) = None
own_name name (named m None w) = if bytes_eq w.text name then Some w else None
own_name name (named m (Some o) w) = None

abbrev pub begin_params : {A : Type 0} → Head A → State A
begin_params h = in_params h Parameters.start

abbrev pub begin_constructor : {A : Type 0} → Lead A → Word A → State A
begin_constructor l w = begin_params (constructor_head l w)

-- a type, and the token behind it
abbrev pub behind_type : {A : Type 0} → List ℕ → Lead A → A → Cue → TypeName A → Option (State A)
behind_type name l at (a_word w) t = Some (worded l (Some t) (E.marked at w))
behind_type name l at an_open t = option_map (begin_constructor l) (own_name name t)
behind_type name l at _ t = None

abbrev pub from_type : {A : Type 0} → (A → A → A) → List ℕ → Lead A → T.State A → A → Cue →
    Option (State A)
from_type join name l s at c =
    inner (in_type l) (option_and_then (behind_type name l at c) (T.whole s))
    (T.cue_step join s at c)

abbrev pub from_voided : {A : Type 0} → Lead A → A → Cue → Option (State A)
from_voided l at (a_word w) = Some (worded l None (E.marked at w))
from_voided l at _ = None

-- ---- fields

abbrev pub field_without : {A : Type 0} → (A → A → A) → Lead A → Word A → A → TypeName A → State A
field_without join l w at t = done (field (join l.start at) l.modifiers t w None)

abbrev pub begin_value : {A : Type 0} → Lead A → Word A → TypeName A → State A
begin_value l w t = in_value l t w (E.want [])

-- no field has the type `void`
abbrev pub from_worded : {A : Type 0} → (A → A → A) → Lead A → Option (TypeName A) → Word A → A →
    Cue → Option (State A)
from_worded join l result w at a_semicolon = option_map (field_without join l w at) result
from_worded join l result w at an_equals = option_map (begin_value l w) result
from_worded join l result w at an_open = Some (begin_params (method_head l result w))
from_worded join l result w at _ = None

abbrev pub field_with : {A : Type 0} → (A → A → A) → Lead A → TypeName A → Word A → A → Cue →
    Exp A → Option (State A)
field_with join l t w at c e =
    at_semicolon c (done (field (join l.start at) l.modifiers t w (Some e)))

abbrev pub from_value : {A : Type 0} → (A → A → A) → Lead A → TypeName A → Word A → E.State A → A →
    Token → Cue → Option (State A)
from_value join l t w s at k c =
    inner (in_value l t w) (option_and_then (field_with join l t w at c) (E.whole join s))
    (E.step join s at k)

-- ---- parameters

abbrev pub behind_params : {A : Type 0} → Head A → Cue → List (Param A) → Option (State A)
behind_params h c ps = at_close c (headed h ps)

abbrev pub from_params : {A : Type 0} → (A → A → A) → Head A → Parameters.State A → A → Cue →
    Option (State A)
from_params join h s at c =
    inner (in_params h) (option_and_then (behind_params h c) (Parameters.whole s))
    (Parameters.cue_step join s at c)

abbrev pub body_of : {A : Type 0} → Head A → List (Param A) → State A
body_of (method_head l result w) ps = in_body (method_body l result w ps) Statements.start
body_of (constructor_head l w) ps = in_constructor (record { lead = l; word = w; params = ps })

-- ---- bodies

abbrev pub built : {A : Type 0} → (A → A → A) → Body A → A → S.Stmts A → Member A
built join (method_body l result w ps) at body =
    method (join l.start at) l.modifiers result w ps body
built join (constructor_body k args) at body =
    constructor (join k.lead.start at) k.lead.modifiers k.word k.params args body

abbrev pub body_closed : {A : Type 0} → (A → A → A) → Body A → A → Cue → S.Stmts A →
    Option (State A)
body_closed join b at c body = at_close_brace c (done (built join b at body))

abbrev pub from_body : {A : Type 0} → (A → A → A) → Body A → Statements.State A → A → Token → Cue →
    Option (State A)
from_body join b s at t c =
    inner (in_body b) (option_and_then (body_closed join b at c) (Statements.whole join s))
    (Statements.step join s at t)

-- ---- `super(..);` first in a constructor

abbrev pub without_super : {A : Type 0} → Constructor A → Body A
without_super k = constructor_body k None

abbrev pub from_constructor : {A : Type 0} → (A → A → A) → Constructor A → A → Token → Cue →
    Option (State A)
from_constructor join k at t a_super = Some (at_super k at)
from_constructor join k at t c = from_body join (without_super k) Statements.start at t c

-- `super` as the first token of a statement
abbrev pub super_read : {A : Type 0} → A → Statements.State A
super_read m = Statements.in_eval [] S.end (E.at_super [] m)

abbrev pub from_super : {A : Type 0} → (A → A → A) → Constructor A → A → A → Token → Cue →
    Option (State A)
from_super join k m at t an_open = Some (in_super k Arguments.start)
from_super join k m at t c = from_body join (without_super k) (super_read m) at t c

abbrev pub arguments_closed : {A : Type 0} → Constructor A → Cue → Exps A → Option (State A)
arguments_closed k c es = at_close c (behind_super k es)

abbrev pub from_arguments : {A : Type 0} → (A → A → A) → Constructor A → Arguments.State A → A →
    Token → Cue → Option (State A)
from_arguments join k s at t c =
    inner (in_super k) (option_and_then (arguments_closed k c) (Arguments.whole join s))
    (Arguments.step join s at t)

abbrev pub with_super : {A : Type 0} → Constructor A → Exps A → State A
with_super k es = in_body (constructor_body k (Some es)) Statements.start

-- ---- one step

abbrev pub cue_step : {A : Type 0} → (A → A → A) → List ℕ → State A → A → Token → Cue →
    Option (State A)
cue_step join name (modified ms) at t c = from_modified ms at c
cue_step join name (in_type l s) at t c = from_type join name l s at c
cue_step join name (voided l) at t c = from_voided l at c
cue_step join name (worded l result w) at t c = from_worded join l result w at c
cue_step join name (in_value l ty w s) at t c = from_value join l ty w s at t c
cue_step join name (in_params h s) at t c = from_params join h s at c
cue_step join name (headed h ps) at t c = at_open_brace c (body_of h ps)
cue_step join name (in_constructor k) at t c = from_constructor join k at t c
cue_step join name (at_super k m) at t c = from_super join k m at t c
cue_step join name (in_super k s) at t c = from_arguments join k s at t c
cue_step join name (behind_super k es) at t c = at_semicolon c (with_super k es)
cue_step join name (in_body b s) at t c = from_body join b s at t c
cue_step join name (done d) at t c = None

abbrev pub step : {A : Type 0} → (A → A → A) → List ℕ → State A → A → Token → Option (State A)
step join name s at t = cue_step join name s at t (cue_of t)

abbrev pub whole : {A : Type 0} → State A → Option (Member A)
whole (done d) = Some d
whole (modified ms) = None
whole (in_type l s) = None
whole (voided l) = None
whole (worded l result w) = None
whole (in_value l t w s) = None
whole (in_params h s) = None
whole (headed h ps) = None
whole (in_constructor k) = None
whole (at_super k m) = None
whole (in_super k s) = None
whole (behind_super k es) = None
whole (in_body b s) = None

-- nothing is read yet
abbrev pub is_start : {A : Type 0} → State A → Bool
is_start (modified []) = true
is_start _ = false
