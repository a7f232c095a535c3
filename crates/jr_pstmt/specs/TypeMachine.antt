-- Reading a type, token by token (JLS 4.2, 4.3, 6.5.5).
use Rattle.std.specs.Prelude.{Bool, Option, Some, None, if◌then◌else◌}
use Rattle.jr_ast.specs.Tree.{Word, TypeName, int, boolean, named}
use Rattle.jr_grammar.specs.Tokens.{Token}
use Rattle.jr_pexpr.specs.Machine.{marked}
use Rattle.jr_pstmt.specs.Cues.{
  Primitive,
  an_int,
  a_boolean,
  Cue,
  a_word,
  a_primitive,
  a_dot,
  cue_of,
}

pub data State (A : Type 0) : Type 0 where
  -- a type is to come; `primitive` says whether it may be `int` or `boolean`
  want : (primitive : Bool) → State A
  have : (type : TypeName A) → State A
  -- behind a word and a dot
  dotted : (outer : Word A) → State A

abbrev pub primitive_type : {A : Type 0} → A → Primitive → TypeName A
primitive_type at an_int = int at
primitive_type at a_boolean = boolean at

abbrev pub from_want : {A : Type 0} → Bool → A → Cue → Option (State A)
from_want primitive at (a_word w) = Some (have (named at None (marked at w)))
from_want primitive at (a_primitive p) = if primitive then Some (have (primitive_type at p))
    else None
from_want primitive at _ = None

-- a dot behind a type of one word
abbrev pub dot_behind : {A : Type 0} → TypeName A → Option (State A)
dot_behind (int m) = None
dot_behind (boolean m) = None
dot_behind (named m None w) = Some (dotted w)
dot_behind (named m (Some o) w) = None

abbrev pub from_have : {A : Type 0} → TypeName A → Cue → Option (State A)
from_have t a_dot = dot_behind t
from_have t _ = None

abbrev pub from_dotted : {A : Type 0} → (A → A → A) → Word A → A → Cue → Option (State A)
from_dotted join o at (a_word w) = Some (have (named (join o.mark at) (Some o) (marked at w)))
from_dotted join o at _ = None

abbrev pub cue_step : {A : Type 0} → (A → A → A) → State A → A → Cue → Option (State A)
cue_step join (want primitive) at c = from_want primitive at c
cue_step join (have t) at c = from_have t c
cue_step join (dotted o) at c = from_dotted join o at c

abbrev pub step : {A : Type 0} → (A → A → A) → State A → A → Token → Option (State A)
step join s at t = cue_step join s at (cue_of t)

abbrev pub whole : {A : Type 0} → State A → Option (TypeName A)
whole (want primitive) = None
whole (have t) = Some t
whole (dotted o) = None
