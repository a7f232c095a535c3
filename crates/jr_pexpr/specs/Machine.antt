-- Reading an expression token by token: what has been begun stands on a stack. The marks are any
-- that can be joined.
use Rattle.std.specs.Prelude.{
  ℕ,
  ◌+◌,
  List,
  [],
  ◌∷◌,
  Option,
  Some,
  None,
  nat_lt,
  if◌then◌else◌,
  Bool,
  true,
  false,
}
use Rattle.jr_ast.specs.declared.operators.UnOp.{UnOp}
use Rattle.jr_ast.specs.declared.operators.UnOp.TheVariants.{Plus, Minus, Not}
use Rattle.jr_ast.specs.declared.operators.BinOp.{BinOp}
use Rattle.jr_ast.specs.declared.operators.BinOp.TheVariants.{Add, Sub, Mul, Div, Rem}
use Rattle.jr_ast.specs.declared.operators.BumpOp.{BumpOp}
use Rattle.jr_ast.specs.declared.operators.BumpOp.TheVariants.{PreInc, PreDec, PostInc, PostDec}
use Rattle.jr_ast.specs.Tree.{
  Word,
  TypeName,
  named,
  Exp,
  number,
  truth,
  null,
  string,
  name,
  field,
  super_field,
  this,
  class_literal,
  call,
  super_call,
  create,
  paren,
  cast,
  unary,
  bump,
  binary,
  assign,
  compound,
  Target,
  no_target,
  on,
  Exps,
  end,
  more,
}
use Rattle.jr_ast.specs.Marks.{exp_mark}
use Rattle.jr_grammar.specs.Tokens.{Token}
use Rattle.jr_grammar.specs.Shape.{
  rank_of,
  unary_level,
  level_of,
  greatest,
  is_minus,
  assignment_level,
  sign_level,
  unsigned_level,
  primary_level,
}
use Rattle.jr_pexpr.specs.Pieces.{
  Way,
  up,
  down,
  Atom,
  a_number,
  a_truth,
  a_null,
  a_string,
  a_this,
  Piece,
  a_word,
  an_atom,
  a_super,
  a_new,
  a_class,
  an_open,
  a_close,
  a_comma,
  a_dot,
  a_bang,
  a_bump,
  an_operator,
  an_equals,
  a_compound,
  piece_of,
}

-- what stands before the arguments of a call or of `new`
pub data Head (A : Type 0) : Type 0 where
  call_head : (start : A) (target : Target A) (word : Word A) → Head A
  super_head : (start : A) (word : Word A) → Head A
  create_head : (start : A) (type : TypeName A) → Head A

-- what has been begun, and waits for an expression
pub data Frame (A : Type 0) : Type 0 where
  in_unary : (start : A) (op : UnOp) → Frame A
  in_bump : (start : A) (way : Way) → Frame A
  in_binary : (op : BinOp) (left : Exp A) → Frame A
  in_assign : (to : Exp A) → Frame A
  in_compound : (op : BinOp) (to : Exp A) → Frame A
  in_cast : (start : A) (type : TypeName A) → Frame A
  in_paren : (start : A) → Frame A
  in_args : (head : Head A) (args : Exps A) → Frame A

pub data State (A : Type 0) : Type 0 where
  -- an expression is to come
  want : (on : List (Frame A)) → State A
  -- one that can be extended stands there
  have : (on : List (Frame A)) (e : Exp A) → State A
  -- and a dot behind it
  dotted : (on : List (Frame A)) (e : Exp A) → State A
  -- behind `super`, and behind its dot
  at_super : (on : List (Frame A)) (start : A) → State A
  super_dotted : (on : List (Frame A)) (start : A) → State A
  -- behind `new`, behind a class's name there, and behind a dot there
  at_new : (on : List (Frame A)) (start : A) → State A
  new_named : (on : List (Frame A)) (start : A) (type : TypeName A) → State A
  new_dotted : (on : List (Frame A)) (start : A) (outer : Word A) → State A

abbrev pub with_last : {A : Type 0} → Exps A → Exp A → Exps A
with_last end e = more e end
with_last (more d es) e = more d (with_last es e)

abbrev pub marked : {A : Type 0} → A → List ℕ → Word A
marked at w = record { mark = at; text = w }

abbrev pub in_front : Way → BumpOp
in_front up = PreInc
in_front down = PreDec

abbrev pub behind : Way → BumpOp
behind up = PostInc
behind down = PostDec

-- ---- levels

-- the level of what the frame becomes; a bracket, which waits for its end, has 0
abbrev pub binds : {A : Type 0} → Frame A → ℕ
binds (in_unary m o) = unary_level o
binds (in_bump m w) = sign_level
binds (in_binary o l) = rank_of o
binds (in_assign t) = assignment_level
binds (in_compound o t) = assignment_level
binds (in_cast m t) = unsigned_level
binds (in_paren m) = 0
binds (in_args h es) = 0

-- the least level of what may stand in it
abbrev pub needs : {A : Type 0} → Frame A → ℕ
needs (in_unary m o) = sign_level
needs (in_bump m w) = primary_level
needs (in_binary o l) = rank_of o + 1
needs (in_assign t) = assignment_level
needs (in_compound o t) = assignment_level
needs (in_cast m t) = unsigned_level
needs (in_paren m) = assignment_level
needs (in_args h es) = assignment_level

abbrev pub needed : {A : Type 0} → List (Frame A) → ℕ
needed [] = assignment_level
needed (f ∷ fs) = needs f

-- whether the last token is a unary minus
abbrev pub is_behind_minus : {A : Type 0} → Frame A → Bool
is_behind_minus (in_unary m o) = is_minus o
is_behind_minus _ = false

abbrev pub behind_minus : {A : Type 0} → List (Frame A) → Bool
behind_minus [] = false
behind_minus (f ∷ fs) = is_behind_minus f

abbrev pub is_target : {A : Type 0} → Exp A → Bool
is_target (name m w) = true
is_target (field m e w) = true
is_target (super_field m w) = true
is_target _ = false

abbrev pub is_compound : BinOp → Bool
is_compound Add = true
is_compound Sub = true
is_compound Mul = true
is_compound Div = true
is_compound Rem = true
is_compound _ = false

-- whether e may stand in it at last
abbrev pub fits : {A : Type 0} → Frame A → Exp A → Bool
fits (in_bump m w) e = is_target e
fits _ e = true

-- ---- ending what has been begun

abbrev pub applied : {A : Type 0} → (A → A → A) → A → Head A → Exps A → Exp A
applied join at (call_head m t w) es = call (join m at) t w es
applied join at (super_head m w) es = super_call (join m at) w es
applied join at (create_head m t) es = create (join m at) t es

-- what a frame becomes; a bracket is ended by its closing token
abbrev pub plug : {A : Type 0} → (A → A → A) → Frame A → Exp A → Exp A
plug join (in_unary m o) e = unary (join m (exp_mark e)) o e
plug join (in_bump m w) e = bump (join m (exp_mark e)) (in_front w) e
plug join (in_binary o l) e = binary (join (exp_mark l) (exp_mark e)) o l e
plug join (in_assign t) e = assign (join (exp_mark t) (exp_mark e)) t e
plug join (in_compound o t) e = compound (join (exp_mark t) (exp_mark e)) o t e
plug join (in_cast m t) e = cast (join m (exp_mark e)) t e
plug join _ e = e

-- ends what binds at least so tightly; None where what stands in it does not fit
abbrev pub reduced : {A : Type 0} → (A → A → A) → ℕ → List (Frame A) → Exp A → Option (State A)
reduced join k [] e = Some (have [] e)
reduced join k (f ∷ fs) e = if nat_lt (binds f) k then Some (have (f ∷ fs) e)
    else (if fits f e then reduced join k fs (plug join f e) else None)

abbrev pub operated : {A : Type 0} → BinOp → Option (State A) → Option (State A)
operated o (Some (have fs e)) = Some (want (in_binary o e ∷ fs))
operated o _ = None

abbrev pub closed : {A : Type 0} → (A → A → A) → A → Option (State A) → Option (State A)
closed join at (Some (have (in_paren m ∷ fs) e)) = Some (have fs (paren (join m at) e))
closed join at (Some (have (in_args h es ∷ fs) e)) =
    Some (have fs (applied join at h (with_last es e)))
closed join at _ = None

abbrev pub continued : {A : Type 0} → Option (State A) → Option (State A)
continued (Some (have (in_args h es ∷ fs) e)) = Some (want (in_args h (with_last es e) ∷ fs))
continued _ = None

-- s, where what is to come may have so low a level
abbrev pub at_most : {A : Type 0} → ℕ → List (Frame A) → State A → Option (State A)
at_most k fs s = if nat_lt k (needed fs) then None else Some s

-- ---- where an expression is to come

abbrev pub atom_exp : {A : Type 0} → A → Atom → Exp A
atom_exp at (a_number n) = number at n
atom_exp at (a_truth b) = truth at b
atom_exp at a_null = null at
atom_exp at (a_string s) = string at s
atom_exp at a_this = this at

abbrev pub atom_fits : Bool → Atom → Bool
atom_fits minus (a_number n) = if nat_lt (greatest minus) n then false else true
atom_fits minus _ = true

abbrev pub signed : {A : Type 0} → List (Frame A) → A → BinOp → Option (State A)
signed fs at Add = at_most sign_level fs (want (in_unary at Plus ∷ fs))
signed fs at Sub = at_most sign_level fs (want (in_unary at Minus ∷ fs))
signed fs at _ = None

-- no arguments
abbrev pub emptied : {A : Type 0} → (A → A → A) → A → List (Frame A) → Option (State A)
emptied join at (in_args h end ∷ fs) = Some (have fs (applied join at h end))
emptied join at _ = None

-- a token that begins an expression
unfoldable pub begun : {A : Type 0} → (A → A → A) → List (Frame A) → A → Piece → Option (State A)
begun join fs at (a_word w) = Some (have fs (name at (marked at w)))
begun join fs at (an_atom a) = if atom_fits (behind_minus fs) a then Some (have fs (atom_exp at a))
    else None
begun join fs at a_super = Some (at_super fs at)
begun join fs at a_new = Some (at_new fs at)
begun join fs at an_open = Some (want (in_paren at ∷ fs))
begun join fs at a_close = emptied join at fs
begun join fs at a_bang = at_most unsigned_level fs (want (in_unary at Not ∷ fs))
begun join fs at (a_bump w) = at_most sign_level fs (want (in_bump at w ∷ fs))
begun join fs at (an_operator o) = signed fs at o
begun join fs at _ = None

-- ---- behind an expression

-- a name of one or two words as a type
abbrev pub name_type : {A : Type 0} → Exp A → Option (TypeName A)
name_type (name m w) = Some (named m None w)
name_type (field m (name n o) w) = Some (named m (Some o) w)
name_type _ = None

abbrev pub cast_frame : {A : Type 0} → A → Option (TypeName A) → Option (Frame A)
cast_frame m (Some t) = Some (in_cast m t)
cast_frame m None = None

-- a name in parentheses, which can be a cast's
abbrev pub cast_of : {A : Type 0} → Exp A → Option (Frame A)
cast_of (paren m e) = cast_frame m (name_type e)
cast_of _ = None

-- behind a name in parentheses: they were a cast
abbrev pub casted : {A : Type 0} → (A → A → A) → Option (Frame A) → List (Frame A) → A → Piece →
    Option (State A)
casted join (Some f) fs at p = if nat_lt unsigned_level (needed fs) then None
    else begun join (f ∷ fs) at p
casted join None fs at p = None

-- an opening parenthesis: behind a name or a field a call, behind a name in parentheses what is
-- cast
abbrev pub opened : {A : Type 0} → (A → A → A) → List (Frame A) → Exp A → A → Option (State A)
opened join fs (name m w) at = Some (want (in_args (call_head m no_target w) end ∷ fs))
opened join fs (field m e w) at = Some (want (in_args (call_head m (on e) w) end ∷ fs))
opened join fs (super_field m w) at = Some (want (in_args (super_head m w) end ∷ fs))
opened join fs e at = casted join (cast_of e) fs at an_open

abbrev pub assigned : {A : Type 0} → List (Frame A) → Exp A → Frame A → Option (State A)
assigned fs e f = if is_target e then at_most assignment_level fs (want (f ∷ fs)) else None

abbrev pub bumped : {A : Type 0} → (A → A → A) → List (Frame A) → Exp A → A → Way → Option (State A)
bumped join fs e at w = if is_target e
    then at_most unsigned_level fs (have fs (bump (join (exp_mark e) at) (behind w) e)) else None

unfoldable pub extended : {A : Type 0} → (A → A → A) → List (Frame A) → Exp A → A → Piece →
    Option (State A)
extended join fs e at a_dot = if nat_lt (level_of e) primary_level then None else Some (dotted fs e)
extended join fs e at (a_bump w) = bumped join fs e at w
extended join fs e at (an_operator o) = operated o (reduced join (rank_of o) fs e)
extended join fs e at an_equals = assigned fs e (in_assign e)
extended join fs e at (a_compound o) = if is_compound o then assigned fs e (in_compound o e)
    else None
extended join fs e at a_close = closed join at (reduced join assignment_level fs e)
extended join fs e at a_comma = continued (reduced join assignment_level fs e)
extended join fs e at an_open = opened join fs e at
extended join fs e at (a_word w) = casted join (cast_of e) fs at (a_word w)
extended join fs e at (an_atom a) = casted join (cast_of e) fs at (an_atom a)
extended join fs e at a_super = casted join (cast_of e) fs at a_super
extended join fs e at a_new = casted join (cast_of e) fs at a_new
extended join fs e at a_bang = casted join (cast_of e) fs at a_bang
extended join fs e at _ = None

-- ---- behind a dot

abbrev pub literal_of : {A : Type 0} → List (Frame A) → A → Option (TypeName A) → Option (State A)
literal_of fs m (Some t) = Some (have fs (class_literal m t))
literal_of fs m None = None

abbrev pub member : {A : Type 0} → (A → A → A) → List (Frame A) → Exp A → A → Piece →
    Option (State A)
member join fs e at (a_word w) = Some (have fs (field (join (exp_mark e) at) e (marked at w)))
member join fs e at a_class = literal_of fs (join (exp_mark e) at) (name_type e)
member join fs e at _ = None

-- ---- `super` and `new`

abbrev pub behind_super : {A : Type 0} → List (Frame A) → A → Piece → Option (State A)
behind_super fs m a_dot = Some (super_dotted fs m)
behind_super fs m _ = None

abbrev pub super_member : {A : Type 0} → (A → A → A) → List (Frame A) → A → A → Piece →
    Option (State A)
super_member join fs m at (a_word w) = Some (have fs (super_field (join m at) (marked at w)))
super_member join fs m at _ = None

abbrev pub behind_new : {A : Type 0} → List (Frame A) → A → A → Piece → Option (State A)
behind_new fs m at (a_word w) = Some (new_named fs m (named at None (marked at w)))
behind_new fs m at _ = None

abbrev pub new_outer : {A : Type 0} → List (Frame A) → A → TypeName A → Option (State A)
new_outer fs m (named n None w) = Some (new_dotted fs m w)
new_outer fs m _ = None

abbrev pub behind_new_name : {A : Type 0} → List (Frame A) → A → TypeName A → Piece →
    Option (State A)
behind_new_name fs m t a_dot = new_outer fs m t
behind_new_name fs m t an_open = Some (want (in_args (create_head m t) end ∷ fs))
behind_new_name fs m t _ = None

abbrev pub new_inner : {A : Type 0} → (A → A → A) → List (Frame A) → A → Word A → A → Piece →
    Option (State A)
new_inner join fs m o at (a_word w) =
    Some (new_named fs m (named (join o.mark at) (Some o) (marked at w)))
new_inner join fs m o at _ = None

-- ---- one step

abbrev pub stepped : {A : Type 0} → (A → A → A) → State A → A → Piece → Option (State A)
stepped join (want fs) at p = begun join fs at p
stepped join (have fs e) at p = extended join fs e at p
stepped join (dotted fs e) at p = member join fs e at p
stepped join (at_super fs m) at p = behind_super fs m p
stepped join (super_dotted fs m) at p = super_member join fs m at p
stepped join (at_new fs m) at p = behind_new fs m at p
stepped join (new_named fs m t) at p = behind_new_name fs m t p
stepped join (new_dotted fs m o) at p = new_inner join fs m o at p

abbrev pub step : {A : Type 0} → (A → A → A) → State A → A → Token → Option (State A)
step join s at t = stepped join s at (piece_of t)

-- ---- what is whole

abbrev pub whole_of : {A : Type 0} → Option (State A) → Option (Exp A)
whole_of (Some (have [] e)) = Some e
whole_of _ = None

-- the whole expression, where it could end here
abbrev pub whole : {A : Type 0} → (A → A → A) → State A → Option (Exp A)
whole join (have fs e) = whole_of (reduced join assignment_level fs e)
whole join _ = None

-- ---- statement expressions

-- what may stand at the bottom where a statement expression is read: no operator, sign, `!` or cast
abbrev pub is_bottom : {A : Type 0} → Frame A → Bool
is_bottom (in_unary m o) = false
is_bottom (in_binary o l) = false
is_bottom (in_cast m t) = false
is_bottom _ = true

abbrev pub is_open : {A : Type 0} → List (Frame A) → Bool
is_open [] = true
is_open (f ∷ []) = is_bottom f
is_open (f ∷ g ∷ fs) = is_open (g ∷ fs)

abbrev pub frames_of : {A : Type 0} → State A → List (Frame A)
frames_of (want fs) = fs
frames_of (have fs e) = fs
frames_of (dotted fs e) = fs
frames_of (at_super fs m) = fs
frames_of (super_dotted fs m) = fs
frames_of (at_new fs m) = fs
frames_of (new_named fs m t) = fs
frames_of (new_dotted fs m o) = fs

abbrev pub kept_open : {A : Type 0} → Option (State A) → Option (State A)
kept_open (Some s) = if is_open (frames_of s) then Some s else None
kept_open None = None

-- the same steps, where a statement expression can still come of it
abbrev pub statement_step : {A : Type 0} → (A → A → A) → State A → A → Token → Option (State A)
statement_step join s at t = kept_open (step join s at t)

abbrev pub is_statement : {A : Type 0} → Exp A → Bool
is_statement (assign m t e) = true
is_statement (compound m o t e) = true
is_statement (bump m o e) = true
is_statement (call m t w es) = true
is_statement (super_call m w es) = true
is_statement (create m t es) = true
is_statement _ = false

abbrev pub kept_statement : {A : Type 0} → Option (Exp A) → Option (Exp A)
kept_statement (Some e) = if is_statement e then Some e else None
kept_statement None = None

abbrev pub statement_whole : {A : Type 0} → (A → A → A) → State A → Option (Exp A)
statement_whole join s = kept_statement (whole join s)
