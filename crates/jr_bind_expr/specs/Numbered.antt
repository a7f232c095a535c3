-- Exact, by numbers: classes, types and what is found in a class, as the arms of a walk compute
-- them. A number is the image of a key, and `None` stands where there is no class or type.
use Rattle.std.specs.Prelude.{ℕ, List, ◌∷◌, Option, Some, None, Bool, true, false, ◌&&◌, ◌||◌}
use Rattle.jr_ast.specs.declared.operators.UnOp.{UnOp}
use Rattle.jr_ast.specs.declared.operators.UnOp.TheVariants as sign
use Rattle.jr_ast.specs.declared.operators.BinOp.{BinOp}
use Rattle.jr_ast.specs.declared.operators.BinOp.TheVariants as op
use Rattle.jr_table.specs.declared.answers.Answer.{Answer}
use Rattle.jr_table.specs.declared.answers.Answer.TheVariants.{Nothing}
use Rattle.jr_table.specs.declared.entries.Entry.{Entry}
use Rattle.jr_table.specs.declared.entries.Kind.{Kind}
use Rattle.jr_table.specs.declared.entries.Kind.TheVariants.{Int, Boolean, Void, Null, Class}
use Rattle.jr_table.specs.Calls.{assignable}
use Rattle.jr_table.specs.Decls.{
  Decl,
  class_decl,
  field_decl,
  method_decl,
  constructor_decl,
  local_decl,
}

-- what is found in a class, if there is one; and for arguments, if each has a type
abbrev pub in_class : Option ℕ → (ℕ → Answer) → Answer
in_class None find = Nothing
in_class (Some c) find = find c

abbrev pub for_kinds : Option (List Kind) → (List Kind → Answer) → Answer
for_kinds None find = Nothing
for_kinds (Some ts) find = find ts

abbrev pub class_in : Option Kind → Option ℕ
class_in (Some (Class c)) = Some c
class_in _ = None

abbrev pub class_kind : Option ℕ → Option Kind
class_kind None = None
class_kind (Some c) = Some (Class c)

-- the class of a name, or that of a value's type
abbrev pub on_class : Option ℕ → Option Kind → Option ℕ
on_class None t = class_in t
on_class (Some c) t = Some c

-- one type more in front, and behind
abbrev pub with_first : Option Kind → Option (List Kind) → Option (List Kind)
with_first (Some t) (Some ts) = Some (t ∷ ts)
with_first _ _ = None

abbrev pub is_class : Decl → Bool
is_class (class_decl k) = true
is_class (field_decl k) = false
is_class (method_decl k) = false
is_class (constructor_decl k) = false
is_class (local_decl k) = false

-- types

abbrev pub is_int : Option Kind → Bool
is_int (Some Int) = true
is_int _ = false

abbrev pub is_boolean : Option Kind → Bool
is_boolean (Some Boolean) = true
is_boolean _ = false

abbrev pub is_void : Option Kind → Bool
is_void (Some Void) = true
is_void _ = false

abbrev pub is_reference : Kind → Bool
is_reference Null = true
is_reference (Class c) = true
is_reference _ = false

abbrev pub are_int : Option Kind → Option Kind → Bool
are_int s t = is_int s && is_int t

abbrev pub are_boolean : Option Kind → Option Kind → Bool
are_boolean s t = is_boolean s && is_boolean t

abbrev pub suits : List Entry → Option Kind → Option Kind → Bool
suits rows (Some s) (Some t) = assignable rows s t
suits rows _ _ = false

abbrev pub comparable : List Entry → Option Kind → Option Kind → Bool
comparable rows (Some s) (Some t) =
    is_reference s && is_reference t && (assignable rows s t || assignable rows t s)
comparable rows _ _ = false

abbrev pub equates : List Entry → Option Kind → Option Kind → Bool
equates rows s t = are_int s t || (are_boolean s t || comparable rows s t)

abbrev pub takes : List Entry → BinOp → Option Kind → Option Kind → Bool
takes rows op.Or s t = are_boolean s t
takes rows op.And s t = are_boolean s t
takes rows op.Eq s t = equates rows s t
takes rows op.Ne s t = equates rows s t
takes rows op.Lt s t = are_int s t
takes rows op.Gt s t = are_int s t
takes rows op.Le s t = are_int s t
takes rows op.Ge s t = are_int s t
takes rows op.Add s t = are_int s t
takes rows op.Sub s t = are_int s t
takes rows op.Mul s t = are_int s t
takes rows op.Div s t = are_int s t
takes rows op.Rem s t = are_int s t

abbrev pub takes_one : UnOp → Option Kind → Bool
takes_one sign.Plus t = is_int t
takes_one sign.Minus t = is_int t
takes_one sign.Not t = is_boolean t

-- the type of an operator's expression
abbrev pub sign_kind : UnOp → Kind
sign_kind sign.Plus = Int
sign_kind sign.Minus = Int
sign_kind sign.Not = Boolean

abbrev pub operator_kind : BinOp → Kind
operator_kind op.Add = Int
operator_kind op.Sub = Int
operator_kind op.Mul = Int
operator_kind op.Div = Int
operator_kind op.Rem = Int
operator_kind op.Or = Boolean
operator_kind op.And = Boolean
operator_kind op.Eq = Boolean
operator_kind op.Ne = Boolean
operator_kind op.Lt = Boolean
operator_kind op.Gt = Boolean
operator_kind op.Le = Boolean
operator_kind op.Ge = Boolean
