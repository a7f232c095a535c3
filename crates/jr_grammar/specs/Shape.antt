-- Which trees are expressions: the side conditions on names, types and expressions (JLS 15).
use Rattle.std.specs.Prelude.{ℕ, ◌≤◌, ◌<◌, Bool, true, false, if◌then◌else◌}
use Rattle.jr_ast.specs.declared.operators.UnOp.{UnOp}
use Rattle.jr_ast.specs.declared.operators.UnOp.TheVariants.{Plus, Minus, Not}
use Rattle.jr_ast.specs.declared.operators.BinOp.{BinOp}
use Rattle.jr_ast.specs.declared.operators.BinOp.TheVariants.{Or, And, Eq, Ne, Lt, Gt, Le, Ge, Add}
use Rattle.jr_ast.specs.declared.operators.BinOp.TheVariants.{Sub, Mul, Div, Rem}
use Rattle.jr_ast.specs.declared.operators.BumpOp.{BumpOp}
use Rattle.jr_ast.specs.declared.operators.BumpOp.TheVariants.{PreInc, PreDec, PostInc, PostDec}
use Rattle.jr_ast.specs.Tree.{TypeName, int, boolean, named, Exp, number, truth, null, string, name}
use Rattle.jr_ast.specs.Tree.{field, super_field, this, class_literal, call, super_call, create}
use Rattle.jr_ast.specs.Tree.{paren, cast, unary, bump, binary, assign, compound, Target, no_target}
use Rattle.jr_ast.specs.Tree.{on, Exps, end, more}

-- ---- levels: how tightly a form binds, the loosest first

abbrev pub assignment_level : ℕ
assignment_level = 1

abbrev pub or_level : ℕ
or_level = 2

abbrev pub and_level : ℕ
and_level = 3

abbrev pub equality_level : ℕ
equality_level = 4

abbrev pub relation_level : ℕ
relation_level = 5

abbrev pub sum_level : ℕ
sum_level = 6

abbrev pub product_level : ℕ
product_level = 7

-- what begins with a sign, or with `++` or `--` (JLS 15.15)
abbrev pub sign_level : ℕ
sign_level = 8

-- a unary expression that begins with no sign and no `++` or `--`, and so may stand behind a cast
-- (JLS 15.15)
abbrev pub unsigned_level : ℕ
unsigned_level = 9

abbrev pub primary_level : ℕ
primary_level = 10

-- `||`, `&&`, equality, relations, sums, products (JLS 15.17 to 15.24)
abbrev pub rank_of : BinOp → ℕ
rank_of Or = or_level
rank_of And = and_level
rank_of Eq = equality_level
rank_of Ne = equality_level
rank_of Lt = relation_level
rank_of Gt = relation_level
rank_of Le = relation_level
rank_of Ge = relation_level
rank_of Add = sum_level
rank_of Sub = sum_level
rank_of Mul = product_level
rank_of Div = product_level
rank_of Rem = product_level

-- A sign is a unary expression and no more. `!` is one that may stand behind a cast (JLS 15.15).
abbrev pub unary_level : UnOp → ℕ
unary_level Plus = sign_level
unary_level Minus = sign_level
unary_level Not = unsigned_level

-- In front of its operand it is a unary expression, behind it one that may stand behind a cast (JLS
-- 15.14, 15.15).
abbrev pub bump_level : BumpOp → ℕ
bump_level PreInc = sign_level
bump_level PreDec = sign_level
bump_level PostInc = unsigned_level
bump_level PostDec = unsigned_level

abbrev pub level_of : {A : Type 0} → Exp A → ℕ
level_of (number m n) = primary_level
level_of (truth m b) = primary_level
level_of (null m) = primary_level
level_of (string m s) = primary_level
level_of (name m w) = primary_level
level_of (field m e w) = primary_level
level_of (super_field m w) = primary_level
level_of (this m) = primary_level
level_of (class_literal m t) = primary_level
level_of (call m t w es) = primary_level
level_of (super_call m w es) = primary_level
level_of (create m t es) = primary_level
level_of (paren m e) = primary_level
level_of (cast m t e) = unsigned_level
level_of (unary m o e) = unary_level o
level_of (bump m o e) = bump_level o
level_of (binary m o l r) = rank_of o
level_of (assign m t e) = assignment_level
level_of (compound m o t e) = assignment_level

-- ---- the side conditions

-- what may stand in front of a dot (JLS 15.8, 15.11, 15.12)
abbrev pub IsPrimary : {A : Type 0} → Exp A → Type 0
IsPrimary e = primary_level ≤ level_of e

-- what may stand behind a sign or `!` (JLS 15.15)
abbrev pub IsUnaryOperand : {A : Type 0} → Exp A → Type 0
IsUnaryOperand e = sign_level ≤ level_of e

-- what may stand behind a cast: what begins with no sign and no `++` or `--` in front (JLS 15.16)
abbrev pub IsCastOperand : {A : Type 0} → Exp A → Type 0
IsCastOperand e = unsigned_level ≤ level_of e

-- Operators of one rank group to the left (JLS 15.17 to 15.24), and those of a higher rank bind
-- more tightly (JLS 15.7.3).
abbrev pub GroupsLeft : {A : Type 0} → BinOp → Exp A → Exp A → Type 0
GroupsLeft o l r = (rank_of o ≤ level_of l) × (rank_of o < level_of r)

-- What is assigned (JLS 15.26), and what `++` and `--` take (JLS 15.14.2, 15.14.3, 15.15.1,
-- 15.15.2): a name, or a field of a primary or of `super`. That no parentheses stand around it is a
-- rule of this profile: a parenthesized variable is a variable (JLS 15.8.5), and javac takes
-- `(a)++` and `(a)=3`.
abbrev pub IsTarget : {A : Type 0} → Exp A → Type 0
IsTarget (number m n) = ⊥
IsTarget (truth m b) = ⊥
IsTarget (null m) = ⊥
IsTarget (string m s) = ⊥
IsTarget (name m w) = Unit {0}
IsTarget (field m e w) = Unit {0}
IsTarget (super_field m w) = Unit {0}
IsTarget (this m) = ⊥
IsTarget (class_literal m t) = ⊥
IsTarget (call m t w es) = ⊥
IsTarget (super_call m w es) = ⊥
IsTarget (create m t es) = ⊥
IsTarget (paren m e) = ⊥
IsTarget (cast m t e) = ⊥
IsTarget (unary m o e) = ⊥
IsTarget (bump m o e) = ⊥
IsTarget (binary m o l r) = ⊥
IsTarget (assign m t e) = ⊥
IsTarget (compound m o t e) = ⊥

-- the operators that may stand before the `=` of an assignment (JLS 15.26.2)
abbrev pub IsCompound : BinOp → Type 0
IsCompound Or = ⊥
IsCompound And = ⊥
IsCompound Eq = ⊥
IsCompound Ne = ⊥
IsCompound Lt = ⊥
IsCompound Gt = ⊥
IsCompound Le = ⊥
IsCompound Ge = ⊥
IsCompound Add = Unit {0}
IsCompound Sub = Unit {0}
IsCompound Mul = Unit {0}
IsCompound Div = Unit {0}
IsCompound Rem = Unit {0}

-- a class's name: what may stand in a cast, before `.class` and behind `new` (JLS 15.16, 15.8.2,
-- 15.9)
abbrev pub IsNamed : {A : Type 0} → TypeName A → Type 0
IsNamed (int m) = ⊥
IsNamed (boolean m) = ⊥
IsNamed (named m o w) = Unit {0}

-- 2147483648 stands only where the token directly before it is a unary minus, and no greater
-- literal stands anywhere. The language makes the literal the minus's own operand (JLS 3.10.1);
-- this profile asks for the token alone, and so lets in `-2147483648 .x`, where the operand is the
-- field.
abbrev pub greatest : Bool → ℕ
greatest minus = if minus then 2147483648 else 2147483647

abbrev pub FitsInt : Bool → ℕ → Type 0
FitsInt minus n = n ≤ greatest minus

abbrev pub is_minus : UnOp → Bool
is_minus Plus = false
is_minus Minus = true
is_minus Not = false

-- whether the operand of `++` or `--` stands directly behind what the whole stands behind
abbrev pub behind_of : Bool → BumpOp → Bool
behind_of minus PreInc = false
behind_of minus PreDec = false
behind_of minus PostInc = minus
behind_of minus PostDec = minus

-- ---- shape

abbrev mutual
  -- `minus` says whether the token directly before the expression is a unary minus.
  pub ShapedBehind : {A : Type 0} → Bool → Exp A → Type 0
  ShapedBehind minus (number m n) = FitsInt minus n
  ShapedBehind minus (truth m b) = Unit {0}
  ShapedBehind minus (null m) = Unit {0}
  ShapedBehind minus (string m s) = Unit {0}
  ShapedBehind minus (name m w) = Unit {0}
  ShapedBehind minus (field m e w) = IsPrimary e × ShapedBehind minus e
  ShapedBehind minus (super_field m w) = Unit {0}
  ShapedBehind minus (this m) = Unit {0}
  ShapedBehind minus (class_literal m t) = IsNamed t
  ShapedBehind minus (call m t w es) = ShapedTarget minus t × AllShaped es
  ShapedBehind minus (super_call m w es) = AllShaped es
  ShapedBehind minus (create m t es) = IsNamed t × AllShaped es
  ShapedBehind minus (paren m e) = ShapedBehind false e
  ShapedBehind minus (cast m t e) = IsNamed t × IsCastOperand e × ShapedBehind false e
  ShapedBehind minus (unary m o e) = IsUnaryOperand e × ShapedBehind (is_minus o) e
  ShapedBehind minus (bump m o e) = IsTarget e × ShapedBehind (behind_of minus o) e
  ShapedBehind minus (binary m o l r) =
      GroupsLeft o l r × ShapedBehind minus l × ShapedBehind false r
  ShapedBehind minus (assign m t e) = IsTarget t × ShapedBehind minus t × ShapedBehind false e
  ShapedBehind minus (compound m o t e) =
      IsCompound o × IsTarget t × ShapedBehind minus t × ShapedBehind false e

  -- a call is made on a primary
  pub ShapedTarget : {A : Type 0} → Bool → Target A → Type 0
  ShapedTarget minus no_target = Unit {0}
  ShapedTarget minus (on e) = IsPrimary e × ShapedBehind minus e

  pub AllShaped : {A : Type 0} → Exps A → Type 0
  AllShaped end = Unit {0}
  AllShaped (more e es) = ShapedBehind false e × AllShaped es

-- an expression
abbrev pub Shaped : {A : Type 0} → Exp A → Type 0
Shaped e = ShapedBehind false e

-- what may be a statement: an assignment, a `++` or `--`, a call, or `new` (JLS 14.8)
abbrev pub IsStatementForm : {A : Type 0} → Exp A → Type 0
IsStatementForm (number m n) = ⊥
IsStatementForm (truth m b) = ⊥
IsStatementForm (null m) = ⊥
IsStatementForm (string m s) = ⊥
IsStatementForm (name m w) = ⊥
IsStatementForm (field m e w) = ⊥
IsStatementForm (super_field m w) = ⊥
IsStatementForm (this m) = ⊥
IsStatementForm (class_literal m t) = ⊥
IsStatementForm (call m t w es) = Unit {0}
IsStatementForm (super_call m w es) = Unit {0}
IsStatementForm (create m t es) = Unit {0}
IsStatementForm (paren m e) = ⊥
IsStatementForm (cast m t e) = ⊥
IsStatementForm (unary m o e) = ⊥
IsStatementForm (bump m o e) = Unit {0}
IsStatementForm (binary m o l r) = ⊥
IsStatementForm (assign m t e) = Unit {0}
IsStatementForm (compound m o t e) = Unit {0}

-- a statement expression
abbrev pub ShapedStatement : {A : Type 0} → Exp A → Type 0
ShapedStatement e = IsStatementForm e × Shaped e
