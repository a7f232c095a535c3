-- The text that names, types and expressions are printed as: bytes.
use Rattle.std.specs.Prelude.{ℕ, true, false, ◌==◌, if◌then◌else◌, codes, List, [], ◌∷◌, ◌++◌}
use Rattle.std.specs.Prelude.{Option, Some, None}
use Rattle.std.specs.Fmt.{decimal}
use Rattle.jr_lex.specs.Characters.{first_passes}
use Rattle.jr_lex.specs.Symbols.{symbol_text}
use Rattle.jr_ast.specs.declared.operators.UnOp.{UnOp}
use Rattle.jr_ast.specs.declared.operators.UnOp.TheVariants.{Plus, Minus, Not}
use Rattle.jr_ast.specs.declared.operators.BinOp.{BinOp}
use Rattle.jr_ast.specs.declared.operators.BumpOp.{BumpOp}
use Rattle.jr_ast.specs.declared.operators.BumpOp.TheVariants.{PreInc, PreDec, PostInc, PostDec}
use Rattle.jr_ast.specs.Tree.{Word, TypeName, int, boolean, named, Exp, number, truth, null, string}
use Rattle.jr_ast.specs.Tree.{name, field, super_field, this, class_literal, call, super_call}
use Rattle.jr_ast.specs.Tree.{create, paren, cast, unary, bump, binary, assign, compound, Target}
use Rattle.jr_ast.specs.Tree.{no_target, on, Exps, end, more}
use Rattle.jr_grammar.specs.Spelling.{binary_symbol, compound_symbol}

-- ---- names and types

-- a simple name, or one behind the name of its outer class and a dot
abbrev pub printed_name : {A : Type 0} → Option (Word A) → Word A → List ℕ
printed_name None w = w.text
printed_name (Some o) w = o.text ++ codes "." ++ w.text

abbrev pub printed_type : {A : Type 0} → TypeName A → List ℕ
printed_type (int m) = codes "int"
printed_type (boolean m) = codes "boolean"
printed_type (named m o w) = printed_name o w

-- ---- operators

-- The sign of the code, before its operand's text: no space between, but one where that text begins
-- with the same sign.
abbrev pub with_sign : ℕ → List ℕ → List ℕ
with_sign sign text = if first_passes (λ c. c == sign) text then sign ∷ 32 ∷ text else sign ∷ text

-- a sign, or `!`, which is none and takes no space, before its operand's text
abbrev pub printed_unary : UnOp → List ℕ → List ℕ
printed_unary Plus text = with_sign 43 text
printed_unary Minus text = with_sign 45 text
printed_unary Not text = codes "!" ++ text

-- `++` or `--` directly before its operand's text, or directly behind it
abbrev pub before_text : BumpOp → List ℕ
before_text PreInc = codes "++"
before_text PreDec = codes "--"
before_text PostInc = []
before_text PostDec = []

abbrev pub behind_text : BumpOp → List ℕ
behind_text PreInc = []
behind_text PreDec = []
behind_text PostInc = codes "++"
behind_text PostDec = codes "--"

-- a binary or an assignment operator, with one space on both sides
abbrev pub printed_binary : BinOp → List ℕ
printed_binary o = codes " " ++ symbol_text (binary_symbol o) ++ codes " "

abbrev pub printed_compound : BinOp → List ℕ
printed_compound o = codes " " ++ symbol_text (compound_symbol o) ++ codes " "

-- ---- expressions

-- The dot behind an expression: directly behind it, but one space behind an integer literal, which
-- `1.` would make a bad number.
abbrev pub printed_dot : {A : Type 0} → Exp A → List ℕ
printed_dot (number m n) = codes " ."
printed_dot _ = codes "."

abbrev mutual
  pub printed : {A : Type 0} → Exp A → List ℕ
  printed (number m n) = decimal n
  printed (truth m b) = if b then codes "true" else codes "false"
  printed (null m) = codes "null"
  printed (string m s) = codes "\"" ++ s ++ codes "\""
  printed (name m w) = w.text
  printed (field m e w) = printed e ++ printed_dot e ++ w.text
  printed (super_field m w) = codes "super." ++ w.text
  printed (this m) = codes "this"
  printed (class_literal m t) = printed_type t ++ codes ".class"
  printed (call m t w es) = printed_target t ++ w.text ++ codes "(" ++ printed_args es ++ codes ")"
  printed (super_call m w es) = codes "super." ++ w.text ++ codes "("
      ++ printed_args es ++ codes ")"
  printed (create m t es) = codes "new " ++ printed_type t ++ codes "("
      ++ printed_args es ++ codes ")"
  printed (paren m e) = codes "(" ++ printed e ++ codes ")"
  printed (cast m t e) = codes "(" ++ printed_type t ++ codes ") " ++ printed e
  printed (unary m o e) = printed_unary o (printed e)
  printed (bump m o e) = before_text o ++ printed e ++ behind_text o
  printed (binary m o l r) = printed l ++ printed_binary o ++ printed r
  printed (assign m t e) = printed t ++ codes " = " ++ printed e
  printed (compound m o t e) = printed t ++ printed_compound o ++ printed e

  -- what a call is made on, with the dot behind it
  pub printed_target : {A : Type 0} → Target A → List ℕ
  printed_target no_target = []
  printed_target (on e) = printed e ++ printed_dot e

  -- arguments, with a comma and one space between two
  pub printed_args : {A : Type 0} → Exps A → List ℕ
  printed_args end = []
  printed_args (more e es) = printed e ++ printed_more es

  -- arguments behind others
  pub printed_more : {A : Type 0} → Exps A → List ℕ
  printed_more end = []
  printed_more (more e es) = codes ", " ++ printed e ++ printed_more es
