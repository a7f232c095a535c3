-- The tokens that names, types and expressions spell (JLS 6.5, 4.1, 15).
use Rattle.std.specs.Prelude.{Bool, true, false, List, [], ◌∷◌, ◌++◌, Option, Some, None}
use Rattle.jr_lex.specs.declared.items.Keyword.{Keyword}
use Rattle.jr_lex.specs.declared.items.Keyword.TheVariants.{Int, Boolean, Class, New, Super, This}
use Rattle.jr_lex.specs.declared.items.Keyword.TheVariants.{True, False, Null}
use Rattle.jr_lex.specs.declared.items.Symbol.{Symbol}
use Rattle.jr_lex.specs.declared.items.Symbol.TheVariants.{OpenParen, CloseParen, Comma, Dot}
use Rattle.jr_lex.specs.declared.items.Symbol.TheVariants.{Equals, Bang, Plus as PlusSign}
use Rattle.jr_lex.specs.declared.items.Symbol.TheVariants.{Minus as MinusSign, PlusPlus, MinusMinus}
use Rattle.jr_lex.specs.declared.items.Symbol.TheVariants.{BarBar, AndAnd, EqualEqual, NotEqual}
use Rattle.jr_lex.specs.declared.items.Symbol.TheVariants.{Less, Greater, LessEqual, GreaterEqual}
use Rattle.jr_lex.specs.declared.items.Symbol.TheVariants.{Star, Slash, Percent, PlusEquals}
use Rattle.jr_lex.specs.declared.items.Symbol.TheVariants.{MinusEquals, StarEquals, SlashEquals}
use Rattle.jr_lex.specs.declared.items.Symbol.TheVariants.{PercentEquals}
use Rattle.jr_ast.specs.declared.operators.UnOp.{UnOp}
use Rattle.jr_ast.specs.declared.operators.UnOp.TheVariants.{Plus, Minus, Not}
use Rattle.jr_ast.specs.declared.operators.BinOp.{BinOp}
use Rattle.jr_ast.specs.declared.operators.BinOp.TheVariants.{Or, And, Eq, Ne, Lt, Gt, Le, Ge, Add}
use Rattle.jr_ast.specs.declared.operators.BinOp.TheVariants.{Sub, Mul, Div, Rem}
use Rattle.jr_ast.specs.declared.operators.BumpOp.{BumpOp}
use Rattle.jr_ast.specs.declared.operators.BumpOp.TheVariants.{PreInc, PreDec, PostInc, PostDec}
use Rattle.jr_ast.specs.Tree.{Word, TypeName, int, boolean, named, Exp, number, truth, null, string}
use Rattle.jr_ast.specs.Tree.{name, field, super_field, this, class_literal, call, super_call}
use Rattle.jr_ast.specs.Tree.{create, paren, cast, unary, bump, binary, assign, compound, Target}
use Rattle.jr_ast.specs.Tree.{no_target, on, Exps, end, more}
use Rattle.jr_grammar.specs.Tokens.{Token, word, keyword, integer, text, symbol}

-- ---- operators

-- a sign, or `!` (JLS 15.15.3, 15.15.4, 15.15.6)
abbrev pub unary_symbol : UnOp → Symbol
unary_symbol Plus = PlusSign
unary_symbol Minus = MinusSign
unary_symbol Not = Bang

-- JLS 15.17 to 15.24
abbrev pub binary_symbol : BinOp → Symbol
binary_symbol Or = BarBar
binary_symbol And = AndAnd
binary_symbol Eq = EqualEqual
binary_symbol Ne = NotEqual
binary_symbol Lt = Less
binary_symbol Gt = Greater
binary_symbol Le = LessEqual
binary_symbol Ge = GreaterEqual
binary_symbol Add = PlusSign
binary_symbol Sub = MinusSign
binary_symbol Mul = Star
binary_symbol Div = Slash
binary_symbol Rem = Percent

-- The operator with `=` behind it (JLS 15.26.2). The other operators have no such form here: the
-- shape refuses them.
abbrev pub compound_symbol : BinOp → Symbol
compound_symbol Add = PlusEquals
compound_symbol Sub = MinusEquals
compound_symbol Mul = StarEquals
compound_symbol Div = SlashEquals
compound_symbol Rem = PercentEquals
compound_symbol Or = binary_symbol Or
compound_symbol And = binary_symbol And
compound_symbol Eq = binary_symbol Eq
compound_symbol Ne = binary_symbol Ne
compound_symbol Lt = binary_symbol Lt
compound_symbol Gt = binary_symbol Gt
compound_symbol Le = binary_symbol Le
compound_symbol Ge = binary_symbol Ge

-- `++` or `--` in front of what is spelled so, or behind it (JLS 15.14.2, 15.14.3, 15.15.1,
-- 15.15.2)
abbrev pub bump_toks : BumpOp → List Token → List Token
bump_toks PreInc x = symbol PlusPlus ∷ x
bump_toks PreDec x = symbol MinusMinus ∷ x
bump_toks PostInc x = x ++ (symbol PlusPlus ∷ [])
bump_toks PostDec x = x ++ (symbol MinusMinus ∷ [])

abbrev pub truth_keyword : Bool → Keyword
truth_keyword true = True
truth_keyword false = False

-- ---- names and types

-- a simple name, or one behind the name of its outer class
abbrev pub name_toks : {A : Type 0} → Option (Word A) → Word A → List Token
name_toks None w = word w.text ∷ []
name_toks (Some o) w = word o.text ∷ symbol Dot ∷ word w.text ∷ []

abbrev pub type_toks : {A : Type 0} → TypeName A → List Token
type_toks (int m) = keyword Int ∷ []
type_toks (boolean m) = keyword Boolean ∷ []
type_toks (named m o w) = name_toks o w

-- ---- expressions

abbrev mutual
  pub toks : {A : Type 0} → Exp A → List Token
  toks (number m n) = integer n ∷ []
  toks (truth m b) = keyword (truth_keyword b) ∷ []
  toks (null m) = keyword Null ∷ []
  toks (string m s) = text s ∷ []
  toks (name m w) = word w.text ∷ []
  toks (field m e w) = toks e ++ (symbol Dot ∷ word w.text ∷ [])
  toks (super_field m w) = keyword Super ∷ symbol Dot ∷ word w.text ∷ []
  toks (this m) = keyword This ∷ []
  toks (class_literal m t) = type_toks t ++ (symbol Dot ∷ keyword Class ∷ [])
  toks (call m t w es) = target_toks t
      ++ (word w.text ∷ symbol OpenParen ∷ (args_toks es ++ (symbol CloseParen ∷ [])))
  toks (super_call m w es) = keyword Super ∷ symbol Dot ∷ word w.text ∷ symbol OpenParen
      ∷ (args_toks es ++ (symbol CloseParen ∷ []))
  toks (create m t es) = keyword New
      ∷ (type_toks t ++ (symbol OpenParen ∷ (args_toks es ++ (symbol CloseParen ∷ []))))
  toks (paren m e) = symbol OpenParen ∷ (toks e ++ (symbol CloseParen ∷ []))
  toks (cast m t e) = symbol OpenParen ∷ (type_toks t ++ (symbol CloseParen ∷ toks e))
  toks (unary m o e) = symbol (unary_symbol o) ∷ toks e
  toks (bump m o e) = bump_toks o (toks e)
  toks (binary m o l r) = toks l ++ (symbol (binary_symbol o) ∷ toks r)
  toks (assign m t e) = toks t ++ (symbol Equals ∷ toks e)
  toks (compound m o t e) = toks t ++ (symbol (compound_symbol o) ∷ toks e)

  -- what a call is made on, with the dot behind it
  pub target_toks : {A : Type 0} → Target A → List Token
  target_toks no_target = []
  target_toks (on e) = toks e ++ (symbol Dot ∷ [])

  -- arguments, with a comma between two
  pub args_toks : {A : Type 0} → Exps A → List Token
  args_toks end = []
  args_toks (more e es) = toks e ++ more_toks es

  -- arguments behind others
  pub more_toks : {A : Type 0} → Exps A → List Token
  more_toks end = []
  more_toks (more e es) = symbol Comma ∷ (toks e ++ more_toks es)
