-- The parts that expressions are printed as, with what follows behind them.
use Rattle.std.proofs.Common.{ℕ, ◌==◌, if◌then◌else◌, Bool, List, ◌∷◌, Option, Some, None}
use Rattle.jr_lex.specs.Characters.{first_passes}
use Rattle.jr_lex.specs.declared.items.Keyword.TheVariants.{Int, Boolean, Class, New, Super, This, Null}
use Rattle.jr_lex.specs.declared.items.Symbol.{Symbol}
use Rattle.jr_lex.specs.declared.items.Symbol.TheVariants.{OpenParen, CloseParen, Comma, Dot, Equals, Bang, Plus as PlusSign, Minus as MinusSign, PlusPlus, MinusMinus}
use Rattle.jr_ast.specs.declared.operators.UnOp.{UnOp}
use Rattle.jr_ast.specs.declared.operators.UnOp.TheVariants.{Plus, Minus, Not}
use Rattle.jr_ast.specs.declared.operators.BumpOp.{BumpOp}
use Rattle.jr_ast.specs.declared.operators.BumpOp.TheVariants.{PreInc, PreDec, PostInc, PostDec}
use Rattle.jr_ast.specs.Tree.{Word, TypeName, int, boolean, named, Exp, number, truth, null, string, name, field, super_field, this, class_literal, call, super_call, create, paren, cast, unary, bump, binary, assign, compound, Target, no_target, on, Exps, end, more}
use Rattle.jr_grammar.specs.Tokens.{word, keyword, integer, text, symbol}
use Rattle.jr_grammar.specs.Spelling.{binary_symbol, compound_symbol, truth_keyword}
use Rattle.jr_print.specs.ExpressionText.{printed}
use Rattle.jr_print.proofs.TextParts.{Part, space, tok}

abbrev pub name_parts : {A : Type 0} → Option (Word A) → Word A → List Part → List Part
name_parts None w rest = tok (word w.text) ∷ rest
name_parts (Some o) w rest = tok (word o.text) ∷ tok (symbol Dot) ∷ tok (word w.text) ∷ rest

abbrev pub type_parts : {A : Type 0} → TypeName A → List Part → List Part
type_parts (int m) rest = tok (keyword Int) ∷ rest
type_parts (boolean m) rest = tok (keyword Boolean) ∷ rest
type_parts (named m o w) rest = name_parts o w rest

abbrev pub dot_parts : {A : Type 0} → Exp A → List Part → List Part
dot_parts (number m n) rest = space ∷ tok (symbol Dot) ∷ rest
dot_parts _ rest = tok (symbol Dot) ∷ rest

-- a sign before the parts of an operand with this text
abbrev pub sign_parts : Symbol → ℕ → List ℕ → List Part → List Part
sign_parts s sign operand rest = if first_passes (λ c. c == sign) operand then tok (symbol s) ∷ space ∷ rest else tok (symbol s) ∷ rest

abbrev pub unary_parts : UnOp → List ℕ → List Part → List Part
unary_parts Plus operand rest = sign_parts PlusSign 43 operand rest
unary_parts Minus operand rest = sign_parts MinusSign 45 operand rest
unary_parts Not operand rest = tok (symbol Bang) ∷ rest

abbrev pub before_parts : BumpOp → List Part → List Part
before_parts PreInc rest = tok (symbol PlusPlus) ∷ rest
before_parts PreDec rest = tok (symbol MinusMinus) ∷ rest
before_parts PostInc rest = rest
before_parts PostDec rest = rest

abbrev pub behind_parts : BumpOp → List Part → List Part
behind_parts PreInc rest = rest
behind_parts PreDec rest = rest
behind_parts PostInc rest = tok (symbol PlusPlus) ∷ rest
behind_parts PostDec rest = tok (symbol MinusMinus) ∷ rest

abbrev pub infix_parts : Symbol → List Part → List Part
infix_parts s rest = space ∷ tok (symbol s) ∷ space ∷ rest

abbrev mutual
  pub parts : {A : Type 0} → Exp A → List Part → List Part
  parts (number m n) rest = tok (integer n) ∷ rest
  parts (truth m b) rest = tok (keyword (truth_keyword b)) ∷ rest
  parts (null m) rest = tok (keyword Null) ∷ rest
  parts (string m s) rest = tok (text s) ∷ rest
  parts (name m w) rest = tok (word w.text) ∷ rest
  parts (field m e w) rest = parts e (dot_parts e (tok (word w.text) ∷ rest))
  parts (super_field m w) rest = tok (keyword Super) ∷ tok (symbol Dot) ∷ tok (word w.text) ∷ rest
  parts (this m) rest = tok (keyword This) ∷ rest
  parts (class_literal m t) rest = type_parts t (tok (symbol Dot) ∷ tok (keyword Class) ∷ rest)
  parts (call m t w es) rest = target_parts t (tok (word w.text) ∷ tok (symbol OpenParen) ∷ args_parts es (tok (symbol CloseParen) ∷ rest))
  parts (super_call m w es) rest = tok (keyword Super) ∷ tok (symbol Dot) ∷ tok (word w.text) ∷ tok (symbol OpenParen) ∷ args_parts es (tok (symbol CloseParen) ∷ rest)
  parts (create m t es) rest = tok (keyword New) ∷ space ∷ type_parts t (tok (symbol OpenParen) ∷ args_parts es (tok (symbol CloseParen) ∷ rest))
  parts (paren m e) rest = tok (symbol OpenParen) ∷ parts e (tok (symbol CloseParen) ∷ rest)
  parts (cast m t e) rest = tok (symbol OpenParen) ∷ type_parts t (tok (symbol CloseParen) ∷ space ∷ parts e rest)
  parts (unary m o e) rest = unary_parts o (printed e) (parts e rest)
  parts (bump m o e) rest = before_parts o (parts e (behind_parts o rest))
  parts (binary m o l r) rest = parts l (infix_parts (binary_symbol o) (parts r rest))
  parts (assign m t e) rest = parts t (infix_parts Equals (parts e rest))
  parts (compound m o t e) rest = parts t (infix_parts (compound_symbol o) (parts e rest))

  pub target_parts : {A : Type 0} → Target A → List Part → List Part
  target_parts no_target rest = rest
  target_parts (on e) rest = parts e (dot_parts e rest)

  pub args_parts : {A : Type 0} → Exps A → List Part → List Part
  args_parts end rest = rest
  args_parts (more e es) rest = parts e (more_parts es rest)

  pub more_parts : {A : Type 0} → Exps A → List Part → List Part
  more_parts end rest = rest
  more_parts (more e es) rest = tok (symbol Comma) ∷ space ∷ parts e (more_parts es rest)
