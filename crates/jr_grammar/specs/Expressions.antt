-- What the expression and the statement expression are that tokens spell, and where reading stops.
use Rattle.std.specs.Prelude.{◌≡◌, ℕ, List}
use Rattle.jr_text.specs.declared.spans.Span.{Span}
use Rattle.jr_ast.specs.Tree.{Exp}
use Rattle.jr_grammar.specs.Tokens.{Token, kinds}
use Rattle.jr_grammar.specs.Spelling.{toks}
use Rattle.jr_grammar.specs.Shape.{Shaped, ShapedStatement}
use Rattle.jr_grammar.specs.Bare.{Bare}
use Rattle.jr_grammar.specs.Stands.{Tokens, Stands}
use Rattle.jr_grammar.specs.ExpressionLayout.{exp_layout}
use Rattle.jr_grammar.specs.Readings as Readings

-- ---- the tokens are the tree

pub record IsExpression {A : Type 0} (tokens : List Token) (tree : Exp A) : Type 0 where
  pub shaped : Shaped tree
  pub spells : toks tree ≡ tokens

pub record IsStatementExpression {A : Type 0} (tokens : List Token) (tree : Exp A) : Type 0 where
  pub shaped : ShapedStatement tree
  pub spells : toks tree ≡ tokens

-- the tokens are no expression
abbrev pub IsNoExpression : List Token → Type 0
IsNoExpression tokens = (tree : Exp Bare) → IsExpression tokens tree → ⊥

abbrev pub IsNoStatementExpression : List Token → Type 0
IsNoStatementExpression tokens = (tree : Exp Bare) → IsStatementExpression tokens tree → ⊥

-- The tokens are the expression, and each mark is the span of its node's tokens.
pub record IsMarkedExpression (tokens : Tokens) (tree : Exp Span) : Type 0 where
  pub shaped : Shaped tree
  pub spells : toks tree ≡ kinds tokens
  pub marks : Stands (exp_layout tree) tokens

pub record IsMarkedStatementExpression (tokens : Tokens) (tree : Exp Span) : Type 0 where
  pub shaped : ShapedStatement tree
  pub spells : toks tree ≡ kinds tokens
  pub marks : Stands (exp_layout tree) tokens

-- ---- how far tokens are read

-- no two expressions spell the same tokens
abbrev pub OneExpression : Type 0
OneExpression = Readings.OneTree (Exp Bare) toks Shaped

abbrev pub OneStatementExpression : Type 0
OneStatementExpression = Readings.OneTree (Exp Bare) toks ShapedStatement

-- the first n tokens are the expression, and no more of them are one
abbrev pub IsLongestExpression : List Token → ℕ → Exp Bare → Type 0
IsLongestExpression tokens n tree = Readings.IsLongest (Exp Bare) toks Shaped tokens n tree

abbrev pub IsLongestStatementExpression : List Token → ℕ → Exp Bare → Type 0
IsLongestStatementExpression tokens n tree =
    Readings.IsLongest (Exp Bare) toks ShapedStatement tokens n tree

-- the tokens begin with no expression
abbrev pub HasNoExpression : List Token → Type 0
HasNoExpression tokens = Readings.HasNone (Exp Bare) toks Shaped tokens

abbrev pub HasNoStatementExpression : List Token → Type 0
HasNoStatementExpression tokens = Readings.HasNone (Exp Bare) toks ShapedStatement tokens

-- the first n tokens begin some expression, and with the one behind them they begin none
abbrev pub IsExpressionStop : List Token → ℕ → Type 0
IsExpressionStop tokens n = Readings.IsStop (Exp Bare) toks Shaped tokens n

abbrev pub IsStatementExpressionStop : List Token → ℕ → Type 0
IsStatementExpressionStop tokens n = Readings.IsStop (Exp Bare) toks ShapedStatement tokens n

-- tokens have one stop, and one longest expression or none
abbrev pub OneExpressionReading : Type 0
OneExpressionReading = Readings.OneReading (Exp Bare) toks Shaped

abbrev pub OneStatementExpressionReading : Type 0
OneStatementExpressionReading = Readings.OneReading (Exp Bare) toks ShapedStatement
