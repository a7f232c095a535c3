-- What is read by each of the two rules.
use Rattle.std.specs.Prelude.{ℕ, List}
use Rattle.jr_text.specs.declared.spans.Span.{Span}
use Rattle.jr_lex.specs.declared.items.Item.{Item}
use Rattle.jr_ast.specs.Tree.{Exp}
use Rattle.jr_pexpr.specs.declared.rules.Rule.{Rule}
use Rattle.jr_pexpr.specs.declared.rules.Rule.TheVariants.{Expression, StatementExpression}
use Rattle.jr_pexpr.specs.Parsing.{
  IsExpressionFrom,
  IsNoExpressionFrom,
  IsStatementExpressionFrom,
  IsNoStatementExpressionFrom,
}

abbrev pub IsFrom : Rule → List ℕ → List Item → ℕ → Exp Span → ℕ → ℕ → Type 0
IsFrom Expression bytes items from tree behind stop =
    IsExpressionFrom bytes items from tree behind stop
IsFrom StatementExpression bytes items from tree behind stop =
    IsStatementExpressionFrom bytes items from tree behind stop

abbrev pub IsNoneFor : Rule → List ℕ → List Item → ℕ → ℕ → Type 0
IsNoneFor Expression bytes items from at = IsNoExpressionFrom bytes items from at
IsNoneFor StatementExpression bytes items from at = IsNoStatementExpressionFrom bytes items from at
