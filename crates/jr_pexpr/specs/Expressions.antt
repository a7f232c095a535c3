-- What the machine answers of expressions, and its laws.
use Rattle.std.specs.Prelude.{◌≡◌, ℕ, List, [], Option, Some, MatchOption, option_map}
use Rattle.jr_text.specs.declared.spans.Span.{Span}
use Rattle.jr_ast.specs.Tree.{Exp}
use Rattle.jr_grammar.specs.Tokens.{Token, Placed, kinds}
use Rattle.jr_grammar.specs.Spelling.{toks}
use Rattle.jr_grammar.specs.Shape.{Shaped}
use Rattle.jr_grammar.specs.Stands.{Tokens}
use Rattle.jr_grammar.specs.Bare.{Bare, bare}
use Rattle.jr_grammar.specs.Expressions.{
  IsMarkedExpression,
  IsMarkedStatementExpression,
  IsLongestExpression,
  IsLongestStatementExpression,
  HasNoExpression,
  HasNoStatementExpression,
  IsExpressionStop,
  IsStatementExpressionStop,
}
use Rattle.jr_pexpr.specs.BareMachine.{
  bare_state,
  bare_step,
  bare_whole,
  bare_statement_step,
  bare_statement_whole,
}
use Rattle.jr_pexpr.specs.Machine.{State, want}
use Rattle.jr_pexpr.specs.Marked.{
  span_step,
  span_whole,
  span_run,
  span_statement_step,
  span_statement_whole,
  span_statement_run,
}
use Rattle.jr_pexpr.specs.Runs as Runs

abbrev pub expression_length : List Token → Option ℕ
expression_length tokens =
    Runs.longest (State Bare) Token (Exp Bare) bare_step bare_whole (want []) tokens

abbrev pub expression_stop : List Token → ℕ
expression_stop tokens =
    Runs.stop_of (State Bare) Token (Exp Bare) bare_step bare_whole (want []) tokens

abbrev pub statement_expression_length : List Token → Option ℕ
statement_expression_length tokens =
    Runs.longest (State Bare) Token (Exp Bare) bare_statement_step bare_statement_whole (want [])
    tokens

abbrev pub statement_expression_stop : List Token → ℕ
statement_expression_stop tokens =
    Runs.stop_of (State Bare) Token (Exp Bare) bare_statement_step bare_statement_whole (want [])
    tokens

-- over tokens with their places
abbrev pub placed_length : Tokens → Option ℕ
placed_length tokens =
    Runs.longest (State Span) (Placed Span) (Exp Span) span_step span_whole (want []) tokens

abbrev pub placed_stop : Tokens → ℕ
placed_stop tokens =
    Runs.stop_of (State Span) (Placed Span) (Exp Span) span_step span_whole (want []) tokens

abbrev pub placed_statement_length : Tokens → Option ℕ
placed_statement_length tokens =
    Runs.longest (State Span) (Placed Span) (Exp Span) span_statement_step span_statement_whole
    (want []) tokens

abbrev pub placed_statement_stop : Tokens → ℕ
placed_statement_stop tokens =
    Runs.stop_of (State Span) (Placed Span) (Exp Span) span_statement_step span_statement_whole
    (want []) tokens

-- ---- laws

-- what the machine finds is the longest, and none is there where it finds none
abbrev pub LengthIsLongest : Type 0
LengthIsLongest = (tokens : List Token) →
    MatchOption (expression_length tokens) (HasNoExpression tokens) (λ n. (tree : Exp Bare)
    × IsLongestExpression tokens n tree)

abbrev pub StatementLengthIsLongest : Type 0
StatementLengthIsLongest =
    (tokens : List Token) →
    MatchOption (statement_expression_length tokens) (HasNoStatementExpression tokens)
    (λ n. (tree : Exp Bare) × IsLongestStatementExpression tokens n tree)

abbrev pub StopIsExact : Type 0
StopIsExact = (tokens : List Token) → IsExpressionStop tokens (expression_stop tokens)

abbrev pub StatementStopIsExact : Type 0
StatementStopIsExact = (tokens : List Token) →
    IsStatementExpressionStop tokens (statement_expression_stop tokens)

-- with places the machine steps, finds and stops as without them
pub record StepsAlike : Type 0 where
  pub step : (s : State Span) (p : Placed Span) →
      option_map bare_state (span_step s p) ≡ bare_step (bare_state s) p.token
  pub statement_step : (s : State Span) (p : Placed Span) →
      option_map bare_state (span_statement_step s p) ≡ bare_statement_step (bare_state s) p.token
  pub whole : (s : State Span) → option_map bare (span_whole s) ≡ bare_whole (bare_state s)
  pub statement_whole : (s : State Span) →
      option_map bare (span_statement_whole s) ≡ bare_statement_whole (bare_state s)
  pub length : (tokens : Tokens) → placed_length tokens ≡ expression_length (kinds tokens)
  pub stop : (tokens : Tokens) → placed_stop tokens ≡ expression_stop (kinds tokens)
  pub statement_length : (tokens : Tokens) →
      placed_statement_length tokens ≡ statement_expression_length (kinds tokens)
  pub statement_stop : (tokens : Tokens) →
      placed_statement_stop tokens ≡ statement_expression_stop (kinds tokens)

-- what the machine builds over tokens with their places
pub record BuildsMarked : Type 0 where
  pub expression : (tokens : Tokens) (s : State Span) (tree : Exp Span) →
      span_run (want []) tokens ≡ Some s → span_whole s ≡ Some tree → IsMarkedExpression tokens tree
  pub statement : (tokens : Tokens) (s : State Span) (tree : Exp Span) →
      span_statement_run (want []) tokens ≡ Some s → span_statement_whole s ≡ Some tree →
      IsMarkedStatementExpression tokens tree

-- Trees with places that spell the same tokens are the same but for their marks.
abbrev pub OneMarkedExpression : Type 0
OneMarkedExpression = (a b : Exp Span) → Shaped a → Shaped b → toks a ≡ toks b → bare a ≡ bare b

-- Trees that tokens with places are, each mark the span of its node's tokens, are equal, marks
-- included.
pub record OneMarked : Type 0 where
  pub expression : (tokens : Tokens) (a b : Exp Span) → IsMarkedExpression tokens a →
      IsMarkedExpression tokens b → a ≡ b
  pub statement : (tokens : Tokens) (a b : Exp Span) → IsMarkedStatementExpression tokens a →
      IsMarkedStatementExpression tokens b → a ≡ b
