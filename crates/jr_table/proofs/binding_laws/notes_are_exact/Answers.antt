use Rattle.jr_table.specs.BindingLaws.{ExpressionIsNoted, ExpressionsAreNoted}
use Rattle.jr_table.proofs.BreakingExpressions.{expression_breaks, expression_binds}
use Rattle.jr_table.proofs.binding_laws.notes_are_exact.Goals as goal

expressions : (A : Type 0) → ExpressionsAreNoted A
expressions A begins rows fit found c role base e = record {
  rules = λ at r. expression_breaks rows fit found c begins role base e at r;
  bindings = λ at d. expression_binds rows fit found c begins role base e at d;
}

pub returns : goal.returns
returns g c = record { expressions = expressions _ }
