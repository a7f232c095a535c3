use Rattle.jr_table.specs.NotingLaws.{StatementsAreNoted}
use Rattle.jr_table.proofs.BreakingStatements.{stmt_breaks, stmt_binds}
use Rattle.jr_table.proofs.noting_laws.statements_are_noted.Goals as goal

noted : (A : Type 0) → StatementsAreNoted A
noted A begins rows fit found number c base x = record {
  rules = λ at r. stmt_breaks begins rows number c base fit found x at r;
  bindings = λ at d. stmt_binds begins rows number c base fit found x at d;
}

pub returns : goal.returns
returns g c = record { statements = noted _ }
