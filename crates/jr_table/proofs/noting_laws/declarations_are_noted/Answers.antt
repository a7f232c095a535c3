use Rattle.jr_table.specs.NotingLaws.{DeclarationsAreNoted}
use Rattle.jr_table.proofs.BreakingDeclarations.{declaration_breaks}
use Rattle.jr_table.proofs.BindingDeclarations.{declaration_binds}
use Rattle.jr_table.proofs.noting_laws.declarations_are_noted.Goals as goal

noted : (A : Type 0) → DeclarationsAreNoted A
noted A begins rows fit found super_at k base x = record {
  rules = λ at r. declaration_breaks begins rows super_at k base fit found x at r;
  bindings = λ at d. declaration_binds begins rows super_at k base fit found x at d;
}

pub returns : goal.returns
returns g c = record { declarations = noted _ }
