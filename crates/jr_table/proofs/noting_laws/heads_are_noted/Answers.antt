use Rattle.jr_table.specs.NotingLaws.{HeadsAreNoted}
use Rattle.jr_table.proofs.BreakingHeads.{head_breaks, head_binds}
use Rattle.jr_table.proofs.noting_laws.heads_are_noted.Goals as goal

noted : (A : Type 0) → HeadsAreNoted A
noted A begins rows fit found k base of = record {
  rules = λ at r. head_breaks rows fit found begins k base of at r;
  bindings = λ at d. head_binds rows fit found begins k base of at d;
}

pub returns : goal.returns
returns g c = record { heads = noted _ }
