use Rattle.jr_table.specs.NotingLaws.{ListsAreNoted}
use Rattle.jr_table.proofs.FlowTests.{list_breaks, list_binds}
use Rattle.jr_table.proofs.noting_laws.lists_are_noted.Goals as goal

noted : (A : Type 0) → ListsAreNoted A
noted A begins base xs = record { rules = λ at r. list_breaks begins base at r xs; bindings = λ at d. list_binds begins base xs at d }

pub returns : goal.returns
returns g c = record { lists = noted _ }
