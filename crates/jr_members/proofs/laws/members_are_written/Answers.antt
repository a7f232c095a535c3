use Rattle.jr_members.proofs.UnitsWalked.{are_written}
use Rattle.jr_members.proofs.laws.members_are_written.Goals as goal

pub returns : goal.returns
returns g c = λ begins units rows are program. are_written begins units rows are program
