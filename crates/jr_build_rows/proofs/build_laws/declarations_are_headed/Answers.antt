use Rattle.jr_build_rows.proofs.Heading.{headed}
use Rattle.jr_build_rows.proofs.build_laws.declarations_are_headed.Goals as goal

pub returns : goal.returns
returns g c = λ begins us heads. headed begins us heads
