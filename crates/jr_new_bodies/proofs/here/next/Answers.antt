use Rattle.jr_new_bodies.proofs.Sorts.{found_field}
use Rattle.jr_new_bodies.proofs.Bound.{name_bound}
use Rattle.jr_new_bodies.proofs.Choices.{the_one}
use Rattle.jr_new_bodies.proofs.Giving.{name_gives}
use Rattle.jr_new_bodies.proofs.Readying.{in_field}
use Rattle.jr_new_bodies.proofs.Naming.{named_is}
use Rattle.jr_new_bodies.proofs.Typed.{are_types}
use Rattle.jr_new_bodies.proofs.Oks.{on_ok}
use Rattle.jr_new_bodies.proofs.Arms.{falls_one}
use Rattle.jr_new_bodies.proofs.Stepping.{falls_item}
use Rattle.jr_new_bodies.proofs.here.next.Goals as goal

pub returns-in-None : goal.returns-in-None
returns-in-None c = tt
