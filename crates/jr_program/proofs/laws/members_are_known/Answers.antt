use Rattle.jr_program.proofs.EachBound.{each_is_known, each_is_in_order}
use Rattle.jr_program.proofs.laws.members_are_known.Goals as goal

pub returns-clause-known : goal.returns-clause-known
returns-clause-known c = each_is_known

pub returns-clause-order : goal.returns-clause-order
returns-clause-order c = each_is_in_order
