use Rattle.jr_local_footprints.proofs.OwnFlags.{tests_are_there}
use Rattle.jr_local_footprints.proofs.own_tests.tests_are_there.Goals as goal

pub returns : goal.returns
returns c = tests_are_there c.own_flags_tell.ensures
