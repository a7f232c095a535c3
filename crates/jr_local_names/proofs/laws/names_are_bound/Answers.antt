use Rattle.jr_local_names.proofs.NamesBound.{names_are_bound}
use Rattle.jr_local_names.proofs.laws.names_are_bound.Goals as goal

pub returns : goal.returns
returns c = names_are_bound c.members_are_written.ensures c.parts_are_placed.ensures.parts c.ways_are_walked.ensures c.lookups_are_exact.ensures.keys
