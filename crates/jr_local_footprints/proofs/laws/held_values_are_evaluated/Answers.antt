use Rattle.jr_local_footprints.proofs.Evaluated.{behind_evaluated}
use Rattle.jr_local_footprints.proofs.laws.held_values_are_evaluated.Goals as goal

pub returns : goal.returns
returns c = λ p program file b has shaped test f d g w used none.
    behind_evaluated c.members_are_written.ensures c.parts_are_placed.ensures.parts c.ways_are_walked.ensures c.lookups_are_exact.ensures.keys c.types_are_exact.ensures.bound p program file b has test g f d shaped w none used
