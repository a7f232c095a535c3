use Rattle.jr_local_footprints.proofs.Evaluated.{evaluated}
use Rattle.jr_local_footprints.proofs.laws.values_are_evaluated.Goals as goal

pub returns : goal.returns
returns c = λ p program file b has shaped test f d used none.
    evaluated c.members_are_written.ensures c.parts_are_placed.ensures.parts c.ways_are_walked.ensures c.lookups_are_exact.ensures.keys c.types_are_exact.ensures.bound p program file b has test f d shaped none used
