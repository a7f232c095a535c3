use Rattle.jr_local_footprints.proofs.OwnFlags.{flags_of_members}
use Rattle.jr_local_footprints.proofs.own_tests.own_flags_tell.Goals as goal

pub returns : goal.returns
returns c =
    flags_of_members c.members_are_written.ensures c.parts_are_placed.ensures.parts c.ways_are_walked.ensures c.lookups_are_exact.ensures.keys c.types_are_exact.ensures.bound c.bodies_begin_below.ensures c.declarations_have_ways.ensures c.ways_are_declared.ensures
    c.flags_tell_the_member.ensures
