use Rattle.jr_local_premises.proofs.Selecting.{selected_are_ready}
use Rattle.jr_local_premises.proofs.laws.selected_are_ready.Goals as goal

pub returns : goal.returns
returns c =
    selected_are_ready c.bodies_are_ready.ensures c.bodies_are_below.ensures c.bodies_are_nested.ensures c.members_are_written.ensures c.ways_are_ready.ensures c.values_are_ready.ensures c.elements_hold_it.ensures c.one_has_the_span.ensures
    c.extract_is_walked.ensures
