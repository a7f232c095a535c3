use Rattle.jr_local_plans.proofs.InlinePlan as plan
use Rattle.jr_local_plans.proofs.laws.inline_is_one.Goals as goal

pub returns : goal.returns
returns c = plan.inline_is_one (record {
  items = c.items_are_placed.ensures.items;
  written = c.members_are_written.ensures;
  nested = c.standing_lists_are_nested.ensures;
  ways = c.one_way_has_a_span.ensures;
  keys = c.lookups_are_exact.ensures.keys;
  one = c.lookups_are_exact.ensures.one;
  binding = c.types_are_exact.ensures.bound;
}) c.ways_are_declared.ensures c.one_is_target.ensures
