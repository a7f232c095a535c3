use Rattle.jr_untouched_parts.proofs.Locals as locals
use Rattle.jr_untouched_parts.proofs.laws.inlines_are_whole.Goals as goal

pub returns : goal.returns
returns c = locals.inlines_are_whole (record {
  written = c.members_are_written.ensures;
  sound = c.written_members_are_sound.ensures;
  keys = c.lookups_are_exact.ensures.keys;
  bound = c.types_are_exact.ensures.bound;
  named = c.rows_are_named.ensures.rows;
  nested = c.bodies_are_nested.ensures;
  ways = c.one_way_has_a_span.ensures;
})
