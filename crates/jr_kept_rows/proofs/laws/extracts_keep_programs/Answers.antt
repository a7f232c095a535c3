use Rattle.jr_kept_rows.proofs.Locals as locals
use Rattle.jr_kept_rows.proofs.laws.extracts_keep_programs.Goals as goal

pub returns : goal.returns
returns c = locals.extracts_stay (record {
  written = c.members_are_written.ensures;
  sound = c.written_members_are_sound.ensures;
  keys = c.lookups_are_exact.ensures.keys;
  one = c.lookups_are_exact.ensures.one;
  bound = c.types_are_exact.ensures.bound;
  named = c.rows_are_named.ensures.rows;
}) (record {
  items = c.items_are_placed.ensures.items;
  written = c.members_are_written.ensures;
  nested = c.standing_lists_are_nested.ensures;
  ways = c.one_way_has_a_span.ensures;
  keys = c.lookups_are_exact.ensures.keys;
  one = c.lookups_are_exact.ensures.one;
  binding = c.types_are_exact.ensures.bound;
}) c.first_values_stand.ensures.one
