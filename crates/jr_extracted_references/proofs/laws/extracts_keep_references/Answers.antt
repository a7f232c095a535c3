use Rattle.jr_extracted_references.proofs.Whole.{keeps_references}
use Rattle.jr_extracted_references.proofs.laws.extracts_keep_references.Goals as goal

pub returns : goal.returns
returns c = keeps_references (record {
  one = c.lookups_are_exact.ensures.one;
  keys = c.lookups_are_exact.ensures.keys;
  bound = c.types_are_exact.ensures.bound;
  rebind = c.spellings_rebind.ensures.bound;
  classes = c.spellings_rebind.ensures.classes;
  fronts = c.spellings_rebind.ensures.fronts;
  sound = c.regions_are_sound.ensures;
  named = c.rows_are_named.ensures.rows;
  written = c.members_are_written.ensures;
  nested = c.bodies_are_nested.ensures;
  ways = c.one_way_has_a_span.ensures;
}) c.selected_are_ready.ensures c.elements_hold_it.ensures
