use Rattle.jr_reference_changes.proofs.PlannedPlaces.{its_edits, in_tokens, planned_unit}
use Rattle.jr_reference_changes.proofs.laws.plans_are_of_places.Goals as goal

pub returns : goal.returns
returns c p text file at new edits renaming respelled is i u there =
    let o = planned_unit c.rows_are_named.ensures.rows c.renamings_stay_fair.ensures c.rows_are_named.ensures.names c.types_are_exact.ensures.bound c.lookups_are_exact.ensures.keys c.lookups_are_exact.ensures.one p text file at new edits renaming respelled is i u there in
    let tokens = in_tokens c.items_are_placed.ensures.items c.marks_are_one.ensures.spans p is.program i u there in
    record {
      file = o.result;
      made = o.made;
      edits_are = its_edits edits is.planned.becomes.files is.planned.edits_are i o.result o.made;
      of_places = o.placed.places;
      once = (o.placed.apart tokens.tokens tokens.rising tokens.stands).once;
    }
