use Rattle.jr_session.proofs.KeptPrograms.{one_code}
use Rattle.jr_session.proofs.NewPrograms.{steps_keep}
use Rattle.jr_session.proofs.laws.accepted_refactorings_keep_programs.Goals as goal

pub returns : goal.returns
returns c = steps_keep c.one_reading.ensures c.rows_are_named.ensures.rows c.rows_are_named.ensures.names c.plans_become.ensures c.plans_keep_programs.ensures.texts c.plans_keep_programs.ensures.references c.plans_keep_programs.ensures.programs c.classes_give_images.ensures.rows c.constructors_give_images.ensures c.dispatch_is_kept.ensures c.renames_keep_runs.ensures c.renames_keep_histories.ensures.first_values c.renames_keep_histories.ensures.histories c.fronts_stay.ensures c.families_are_whole.ensures c.families_are_kept.ensures c.plans_are_of_places.ensures c.plans_change_names.ensures (one_code c.programs_have_code.ensures.code c.programs_have_code.ensures.one c.sound_programs_are_well_typed.ensures c.first_values_stand.ensures.stand c.first_values_stand.ensures.one) c.untouched_bytes_move.ensures c.plans_read.ensures c.extracts_keep_programs.ensures
