use Rattle.jr_local_texts.proofs.Fitting as fitting
use Rattle.jr_local_texts.proofs.laws.extracts_fit.Goals as goal

pub returns : goal.returns
returns c = fitting.extracts_fit c.members_are_written.ensures c.rows_are_named.ensures.rows c.regions_are_sound.ensures
