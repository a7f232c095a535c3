use Rattle.jr_session.proofs.NewTables.{new_tables}
use Rattle.jr_session.proofs.laws.new_tables.Goals as goal

pub returns : goal.returns
returns c = new_tables c.one_reading.ensures c.plans_keep_programs.ensures.texts c.plans_keep_programs.ensures.clean
