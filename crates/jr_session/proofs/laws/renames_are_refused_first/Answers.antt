use Rattle.jr_session.proofs.FirstReason.{refused_first}
use Rattle.jr_session.proofs.laws.renames_are_refused_first.Goals as goal

pub returns : goal.returns
returns c s file at new reply t differ steps r =
    refused_first c.text_has_one_reading.ensures c.one_answer.ensures.items c.parts_are_placed.ensures.parts c.members_are_written.ensures c.plan_is_one.ensures c.one_is_target.ensures c.renamings_stay_fair.ensures c.rows_are_named.ensures.rows c.rows_are_named.ensures.names c.rewriting_is_one.ensures s file at new differ reply t steps r
