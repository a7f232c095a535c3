use Rattle.jr_punit_laws.proofs.UnitAnswers as UnitAnswers
use Rattle.jr_punit_laws.proofs.laws.unit_has_one_answer.Goals as goal

pub returns : goal.returns
returns c = UnitAnswers.one_answer c.one_marked_tree.ensures c.stops_have_places.ensures.one c.readings_are_one.ensures.units c.unit_ignores_marks.ensures
