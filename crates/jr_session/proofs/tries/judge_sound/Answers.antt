use Rattle.jr_session.proofs.Refactored.{whole_of}
use Rattle.jr_session.proofs.tries.judge_sound.Goals as goal

pub returns-then-may_stay : goal.returns-then-may_stay
returns-then-may_stay c = record { judged = (c.requires.analysis, c.requires.sound, c.if-may_stay.true); left = tt }

pub returns-else-may_stay : goal.returns-else-may_stay
returns-else-may_stay c = record {
  judged = (c.if-may_stay.false, whole_of c.text_has_one_reading.ensures c.args.sources.now c.args.later c.requires.analysis c.requires.sound c.sources_are_program.ensures);
  left = c.had_back.ensures;
}
