use Rattle.jr_session.specs.StepLaws.{HasOneShow}
use Rattle.jr_session.proofs.OneStep.{one_answer}
use Rattle.jr_session.proofs.ShownOnce.{shown_once}
use Rattle.jr_session.proofs.laws.step_has_one_answer.Goals as goal

pub returns-clause-lines : goal.returns-clause-lines
returns-clause-lines c =
    shown_once c.text_has_one_reading.ensures c.one_answer.ensures.items c.lines_are_told.ensures c.lines_are_one.ensures.lines c.lines_are_one.ensures.large c.lines_are_one.ensures.never_both

pub returns-clause-answer : goal.returns-clause-answer
returns-clause-answer c =
    let once : HasOneShow = shown_once c.text_has_one_reading.ensures c.one_answer.ensures.items c.lines_are_told.ensures c.lines_are_one.ensures.lines c.lines_are_one.ensures.large c.lines_are_one.ensures.never_both in
    λ s of r q t u differ is g h. one_answer c.text_has_one_reading.ensures once c.one_answer.ensures.items c.parts_are_placed.ensures.parts c.members_are_written.ensures c.plan_is_one.ensures c.extract_is_one.ensures s of r q t u differ is g h
