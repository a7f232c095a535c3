use Rattle.std.proofs.Common.{sym, ◌∙◌}
use Rattle.jr_new_bodies.proofs.FindingSpots.{found_here, found_later, found_nowhere}
use Rattle.jr_new_bodies.proofs.spots.find_part.Goals as goal

pub returns-then-same_span : goal.returns-then-same_span
returns-then-same_span c =
    let l = c.loop-part in
    sym (found_here c.args.at c.args.parts.now l.part-index _ c.loop-part-test.true (sym c.same_span.ensures ∙ c.if-same_span.true)) ∙ l.invariant

pub loop-part-preserved : goal.loop-part-preserved
loop-part-preserved c =
    let l = c.loop-part in
    sym (found_later c.args.at c.args.parts.now l.part-index _ c.loop-part-test.true (sym c.same_span.ensures ∙ c.if-same_span.false)) ∙ l.invariant

pub returns : goal.returns
returns c =
    let l = c.loop-part in
    sym (found_nowhere c.args.at c.args.parts.now l.part-index c.loop-part-test.false) ∙ l.invariant
