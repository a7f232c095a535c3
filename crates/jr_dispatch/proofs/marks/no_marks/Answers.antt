use Rattle.jr_dispatch.proofs.Marking.{none_marked}
use Rattle.jr_dispatch.proofs.marks.no_marks.Goals as goal

pub returns : goal.returns
returns c = none_marked c.args.count c.in_ok-marks.marks.items (c.in_ok-marks.ensures.items_if_clones_equal (λ y h. h))
