use Rattle.jr_paths_copies.proofs.Marking.{mark_agrees}
use Rattle.jr_paths_copies.proofs.marks.modifier.Goals as goal

pub returns : goal.returns
returns g c = λ h k agree i. record { mark = mark_agrees agree c.mark_by-mark.ensures i; word = c.args.modifier.now.word }
