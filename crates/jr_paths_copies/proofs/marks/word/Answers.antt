use Rattle.std.proofs.Common.{◌∙◌}
use Rattle.jr_paths_copies.proofs.Marking.{mark_agrees}
use Rattle.jr_paths_copies.proofs.marks.word.Goals as goal

pub returns : goal.returns
returns g c = λ h k agree i. record { mark = mark_agrees agree c.mark_by-mark.ensures i; text = (c.in_ok-name.ensures ∙ c.as_str.ensures) i }
