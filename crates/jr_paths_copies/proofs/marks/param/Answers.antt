use Rattle.jr_paths_copies.proofs.Marking.{mark_agrees}
use Rattle.jr_paths_copies.proofs.marks.param.Goals as goal

pub returns : goal.returns
returns g c = λ h k agree i. record {
  mark = mark_agrees agree c.mark_by-mark.ensures i;
  is_final = c.args.param.now.is_final;
  type = c.in_ok-ty.ensures h k agree i;
  name = c.in_ok-name.ensures h k agree i;
}
