use Rattle.jr_new_bodies.specs.OutputView.{losses_in}
use Rattle.jr_new_files.proofs.Losing.{IsBest}
use Rattle.jr_new_files.proofs.losses.least_loss.Given as goal

abbrev pub invariant-loop-number : goal.invariant-loop-number
invariant-loop-number l = IsBest (losses_in l.losses) l.number l.best
