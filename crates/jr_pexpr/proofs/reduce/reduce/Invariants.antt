use Rattle.std.proofs.Common.{◌≡◌, length}
use Rattle.jr_pexpr.specs.Machine as machine
use Rattle.jr_pexpr.specs.Marked.{join}
use Rattle.jr_pexpr.specs.StackView.{stack}
use Rattle.jr_pexpr.specs.ExpView.{exp_in}
use Rattle.jr_pexpr.proofs.reduce.reduce.Given as goal

abbrev pub invariant-loop-operand : goal.invariant-loop-operand
invariant-loop-operand l = machine.reduced join l.level (stack l.on) (exp_in l.e) ≡ machine.reduced join l.fn.level (stack l.fn.on) (exp_in l.fn.e)

abbrev pub decreases-loop-operand : goal.decreases-loop-operand
decreases-loop-operand l = length (stack l.on)
