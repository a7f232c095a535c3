use Rattle.jr_flow.specs.Rows.{room}
use Rattle.jr_flow.specs.Closure.{Extends}
use Rattle.jr_flow.proofs.closure.close.Given as goal

abbrev pub invariant-loop-width : goal.invariant-loop-width
invariant-loop-width l = Extends l.width l.steps (λ a b. ⊥) l.fn.rows l.rows

abbrev pub decreases-loop-width : goal.decreases-loop-width
decreases-loop-width l = room l.rows
