use Rattle.jr_local_finds.proofs.Members.{Passed}
use Rattle.jr_local_finds.proofs.selecting.selected_value.Given as goal

abbrev pub invariant-loop-number : goal.invariant-loop-number
invariant-loop-number g l = Passed (g.V.View.program l.view) l.file l.span l.number
