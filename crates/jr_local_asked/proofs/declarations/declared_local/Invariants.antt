use Rattle.jr_table.specs.KeyView.{local_key_of}
use Rattle.jr_local_asked.proofs.Declares.{Passed}
use Rattle.jr_local_asked.proofs.declarations.declared_local.Given as goal

abbrev pub invariant-loop-number : goal.invariant-loop-number
invariant-loop-number g l = Passed (g.V.View.program l.view) l.file (local_key_of l.key) l.number
