use Rattle.std.proofs.Common.{drop}
use Rattle.jr_rewrite.specs.ChangeView.{changes_of}
use Rattle.jr_rewrite.proofs.Pushing.{Pushing}
use Rattle.jr_rewrite.proofs.changes.edits.Given as goal

abbrev pub invariant-loop-change : goal.invariant-loop-change
invariant-loop-change l = Pushing (changes_of l.changes) l.edits (changes_of (drop l.change-index l.changes))
