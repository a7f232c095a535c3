use Rattle.jr_rewrite.specs.ChangeView.{changes_of}
use Rattle.jr_rewrite.specs.Edited.{entries_of}
use Rattle.jr_local_parts.proofs.FileLists.{AreFirst}
use Rattle.jr_local_parts.proofs.answers.edits_in.Given as goal

abbrev pub invariant-loop-number : goal.invariant-loop-number
invariant-loop-number l = AreFirst l.file (entries_of (changes_of l.changes)) l.number l.lists.items
