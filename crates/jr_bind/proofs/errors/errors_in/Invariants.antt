use Rattle.std.proofs.Common.{◌≡◌, ◌++◌, map, drop}
use Rattle.jr_table.specs.Decls.{MemberKey}
use Rattle.jr_table.specs.ErrorLists as lists
use Rattle.jr_bind_expr.specs.Logs.{notes_of}
use Rattle.jr_bind.specs.ErrorView.{error_of}
use Rattle.jr_bind.proofs.errors.errors_in.Given as goal

abbrev pub invariant-loop-note : goal.invariant-loop-note
invariant-loop-note l = (k : MemberKey) →
    map error_of l.errors.items ++ lists.errors_in l.start (notes_of l.table k (drop l.note-index l.log))
    ≡ lists.errors_in l.start (notes_of l.table k l.log)
