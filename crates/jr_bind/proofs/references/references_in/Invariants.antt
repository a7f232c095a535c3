use Rattle.std.proofs.Common.{◌≡◌, ◌++◌, map, drop}
use Rattle.jr_table.specs.KeyView.{member_key_of}
use Rattle.jr_bind.specs.BoundLogs as logs
use Rattle.jr_bind.specs.BoundView.{reference_of}
use Rattle.jr_bind.specs.Targets.{AreShared}
use Rattle.jr_bind_expr.specs.Logs.{notes_of}
use Rattle.jr_bind.proofs.references.references_in.Given as goal

abbrev pub invariant-loop-note : goal.invariant-loop-note
invariant-loop-note l =
    AreShared l.table (member_key_of l.member) l.shared.items
    × (map reference_of l.references.items ++ logs.references_in l.start (notes_of l.table (member_key_of l.member) (drop l.note-index l.log))
    ≡ logs.references_in l.start (notes_of l.table (member_key_of l.member) l.log))
