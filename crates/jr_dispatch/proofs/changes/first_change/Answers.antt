use Rattle.std.proofs.Common.{length, sym, subst}
use Rattle.jr_table.specs.Entries.{entries_of}
use Rattle.jr_dispatch.specs.Moves.{AreMoves}
use Rattle.jr_dispatch.proofs.changes.first_change.Goals as goal

pub parted_classes-requires-clause-moves : goal.parted_classes-requires-clause-moves
parted_classes-requires-clause-moves c =
    subst (AreMoves (entries_of c.args.old.now) (entries_of c.args.new.now) (length c.args.old.now)) (sym c.as_slice.ensures.value) c.in_ok-moves.ensures
