use Rattle.jr_table.specs.Entries.{entries_of}
use Rattle.jr_dispatch.specs.Moves.{AreMoves}
use Rattle.jr_dispatch.proofs.moves.moves.Given as goal

abbrev pub invariant-loop-number : goal.invariant-loop-number
invariant-loop-number l = AreMoves (entries_of l.old) (entries_of l.new) l.number l.numbers.items
