use Rattle.jr_flow.specs.Rows.{Merges, Moves}
use Rattle.jr_flow.proofs.rows.merge.Given as goal

abbrev pub invariant-loop-k : goal.invariant-loop-k
invariant-loop-k l = record {
  merges : Merges l.width l.from l.to l.k l.fn.words l.words;
  moves : Moves l.fn.words l.words l.changed;
}
