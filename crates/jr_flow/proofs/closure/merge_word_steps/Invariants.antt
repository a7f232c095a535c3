use Rattle.std.proofs.Common.{◌≡◌, ◌<◌, ◌+◌, ◌*◌, ◌/◌}
use Rattle.jr_flow.specs.Rows.{Moves}
use Rattle.jr_flow.specs.Closure.{Extends}
use Rattle.jr_flow.proofs.closure.merge_word_steps.Given as goal

abbrev pub invariant-loop-bit : goal.invariant-loop-bit
invariant-loop-bit l = record {
  extends : Extends l.width l.steps (λ a b. (a ≡ l.node) × (b / 64 ≡ l.word) × (b < l.word * 64 + l.bit)) l.fn.rows l.rows;
  moves : Moves l.fn.rows l.rows l.changed;
}
