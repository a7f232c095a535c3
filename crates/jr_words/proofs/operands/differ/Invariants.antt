use Rattle.jr_words.proofs.Seen.{SeenTo}
use Rattle.jr_words.proofs.operands.differ.Given as goal

-- no two so far have one text, and their texts were seen
abbrev pub invariant-loop-operand : goal.invariant-loop-operand
invariant-loop-operand l = SeenTo l.operands l.operand-index l.seen.keys
