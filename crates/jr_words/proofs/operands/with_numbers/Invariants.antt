use Rattle.std.proofs.Common.{ℕ, ◌+◌, ◌≡◌, ◌++◌, drop, map}
use Rattle.jr_words.specs.Asked.{operand_of, placed}
use Rattle.jr_words.proofs.operands.with_numbers.Given as goal

-- the operands so far, with those of the texts that are left, are all
abbrev pub invariant-loop-text : goal.invariant-loop-text
invariant-loop-text l =
    (placed l.option 1 (map (λ t. t.now) l.texts) ≡ map operand_of l.operands.items ++ placed l.option l.number (map (λ t. t.now) (drop l.text-index l.texts)))
    × (l.number ≡ l.text-index + 1)
