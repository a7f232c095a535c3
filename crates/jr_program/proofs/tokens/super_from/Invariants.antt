use Rattle.jr_program.proofs.SuperWords.{NoneTo}
use Rattle.jr_program.proofs.tokens.super_from.Given as goal

-- none of those so far is such a word
abbrev pub invariant-loop-item : goal.invariant-loop-item
invariant-loop-item l = NoneTo l.items l.from l.item-index
