use Rattle.std.proofs.Common.{drop}
use Rattle.jr_build_declared.specs.DeclarationFaults.{HasTwice}
use Rattle.jr_build_declared.proofs.member_words.has_twice.Given as goal

-- a word stands twice among those that are left, if one does among all
abbrev pub invariant-loop-number : goal.invariant-loop-number
invariant-loop-number l = HasTwice l.words → HasTwice (drop l.number l.words)
