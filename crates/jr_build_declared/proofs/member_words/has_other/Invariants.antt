use Rattle.std.proofs.Common.{drop}
use Rattle.jr_build_declared.specs.DeclarationFaults.{HasOther, May}
use Rattle.jr_build_declared.proofs.member_words.has_other.Given as goal

-- one that may not stand there is among those that are left, if one is among all
abbrev pub invariant-loop-word : goal.invariant-loop-word
invariant-loop-word l = HasOther (May l.allowed) l.words → HasOther (May l.allowed) (drop l.word-index l.words)
