use Rattle.std.proofs.Common.{◌≡◌, drop}
use Rattle.jr_table.specs.HeadRules.{access_of}
use Rattle.jr_bind_parts.proofs.override_words.access.Given as goal

abbrev pub invariant-loop-word : goal.invariant-loop-word
invariant-loop-word l = access_of (drop l.word-index l.words) ≡ access_of l.words
