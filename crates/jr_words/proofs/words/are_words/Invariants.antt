use Rattle.std.proofs.Common.{ℕ, ◌<◌, ◌⊎◌, ◌≡◌, get_or, string_bytes}
use Rattle.jr_words.specs.Words.{IsPlain, out_word}
use Rattle.jr_words.proofs.words.are_words.Given as goal

-- the words so far are such
abbrev pub invariant-loop-word : goal.invariant-loop-word
invariant-loop-word l = (k : ℕ) (d : _) → k < l.word-index → IsPlain (string_bytes (get_or l.words k d)) ⊎ (string_bytes (get_or l.words k d) ≡ out_word)
