use Rattle.std.proofs.Common.{ℕ, ◌+◌, ◌≡◌, drop, map, string_bytes}
use Rattle.jr_words.specs.Asked.{option_place}
use Rattle.jr_words.proofs.operands.option_place.Given as goal

-- no word so far is the option
abbrev pub invariant-loop-place : goal.invariant-loop-place
invariant-loop-place l = option_place (map string_bytes l.words) ≡ l.place + option_place (map string_bytes (drop l.place l.words))
