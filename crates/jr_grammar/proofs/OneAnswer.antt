-- Of any kind of tree, tokens have one stop, and one longest tree or none.
use Rattle.std.proofs.Common.{◌≡◌, ℕ, ◌+◌, ◌≤◌, List, ◌++◌, length, take, drop, sym, ap, ◌∙◌, append_assoc, ⊎_elim, arith}
use Rattle.std.proofs.lemmas.Bool.{cases_lt}
use Rattle.std.proofs.lemmas.List.{take-append-drop, take-take}
use Rattle.jr_grammar.specs.Tokens.{Token}
use Rattle.jr_grammar.specs.Readings.{Begins, IsLongest, HasNone, IsStop, OneReading}

-- the first m tokens are the first k with others behind them
begins_with : (tokens : List Token) (k m : ℕ) → k ≤ m → take m tokens ≡ take k tokens ++ drop k (take m tokens)
begins_with tokens k m h = sym (take-append-drop k (take m tokens)) ∙ ap (λ (x : List Token). x ++ drop k (take m tokens)) (take-take k m tokens h)

module _ (Tree : Type 0) (spelled : Tree → List Token) (IsMeant : Tree → Type 0) where
  -- nothing is read beyond a stop
  reaches : (tokens : List Token) (n m : ℕ) (tree : Tree) → IsStop Tree spelled IsMeant tokens n → m ≤ length tokens → Begins Tree spelled IsMeant (take m tokens) tree → m ≤ n
  reaches tokens n m tree s w b =
      ⊎_elim
      (λ h. let e = b.spells ∙ ap (λ (x : List Token). x ++ b.rest) (begins_with tokens (n + 1) m (omega arith)) ∙ append_assoc (take (n + 1) tokens) (drop (n + 1) (take m tokens)) b.rest in
      absurd (s.at (omega arith) tree (record { meant = b.meant; rest = drop (n + 1) (take m tokens) ++ b.rest; spells = e })))
      (λ h. h)
      (cases_lt n m)

  one_stop : (tokens : List Token) (n m : ℕ) → IsStop Tree spelled IsMeant tokens n → IsStop Tree spelled IsMeant tokens m → n ≡ m
  one_stop tokens n m s t =
      let h = reaches tokens n m t.before.0 s t.within t.before.1 in
      let k = reaches tokens m n s.before.0 t s.within s.before.1 in
      omega arith

  one_longest : (tokens : List Token) (n m : ℕ) (a b : Tree) → IsLongest Tree spelled IsMeant tokens n a → IsLongest Tree spelled IsMeant tokens m b → n ≡ m
  one_longest tokens n m a b h k =
      let p = h.longest m b k.first in
      let q = k.longest n a h.first in
      omega arith

  longest_or_none : (tokens : List Token) (n : ℕ) (tree : Tree) → IsLongest Tree spelled IsMeant tokens n tree → HasNone Tree spelled IsMeant tokens → ⊥
  longest_or_none tokens n tree h k = k n tree h.first

  pub one_reading : OneReading Tree spelled IsMeant
  one_reading = record { stop = one_stop; longest = one_longest; never_both = longest_or_none }
