-- The item of a list of at most one.
use Rattle.std.proofs.Common.{◌≡◌, ℕ, ◌+◌, ◌≤◌, List, [], ◌∷◌, ◌++◌, length, Option, Some, None, refl, sym, ap, ◌∙◌, arith}
use Rattle.std.specs.Prelude.{MatchOption, option_to_list}

nothing : {X : Type 0} (l : List X) → length l ≡ 0 → l ≡ []
nothing [] h = refl
nothing (x ∷ xs) h = absurd (omega (arith, h))

-- what is taken from its end, where the list has so many items, and so many are left
pub one_of : {X : Type 0} (old new : List X) (o : Option X) (m k : ℕ) → length old ≤ 1 → old ≡ new ++ option_to_list o → m ≡ length old → MatchOption o ((m ≡ 0) × (k ≡ 0)) (λ _. k + 1 ≡ m) → k ≡ length new → option_to_list o ≡ old
one_of old new None m k few e len h left = sym (nothing old (omega (arith, h.0, len)))
one_of old new (Some x) m k few e len h left = sym (e ∙ ap (λ l. l ++ x ∷ []) (nothing new (omega (arith, few, h, len, left))))
