-- Two names, and whether they are among some.
use Rattle.std.proofs.Common.{◌≡◌, ℕ, List, [], ◌∷◌, Bool, true, false, refl, sym, ap, subst, ◌∙◌}
use Rattle.std.specs.Prelude.{◌&&◌, ◌||◌}
use Rattle.std.specs.Str.{bytes_eq}
use Rattle.std.specs.Cmp.Lexicographic.{bytes_decides}
use Rattle.jr_mentions.specs.Apart.{is_among, AreAmong}
use Rattle.jr_mentions.specs.ApartView.{Adds}
use Rattle.jr_mentions.proofs.Stepping.{itself, nothing_within}

or_true : (b : Bool) → b || true ≡ true
or_true true = refl
or_true false = refl

same_bytes : (n : List ℕ) → bytes_eq n n ≡ true
same_bytes n = (bytes_decides n n).1 refl

pub are_among : (old new : List ℕ) → AreAmong (old ∷ new ∷ []) old new
are_among old new = (
  ap (λ b. b || (bytes_eq new old || false)) (same_bytes old),
  ap (λ b. bytes_eq old new || (b || false)) (same_bytes new) ∙ or_true (bytes_eq old new),
)

pub first_two : (names others : List (List ℕ)) (old new : List ℕ) → names ≡ [] → others ≡ old ∷ new ∷ [] → Adds names others old new
first_two names others old new none two = record {
  within = nothing_within names others none;
  named = subst (λ ns. AreAmong ns old new) (sym two) (are_among old new);
}

both_true : (a b : Bool) → a && b ≡ true → (a ≡ true) × (b ≡ true)
both_true true b h = (refl, h)
both_true false b h = absurd cc

pub known_two : (names : List (List ℕ)) (old new : List ℕ) (a b : Bool) → a ≡ is_among names old → b ≡ is_among names new → a && b ≡ true → Adds names names old new
known_two names old new a b e d h = let both = both_true a b h in record {
  within = itself names;
  named = (sym e ∙ both.0, sym d ∙ both.1);
}
