-- The names by which two programs differ, as contracts see them.
use Rattle.std.specs.Prelude.{◌≡◌, ℕ, List, [], ◌∷◌, Option, Some, None, true}
use Rattle.jr_mentions.specs.declared.names.Pair.{Pair}
use Rattle.jr_mentions.specs.declared.names.Apart.{Apart}
use Rattle.jr_mentions.specs.Apart.{is_among, AreAmong}

abbrev pub names_of : Option Pair → List (List ℕ)
names_of None = []
names_of (Some p) = p.old.now ∷ p.new.now ∷ []

abbrev pub names_in : Apart → List (List ℕ)
names_in a = names_of a.pair

-- each of the names is among the others
abbrev pub AreWithin : (names others : List (List ℕ)) → Type 0
AreWithin names others = (name : List ℕ) → is_among names name ≡ true
    → is_among others name ≡ true

-- names that have all of these, and two more
pub record Adds (names others : List (List ℕ)) (old new : List ℕ) : Type 0 where
  pub within : AreWithin names others
  pub named : AreAmong others old new
