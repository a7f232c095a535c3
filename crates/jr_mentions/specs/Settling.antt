-- What the names that a walk has set say of any two names by which rows may be apart.
use Rattle.std.specs.Prelude.{◌≡◌, ℕ, List, [], ◌∷◌, ◌⊎◌}
use Rattle.jr_mentions.specs.Apart.{AreAmong}

-- no names are set yet, or these two are among them
abbrev pub Allows : (names : List (List ℕ)) → (old new : List ℕ) → Type 0
Allows names old new = (names ≡ []) ⊎ AreAmong names old new

-- two names that these allow, and by which this holds, are allowed by the others
abbrev pub Settles : (names others : List (List ℕ)) → (Holds : List (List ℕ) → Type 0) → Type 0
Settles names others Holds = (old new : List ℕ) → Allows names old new
    → Holds (old ∷ new ∷ []) → Allows others old new

-- by no two names that these allow does this hold
abbrev pub RulesOut : (names : List (List ℕ)) → (Holds : List (List ℕ) → Type 0) → Type 0
RulesOut names Holds = (old new : List ℕ) → Allows names old new
    → Holds (old ∷ new ∷ []) → ⊥
