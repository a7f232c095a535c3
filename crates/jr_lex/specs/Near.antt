-- What a lexeme is, is seen of the one character behind it, and behind a dot of the second (JLS
-- 3.2).
use Rattle.std.specs.Prelude.{◌≡◌, ℕ, true, false, ◌==◌, List, [], ◌∷◌, ◌++◌}
use Rattle.jr_lex.specs.declared.items.ItemKind.{ItemKind}
use Rattle.jr_lex.specs.declared.items.ItemKind.TheVariants.{Comment}
use Rattle.jr_lex.specs.declared.faults.LexFault.{LexFault}
use Rattle.jr_lex.specs.Characters.{first_passes}
use Rattle.jr_lex.specs.Lexemes.{IsLexemeAt}
use Rattle.jr_lex.specs.Faults.{IsFaultAt}
use Rattle.jr_lex.specs.Scan.{is_not_line_end}

-- front is the longest lexeme there, and nothing is wrong, wherever the text begins
pub record IsCut (kind : ItemKind) (front rest : List ℕ) : Type 0 where
  pub taken : IsLexemeAt (front ++ rest) kind front rest
  pub sound : (at : ℕ) (fault : LexFault) → IsFaultAt at (front ++ rest) fault → ⊥

-- a dot comes first in neither, or in the old one
abbrev pub NoNewDot : List ℕ → List ℕ → Type 0
NoNewDot rest other =
    first_passes (λ c. c == 46) other ≡ true → first_passes (λ c. c == 46) rest ≡ true

-- Both begin with the same character, and behind a dot no dot comes that wasn't there; or both are
-- at their end.
abbrev pub Near : List ℕ → List ℕ → Type 0
Near [] [] = Unit {0}
Near [] (d ∷ ds) = ⊥
Near (c ∷ cs) [] = ⊥
Near (c ∷ cs) (d ∷ ds) = (c ≡ d) × (c ≡ 46 → NoNewDot cs ds)

-- behind a comment, where a line ended it still ends
abbrev pub EndsLine : ItemKind → List ℕ → List ℕ → Type 0
EndsLine k rest other =
    k ≡ Comment → first_passes is_not_line_end rest ≡ false
    → first_passes is_not_line_end other ≡ false

-- A lexeme is cut in front of each text that is near to the one in front of which it was cut.
abbrev pub LexemesLookNear : Type 0
LexemesLookNear =
    (kind : ItemKind) (front rest other : List ℕ) → Near rest other → EndsLine kind rest other
    → IsCut kind front rest → IsCut kind front other
