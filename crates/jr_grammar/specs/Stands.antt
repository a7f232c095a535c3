-- Layouts over tokens with places: the parts stand one behind the other, and each mark is the span
-- from the first of its node's tokens to the last.
use Rattle.std.specs.Prelude.{◌≡◌, ℕ, List, [], ◌∷◌, ◌++◌}
use Rattle.jr_text.specs.declared.spans.Span.{Span}
use Rattle.jr_grammar.specs.Tokens.{Token, Placed}
use Rattle.jr_grammar.specs.Layout.{Layout, token, node, row, Layouts, done, ◌then◌}

abbrev pub Tokens : Type 0
Tokens = List (Placed Span)

-- where the first begins
abbrev pub first_from : Tokens → ℕ
first_from [] = 0
first_from (p ∷ ps) = p.mark.from

-- where the last ends
abbrev pub last_to : Tokens → ℕ
last_to [] = 0
last_to (p ∷ []) = p.mark.to
last_to (p ∷ q ∷ ps) = last_to (q ∷ ps)

-- from the first to the last
abbrev pub span_of : Tokens → Span
span_of ps = record { from = first_from ps; to = last_to ps }

-- they are this token alone
pub record IsAlone (t : Token) (ps : Tokens) : Type 0 where
  pub placed : Placed Span
  pub alone : ps ≡ placed ∷ []
  pub is : placed.token ≡ t

-- First holds of the front of the tokens, and Rest of what is behind it.
pub record InOrder (First Rest : Tokens → Type 0) (ps : Tokens) : Type 0 where
  pub front : Tokens
  pub back : Tokens
  pub whole : ps ≡ front ++ back
  pub first : First front
  pub rest : Rest back

-- The mark is the span of the tokens, and Parts holds of them.
pub record IsNode (m : Span) (Parts : Tokens → Type 0) (ps : Tokens) : Type 0 where
  pub mark : m ≡ span_of ps
  pub parts : Parts ps

abbrev mutual
  pub Stands : Layout Span → Tokens → Type 0
  Stands (token t) ps = IsAlone t ps
  Stands (node m parts) ps = IsNode m (StandInOrder parts) ps
  Stands (row parts) ps = StandInOrder parts ps

  pub StandInOrder : Layouts Span → Tokens → Type 0
  StandInOrder done ps = ps ≡ []
  StandInOrder (x then xs) ps = InOrder (Stands x) (StandInOrder xs) ps
