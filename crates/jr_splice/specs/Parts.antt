-- Texts that are made of parts: lexemes of an old text, and new ones, in any order.
use Rattle.std.specs.Prelude.{◌≡◌, ℕ, List, [], ◌∷◌, ◌++◌}
use Rattle.std.specs.Str.{chars}
use Rattle.jr_lex.specs.declared.items.Item.{Item}
use Rattle.jr_lex.specs.declared.items.ItemKind.{ItemKind}
use Rattle.jr_lex.specs.Lexes.{Lexes}
use Rattle.jr_lex.specs.Beside.{Piece, join_pieces}
use Rattle.jr_lex.specs.Seams.{Meets}
use Rattle.jr_grammar.specs.Tokens.{Token, tokens_of}
use Rattle.jr_splice.specs.Cutting.{AreCutBefore, tokens_in}

-- lexemes that are cut in front of `old`: a run of the old text, or a made text with no `old`
pub record Part : Type 0 where
  pub pieces : List Piece
  pub old : List ℕ

abbrev pub AreParts : List Part → Type 0
AreParts [] = Unit {0}
AreParts (p ∷ ps) = AreCutBefore p.pieces p.old × AreParts ps

-- the text of parts in front of a text
abbrev pub text_before : List Part → List ℕ → List ℕ
text_before [] text = text
text_before (p ∷ ps) text = join_pieces p.pieces ++ text_before ps text

-- the tokens of parts in front of tokens
abbrev pub tokens_before : List Part → List Token → List Token
tokens_before [] ts = ts
tokens_before (p ∷ ps) ts = tokens_in p.pieces ++ tokens_before ps ts

-- ---- seams

-- the last of the lexemes, if there is one
abbrev pub LastIs : (ItemKind → Type 0) → List Piece → Type 0
LastIs P [] = Unit {0}
LastIs P (p ∷ []) = P p.kind
LastIs P (p ∷ q ∷ ps) = LastIs P (q ∷ ps)

-- the last lexeme of each part may have behind it what comes there
abbrev pub Seams : List Part → List ℕ → Type 0
Seams [] text = Unit {0}
Seams (p ∷ ps) text =
    LastIs (λ k. Meets k p.old (chars (text_before ps text))) p.pieces × Seams ps text

-- ---- what is made

-- the text is cut into items whose tokens are these
pub record Spells (text : List ℕ) (ts : List Token) : Type 0 where
  pub items : List Item
  pub lexes : Lexes text items
  pub spells : tokens_of text items ≡ ts

-- Parts that may meet spell what they spelled, one behind the other.
abbrev pub PartsSpell : Type 0
PartsSpell =
    (ps : List Part) → AreParts ps → Seams ps [] → Spells (text_before ps []) (tokens_before ps [])
