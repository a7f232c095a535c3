-- What printed text is made of: tokens, and single spaces between them.
use Rattle.std.proofs.Common.{◌≡◌, ℕ, List, [], ◌∷◌, ◌++◌, refl, ap}
use Rattle.std.specs.Prelude.{codes}
use Rattle.std.specs.Fmt.{decimal}
use Rattle.jr_lex.specs.declared.items.ItemKind.{ItemKind}
use Rattle.jr_lex.specs.declared.items.ItemKind.TheVariants as item
use Rattle.jr_lex.specs.declared.items.TokenKind.{TokenKind}
use Rattle.jr_lex.specs.declared.items.TokenKind.TheVariants as kind
use Rattle.jr_lex.specs.Words.{keyword_text}
use Rattle.jr_lex.specs.Symbols.{symbol_text}
use Rattle.jr_lex.specs.Beside.{Piece, join_pieces}
use Rattle.jr_grammar.specs.Tokens.{Token, word, keyword, integer, text, symbol}

pub data Part : Type 0 where
  space : Part
  tok : (token : Token) → Part

-- how a token is written
abbrev pub token_text : Token → List ℕ
token_text (word t) = t
token_text (keyword k) = keyword_text k
token_text (integer n) = decimal n
token_text (text s) = codes "\"" ++ s ++ codes "\""
token_text (symbol s) = symbol_text s

abbrev pub token_kind : Token → TokenKind
token_kind (word t) = kind.Word
token_kind (keyword k) = kind.Keyword k
token_kind (integer n) = kind.Int n
token_kind (text s) = kind.Text
token_kind (symbol s) = kind.Mark s

abbrev pub part_text : Part → List ℕ
part_text space = 32 ∷ []
part_text (tok t) = token_text t

abbrev pub part_kind : Part → ItemKind
part_kind space = item.Blank
part_kind (tok t) = item.Token (token_kind t)

abbrev pub piece_of : Part → Piece
piece_of p = record { kind = part_kind p; text = part_text p }

abbrev pub pieces_of : List Part → List Piece
pieces_of [] = []
pieces_of (p ∷ ps) = piece_of p ∷ pieces_of ps

-- the text
abbrev pub join : List Part → List ℕ
join [] = []
join (p ∷ ps) = part_text p ++ join ps

-- the tokens
abbrev pub tokens : List Part → List Token
tokens [] = []
tokens (space ∷ ps) = tokens ps
tokens (tok t ∷ ps) = t ∷ tokens ps

pub join-pieces : (ps : List Part) → join_pieces (pieces_of ps) ≡ join ps
join-pieces [] = refl
join-pieces (p ∷ ps) = ap (λ b. part_text p ++ b) (join-pieces ps)
