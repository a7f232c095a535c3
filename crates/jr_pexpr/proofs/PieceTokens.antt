-- A token is the token of its piece.
use Rattle.std.proofs.Common.{◌≡◌, refl}
use Rattle.jr_lex.specs.declared.items.Keyword.{Keyword}
use Rattle.jr_lex.specs.declared.items.Keyword.TheVariants.{Class, New, Super, This, True, False, Null}
use Rattle.jr_lex.specs.declared.items.Symbol.{Symbol}
use Rattle.jr_lex.specs.declared.items.Symbol.TheVariants.{OpenParen}
use Rattle.jr_grammar.specs.Tokens.{Token, word, keyword, integer, text, symbol}
use Rattle.jr_pexpr.specs.Pieces.{keyword_piece, symbol_piece, piece_of, piece_token}

keyword_back : (k : Keyword) → piece_token (keyword_piece k) ≡ keyword k
keyword_back Class = refl
keyword_back New = refl
keyword_back Super = refl
keyword_back This = refl
keyword_back True = refl
keyword_back False = refl
keyword_back Null = refl
keyword_back _ = refl

symbol_back : (s : Symbol) → piece_token (symbol_piece s) ≡ symbol s
symbol_back OpenParen = refl
symbol_back _ = refl

pub piece_back : (t : Token) → piece_token (piece_of t) ≡ t
piece_back (word w) = refl
piece_back (keyword k) = keyword_back k
piece_back (integer n) = refl
piece_back (text s) = refl
piece_back (symbol s) = symbol_back s
