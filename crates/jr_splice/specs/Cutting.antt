-- Lexemes one behind the other in front of a text, as they are cut from it (JLS 3.2), and their
-- tokens.
use Rattle.std.specs.Prelude.{ℕ, List, [], ◌∷◌, ◌++◌, length, Option, Some, None}
use Rattle.std.specs.Str.{IsUtf8, chars}
use Rattle.jr_lex.specs.declared.items.ItemKind.{ItemKind}
use Rattle.jr_lex.specs.Lexes.{span_of}
use Rattle.jr_lex.specs.Beside.{Piece}
use Rattle.jr_lex.specs.Near.{IsCut}
use Rattle.jr_grammar.specs.Tokens.{Token, token_of}

-- the characters of lexemes
abbrev pub chars_in : List Piece → List ℕ
chars_in [] = []
chars_in (p ∷ ps) = chars p.text ++ chars_in ps

-- lexemes one behind the other, in front of `rest`
abbrev pub AreCutBefore : List Piece → (rest : List ℕ) → Type 0
AreCutBefore [] rest = Unit {0}
AreCutBefore (p ∷ ps) rest =
    IsUtf8 p.text × IsCut p.kind (chars p.text) (chars_in ps ++ rest) × AreCutBefore ps rest

-- ---- their tokens

abbrev pub with_token : Option Token → List Token → List Token
with_token None ts = ts
with_token (Some t) ts = t ∷ ts

-- the token of a lexeme, if it is one
abbrev pub own_token : ItemKind → List ℕ → Option Token
own_token kind text = token_of text (span_of 0 (length text)) kind

abbrev pub tokens_in : List Piece → List Token
tokens_in [] = []
tokens_in (p ∷ ps) = with_token (own_token p.kind p.text) (tokens_in ps)
