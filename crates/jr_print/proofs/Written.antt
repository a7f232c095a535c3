-- Tokens as they are written are lexemes.
use Rattle.std.proofs.Common.{◌≡◌, ℕ, ◌+◌, ◌-◌, ◌*◌, ◌/◌, ◌%◌, ◌^◌, ◌<◌, ◌≤◌, Bool, true, List, [], ◌∷◌, ◌++◌, refl, sym, ap, ◌∙◌, subst, arith}
use Rattle.std.specs.Prelude.{codes, nat_lt}
use Rattle.std.specs.Fmt.{decimal}
use Rattle.std.specs.Str.{IsUtf8, IsAscii, chars}
use Rattle.std.proofs.lemmas.Bool.{and_parts, and_from, le-leb, ltb-true}
use Rattle.std.proofs.lemmas.Fmt.{decimal_by_steps, IsAscii-decimal}
use Rattle.std.proofs.lemmas.Str.{chars-IsAscii, chars-append, IsUtf8-append, IsUtf8-from_ascii}
use Rattle.std.proofs.lemmas.Str.Ascii.{IsAscii-nil, IsAscii-cons}
use Rattle.jr_lex.specs.declared.items.Keyword.{Keyword}
use Rattle.jr_lex.specs.declared.items.Keyword.TheVariants as keyword
use Rattle.jr_lex.specs.declared.items.Symbol.{Symbol}
use Rattle.jr_lex.specs.declared.items.Symbol.TheVariants as symbol
use Rattle.jr_lex.specs.declared.items.ItemKind.TheVariants as item
use Rattle.jr_lex.specs.Characters.{is_digit, all_pass}
use Rattle.jr_lex.specs.Words.{keyword_text}
use Rattle.jr_lex.specs.Numbers.{number_from, number_of, IsNumber}
use Rattle.jr_lex.specs.Symbols.{symbol_text}
use Rattle.jr_lex.specs.Lexemes.{IsLexeme}
use Rattle.jr_lex.specs.Beside.{IsPiece, ArePieces}
use Rattle.jr_grammar.specs.Tokens.{Token}
use Rattle.jr_grammar.specs.Tokens as token
use Rattle.jr_grammar.specs.Lexical.{IsLexical, AreLexical}
use Rattle.jr_print.proofs.TextParts.{Part, space, tok, piece_of, pieces_of, tokens}

-- ---- ASCII

abbrev is_small : ℕ → Bool
is_small c = nat_lt c 128

ascii : (cs : List ℕ) → all_pass is_small cs ≡ true → IsAscii cs
ascii [] h = IsAscii-nil
ascii (c ∷ cs) h =
    let parts = and_parts (is_small c) (all_pass is_small cs) h in
    IsAscii-cons c cs (ltb-true c 128 parts.0) (ascii cs parts.1)

small_keyword : (k : Keyword) → all_pass is_small (keyword_text k) ≡ true
small_keyword keyword.Abstract = refl
small_keyword _ = refl

small_symbol : (s : Symbol) → all_pass is_small (symbol_text s) ≡ true
small_symbol symbol.OpenParen = refl
small_symbol _ = refl

-- ---- decimal numbers

-- the digits of a number, without zeros in front
abbrev Unpadded : ℕ → List ℕ → Type 0
Unpadded n [] = ⊥
Unpadded n (d ∷ ds) = d ≡ 48 → (ds ≡ []) × (n ≡ 0)

record Spells (n : ℕ) (ds : List ℕ) : Type 0 where
  digits : all_pass is_digit ds ≡ true
  value : number_of ds ≡ n
  unpadded : Unpadded n ds

digit : (n : ℕ) → n < 10 → is_digit (48 + n) ≡ true
digit n h = and_from _ _ (le-leb 48 (48 + n) (omega arith)) (le-leb (48 + n) 57 (omega arith))

one_digit : (n : ℕ) → n < 10 → Spells n ((48 + n) ∷ [])
one_digit n h = record {
  digits = and_from _ _ (digit n h) refl;
  value = omega arith;
  unpadded = λ zero. (refl, omega arith);
}

all_pass-push : (ds : List ℕ) (c : ℕ) → all_pass is_digit ds ≡ true → is_digit c ≡ true → all_pass is_digit (ds ++ c ∷ []) ≡ true
all_pass-push [] c h g = and_from _ _ g refl
all_pass-push (d ∷ ds) c h g =
    let parts = and_parts (is_digit d) (all_pass is_digit ds) h in
    and_from _ _ parts.0 (all_pass-push ds c parts.1 g)

number_from-push : (n : ℕ) (ds : List ℕ) (c : ℕ) → number_from n (ds ++ c ∷ []) ≡ 10 * number_from n ds + (c - 48)
number_from-push n [] c = refl
number_from-push n (d ∷ ds) c = number_from-push (10 * n + (d - 48)) ds c

unpadded-push : (n m : ℕ) (ds : List ℕ) (c : ℕ) → 0 < m → Unpadded m ds → Unpadded n (ds ++ c ∷ [])
unpadded-push n m [] c some h = absurd h
unpadded-push n m (d ∷ ds) c some h = λ zero. absurd (omega (arith, some, (h zero).1))

more_digits : (n : ℕ) (ds : List ℕ) → 10 ≤ n → Spells (n / 10) ds → Spells n (ds ++ ((48 + n % 10) ∷ []))
more_digits n ds big h =
    let last : n % 10 < 10 = omega arith in
    record {
      digits = all_pass-push ds (48 + n % 10) h.digits (digit (n % 10) last);
      value = number_from-push 0 ds (48 + n % 10) ∙ omega (arith, h.value);
      unpadded = unpadded-push n (n / 10) ds (48 + n % 10) (omega arith) h.unpadded;
    }

decimal_spells : (n : ℕ) → n < 2 ^ 64 → Spells n (decimal n)
decimal_spells n small = decimal_by_steps Spells one_digit more_digits n small

number_spelled : (n : ℕ) (ds : List ℕ) → n ≤ 2147483648 → Spells n ds → IsNumber ds n
number_spelled n [] h s = absurd s.unpadded
number_spelled n (d ∷ ds) h s =
    let parts = and_parts (is_digit d) (all_pass is_digit ds) s.digits in
    (parts.0, parts.1, λ zero. (s.unpadded zero).0, sym s.value, h)

-- ---- strings

quote : IsAscii (codes "\"")
quote = ascii (codes "\"") refl

string_chars : (s : List ℕ) → IsUtf8 s → chars (codes "\"" ++ s ++ codes "\"") ≡ 34 ∷ (chars s ++ 34 ∷ [])
string_chars s u =
    chars-append (codes "\"" ++ s) (codes "\"") (IsUtf8-append (codes "\"") s (IsUtf8-from_ascii _ quote) u)
    ∙ ap (λ x. x ++ chars (codes "\"")) (chars-append (codes "\"") s (IsUtf8-from_ascii _ quote))
    ∙ ap (λ q. (q ++ chars s) ++ q) (chars-IsAscii (codes "\"") quote)

-- ---- tokens

token_piece : (t : Token) → IsLexical t → IsPiece (piece_of (tok t))
token_piece (token.word t) h = record { is_text = h.is_text; lexeme = h.is_identifier; no_comment = λ e. cc }
token_piece (token.keyword k) h =
    let small = ascii (keyword_text k) (small_keyword k) in
    record { is_text = IsUtf8-from_ascii (keyword_text k) small; lexeme = chars-IsAscii (keyword_text k) small; no_comment = λ e. cc }
token_piece (token.integer n) h =
    let small : n < 2 ^ 64 = omega arith in
    let plain = IsAscii-decimal n small in
    record {
      is_text = IsUtf8-from_ascii (decimal n) plain;
      lexeme = subst (λ cs. IsNumber cs n) (sym (chars-IsAscii (decimal n) plain)) (number_spelled n (decimal n) h (decimal_spells n small));
      no_comment = λ e. cc;
    }
token_piece (token.text s) h =
    let quote_text : IsUtf8 (codes "\"") = IsUtf8-from_ascii _ quote in
    record {
      is_text = IsUtf8-append (codes "\"" ++ s) (codes "\"") (IsUtf8-append (codes "\"") s quote_text h.is_text) quote_text;
      lexeme = record { content = chars s; quotes = string_chars s h.is_text; escapes = h.escapes };
      no_comment = λ e. cc;
    }
token_piece (token.symbol s) h =
    let small = ascii (symbol_text s) (small_symbol s) in
    record { is_text = IsUtf8-from_ascii (symbol_text s) small; lexeme = chars-IsAscii (symbol_text s) small; no_comment = λ e. cc }

space_piece : IsPiece (piece_of space)
space_piece =
    let plain : IsAscii (32 ∷ []) = ascii (32 ∷ []) refl in
    record {
      is_text = IsUtf8-from_ascii (32 ∷ []) plain;
      lexeme = subst (IsLexeme item.Blank) (sym (chars-IsAscii (32 ∷ []) plain)) (λ e. cc, refl);
      no_comment = λ e. cc;
    }

pub pieces_are : (ps : List Part) → AreLexical (tokens ps) → ArePieces (pieces_of ps)
pieces_are [] h = tt
pieces_are (space ∷ ps) h = (space_piece, pieces_are ps h)
pieces_are (tok t ∷ ps) h = (token_piece t h.0, pieces_are ps h.1)
