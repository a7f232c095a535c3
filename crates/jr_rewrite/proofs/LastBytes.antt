-- The last byte in front of a place: behind a token it is no space and no tab.
use Rattle.std.proofs.Common.{◌≡◌, inl, inr, ℕ, suc, zero, ◌<◌, ◌≤◌, ◌==◌, ◌||◌, Bool, true, false, List, [], ◌∷◌, ◌++◌, length, get_or, refl, sym, ap, ◌∙◌, subst, arith}
use Rattle.std.specs.Prelude.{encode_utf8_all}
use Rattle.std.specs.Char.{encode_utf8}
use Rattle.std.specs.Str.{IsUtf8, chars}
use Rattle.std.proofs.lemmas.Bool.{cases_lt, and_parts, and_from, or_parts, or_from, ne_eqb, both_ways, false_from_ne_true}
use Rattle.std.proofs.lemmas.List.{append-nil}
use Rattle.std.proofs.lemmas.Str.{chars-nil, encodes-chars, encode_ascii, length-encode, len_utf8_bounds, inside_one}
use Rattle.jr_lex.specs.declared.items.ItemKind.TheVariants.{Token as TokenItem, Blank}
use Rattle.jr_lex.specs.declared.items.TokenKind.{TokenKind}
use Rattle.jr_lex.specs.declared.items.TokenKind.TheVariants.{Word, Keyword, Int, Text, Mark}
use Rattle.jr_lex.specs.declared.items.Symbol.{Symbol}
use Rattle.jr_lex.specs.declared.items.Symbol.TheVariants as symbol
use Rattle.jr_lex.specs.Characters.{is_blank, is_digit, is_word_part, is_line_end, all_pass}
use Rattle.jr_lex.specs.Words.{IsWord as IsWordText}
use Rattle.jr_lex.specs.Symbols.{symbol_text}
use Rattle.jr_lex.specs.Lexemes.{IsLexeme}
use Rattle.jr_lex.proofs.FirstLaws.{digit-blank, word_start-part}
use Rattle.jr_lex.proofs.WordLaws.{keyword-IsWord}
use Rattle.jr_lex.proofs.BesideLaws.{lets_end}
use Rattle.jr_lex.proofs.ScanMeaning.{no_empty}
use Rattle.jr_rewrite.specs.Woven.{ends_in, is_indent}

-- ---- the last of a list

pub ends_append : (p : ℕ → Bool) (xs ys : List ℕ) → (ys ≡ [] → ⊥) → ends_in p (xs ++ ys) ≡ ends_in p ys
ends_append p [] ys some = refl
ends_append p (x ∷ []) [] some = absurd (some refl)
ends_append p (x ∷ []) (y ∷ ys) some = refl
ends_append p (x ∷ z ∷ xs) ys some = ends_append p (z ∷ xs) ys some

ends_weaker : (p q : ℕ → Bool) → ((n : ℕ) → p n ≡ false → q n ≡ false) → (xs : List ℕ) → ends_in p xs ≡ false → ends_in q xs ≡ false
ends_weaker p q weaker [] h = refl
ends_weaker p q weaker (x ∷ []) h = weaker x h
ends_weaker p q weaker (x ∷ y ∷ xs) h = ends_weaker p q weaker (y ∷ xs) h

-- where all pass one test, the last fails another that no such passes
pub ends_apart : (p q : ℕ → Bool) → ((n : ℕ) → p n ≡ true → q n ≡ false) → (xs : List ℕ) → all_pass p xs ≡ true → ends_in q xs ≡ false
ends_apart p q apart [] h = refl
ends_apart p q apart (x ∷ []) h = apart x (and_parts (p x) true h).0
ends_apart p q apart (x ∷ y ∷ xs) h = ends_apart p q apart (y ∷ xs) (and_parts (p x) (all_pass p (y ∷ xs)) h).1

pub ends_pass : (p : ℕ → Bool) (xs : List ℕ) → (xs ≡ [] → ⊥) → all_pass p xs ≡ true → ends_in p xs ≡ true
ends_pass p [] some h = absurd (some refl)
ends_pass p (x ∷ []) some h = (and_parts (p x) true h).0
ends_pass p (x ∷ y ∷ xs) some h = ends_pass p (y ∷ xs) (λ e. cc) (and_parts (p x) (all_pass p (y ∷ xs)) h).1

ends_fail : (p : ℕ → Bool) (xs : List ℕ) → ((k : ℕ) → k < length xs → p (get_or xs k 0) ≡ false) → ends_in p xs ≡ false
ends_fail p [] h = refl
ends_fail p (x ∷ []) h = h zero (omega arith)
ends_fail p (x ∷ y ∷ xs) h = ends_fail p (y ∷ xs) (λ k l. h (suc k) (omega (arith, l)))

-- ---- of bytes, and of the characters that they are

-- a test of ASCII characters
abbrev pub OfAscii : (ℕ → Bool) → Type 0
OfAscii p = (n : ℕ) → 128 ≤ n → p n ≡ false

pub some_encoded : (c : ℕ) (cs : List ℕ) → encode_utf8_all (c ∷ cs) ≡ [] → ⊥
some_encoded c cs e = not_empty (encode_utf8 c) (omega (arith, length-encode c, (len_utf8_bounds c).0)) e
  where
    not_empty : (xs : List ℕ) → 1 ≤ length xs → xs ++ encode_utf8_all cs ≡ [] → ⊥
    not_empty [] l e = absurd (omega (arith, l))
    not_empty (x ∷ xs) l e = cc

module _ (p : ℕ → Bool) (ascii : OfAscii p) where
  one_encoded : (c : ℕ) → ends_in p (encode_utf8 c) ≡ p c
  one_encoded c = elim (cases_lt c 128) [
    | inl low ↦ ap (ends_in p) (encode_ascii c low)
    | inr high ↦ ends_fail p (encode_utf8 c) (λ k l. elim (cases_lt (get_or (encode_utf8 c) k 0) 128) [
      | inl small ↦ absurd (let e : c ≡ get_or (encode_utf8 c) k 0 = inside_one c [] (encode_utf8 c) k (sym (append-nil (encode_utf8 c))) l small in omega (arith, e, small, high))
      | inr large ↦ ascii (get_or (encode_utf8 c) k 0) large
    ]) ∙ sym (ascii c high)
  ]

  pub ends_encoded : (cs : List ℕ) → ends_in p (encode_utf8_all cs) ≡ ends_in p cs
  ends_encoded [] = refl
  ends_encoded (c ∷ []) = ap (ends_in p) (append-nil (encode_utf8 c)) ∙ one_encoded c
  ends_encoded (c ∷ d ∷ cs) = ends_append p (encode_utf8 c) (encode_utf8_all (d ∷ cs)) (some_encoded d cs) ∙ ends_encoded (d ∷ cs)

  pub ends_chars : (text : List ℕ) → IsUtf8 text → ends_in p text ≡ ends_in p (chars text)
  ends_chars text u = sym (ap (ends_in p) (encodes-chars text u)) ∙ ends_encoded (chars text)

eq_ascii : (m : ℕ) → m < 128 → (n : ℕ) → 128 ≤ n → (n == m) ≡ false
eq_ascii m l n h = ne_eqb n m (λ e. absurd (omega (arith, l, h, e)))

pub indent_ascii : OfAscii is_indent
indent_ascii n h = or_from (n == 32) (n == 9) (eq_ascii 32 (omega arith) n h) (eq_ascii 9 (omega arith) n h)

pub line_end_ascii : OfAscii is_line_end
line_end_ascii n h = or_from (n == 10) (n == 13) (eq_ascii 10 (omega arith) n h) (eq_ascii 13 (omega arith) n h)

-- ---- the last character of a token

blank_in_word : (c : ℕ) → is_blank c ≡ true → is_word_part c ≡ false
blank_in_word c blank = lets_end (TokenItem Word) Blank (c ∷ []) [] refl ((λ e. cc), and_from (is_blank c) true blank refl)

part_no_blank : (c : ℕ) → is_word_part c ≡ true → is_blank c ≡ false
part_no_blank c part = false_from_ne_true (is_blank c) (λ blank. both_ways (is_word_part c) (blank_in_word c blank) part)

word_ends : (text : List ℕ) → IsWordText text → ends_in is_blank text ≡ false
word_ends [] h = absurd h
word_ends (c ∷ cs) h = ends_apart is_word_part is_blank part_no_blank (c ∷ cs) (and_from (is_word_part c) (all_pass is_word_part cs) (word_start-part c h.0) h.1)

symbol_ends : (s : Symbol) → ends_in is_blank (symbol_text s) ≡ false
symbol_ends symbol.OpenParen = refl
symbol_ends _ = refl

token_ends : (k : TokenKind) (text : List ℕ) → IsLexeme (TokenItem k) text → ends_in is_blank text ≡ false
token_ends Word text h = word_ends text h.is_word
token_ends (Keyword k) text h = word_ends text (subst IsWordText (sym h) (keyword-IsWord k))
token_ends (Int n) [] h = absurd h
token_ends (Int n) (d ∷ ds) h = ends_apart is_digit is_blank digit-blank (d ∷ ds) (and_from (is_digit d) (all_pass is_digit ds) h.0 h.1)
token_ends Text text h = ap (ends_in is_blank) h.quotes ∙ ends_append is_blank (34 ∷ h.content) (34 ∷ []) (λ e. cc)
token_ends (Mark s) text h = ap (ends_in is_blank) h ∙ symbol_ends s

no_blank_no_indent : (n : ℕ) → is_blank n ≡ false → is_indent n ≡ false
no_blank_no_indent n h =
    let front = or_parts ((n == 32) || (n == 9) || (n == 12)) (is_line_end n) h in
    (or_parts ((n == 32) || (n == 9)) (n == 12) front.0).0

-- behind a token stands no space and no tab
pub behind_token : (pre front : List ℕ) (k : TokenKind) → IsUtf8 front → IsLexeme (TokenItem k) (chars front) → ends_in is_indent (pre ++ front) ≡ false
behind_token pre front k u h =
    let some : front ≡ [] → ⊥ = λ e. no_empty (TokenItem k) (subst (IsLexeme (TokenItem k)) (ap chars e ∙ chars-nil) h) in
    ends_append is_indent pre front some
    ∙ ends_chars is_indent indent_ascii front u
    ∙ ends_weaker is_blank is_indent no_blank_no_indent (chars front) (token_ends k (chars front) h)
