-- Lexemes that may stand beside one another are cut as they were put together.
use Rattle.std.proofs.Common.{◌≡◌, ◌≢◌, ℕ, ◌+◌, ◌==◌, Bool, true, false, not, ◌&&◌, ◌||◌, List, [], ◌∷◌, ◌++◌, length, refl, sym, ap, ◌∙◌, subst}
use Rattle.std.specs.Prelude.{nat_lt}
use Rattle.std.specs.Char.{is_ascii_alphanumeric}
use Rattle.std.specs.Str.{IsUtf8, chars}
use Rattle.std.proofs.lemmas.Str.{chars-append, IsUtf8-append, chars-nil}
use Rattle.unicode_ident.specs.Ident.{is_xid_continue}
use Rattle.std.proofs.lemmas.Bool.{and_parts, or_from, ltb-true, ne_eqb, not-true, false≢true, both_ways, false_from_ne_true}
use Rattle.unicode_ident.proofs.IdentLemmas.{is_xid_continue-ascii}
use Rattle.jr_lex.specs.declared.items.ItemKind.{ItemKind}
use Rattle.jr_lex.specs.declared.items.ItemKind.TheVariants as item
use Rattle.jr_lex.specs.declared.items.TokenKind.{TokenKind}
use Rattle.jr_lex.specs.declared.items.TokenKind.TheVariants as token
use Rattle.jr_lex.specs.declared.items.Keyword.{Keyword}
use Rattle.jr_lex.specs.declared.items.Symbol.{Symbol}
use Rattle.jr_lex.specs.declared.items.Symbol.TheVariants as symbol
use Rattle.jr_lex.specs.Characters.{is_blank, is_digit, is_word_start, is_word_part, all_pass, first_passes, byte_len}
use Rattle.jr_lex.specs.Words.{IsWord}
use Rattle.jr_lex.specs.Symbols.{symbol_text}
use Rattle.jr_lex.specs.Lexemes.{IsLexeme}
use Rattle.jr_lex.specs.Lexes.{IsItemAt, Cuts, IsEnd}
use Rattle.jr_lex.specs.Replacing.{item_of}
use Rattle.jr_lex.specs.Beside.{goes_on, spoils_number, EndsBefore, number_beside, beside, Piece, IsPiece, ArePieces, first_beside, AreApart, join_pieces, items_from, PiecesLex}
use Rattle.jr_lex.proofs.WordLaws.{keyword-IsWord}
use Rattle.jr_lex.proofs.FirstLaws.{is_ascii_other, other-start, digit-blank, blank_cases, word_start-blank, word_start-digit}
use Rattle.jr_lex.proofs.ScanLaws.{byte_len-chars}
use Rattle.jr_lex.proofs.EndLaws.{lexeme_ends}

-- ---- how a lexeme begins

-- a test that the first character of a lexeme of the kind fails
abbrev Begins : ItemKind → (ℕ → Bool) → Type 0
Begins item.Blank p = (c : ℕ) → is_blank c ≡ true → p c ≡ false
Begins item.Comment p = ⊥
Begins (item.Token token.Word) p = (c : ℕ) → is_word_start c ≡ true → p c ≡ false
Begins (item.Token (token.Keyword k)) p = (c : ℕ) → is_word_start c ≡ true → p c ≡ false
Begins (item.Token (token.Int n)) p = (c : ℕ) → is_digit c ≡ true → p c ≡ false
Begins (item.Token token.Text) p = p 34 ≡ false
Begins (item.Token (token.Mark s)) p = first_passes p (symbol_text s) ≡ false

first_of_word : (p : ℕ → Bool) (front rest : List ℕ) → IsWord front → ((c : ℕ) → is_word_start c ≡ true → p c ≡ false) → first_passes p (front ++ rest) ≡ false
first_of_word p [] rest h fails = absurd h
first_of_word p (c ∷ cs) rest h fails = fails c h.0

first_of_symbol : (p : ℕ → Bool) (s : Symbol) (rest : List ℕ) → first_passes p (symbol_text s) ≡ false → first_passes p (symbol_text s ++ rest) ≡ false
first_of_symbol p symbol.OpenParen rest h = h
first_of_symbol p _ rest h = h

first_of_lexeme : (p : ℕ → Bool) (kind : ItemKind) (front rest : List ℕ) → IsLexeme kind front → Begins kind p → first_passes p (front ++ rest) ≡ false
first_of_lexeme p item.Blank [] rest h fails = absurd (h.0 refl)
first_of_lexeme p item.Blank (c ∷ cs) rest h fails = fails c (and_parts (is_blank c) (all_pass is_blank cs) h.1).0
first_of_lexeme p item.Comment front rest h fails = absurd fails
first_of_lexeme p (item.Token token.Word) front rest h fails = first_of_word p front rest h.is_word fails
first_of_lexeme p (item.Token (token.Keyword k)) front rest h fails = first_of_word p front rest (subst IsWord (sym h) (keyword-IsWord k)) fails
first_of_lexeme p (item.Token (token.Int n)) [] rest h fails = absurd h
first_of_lexeme p (item.Token (token.Int n)) (c ∷ cs) rest h fails = fails c h.0
first_of_lexeme p (item.Token token.Text) front rest h fails = ap (λ t. first_passes p (t ++ rest)) h.quotes ∙ fails
first_of_lexeme p (item.Token (token.Mark s)) front rest h fails = ap (λ t. first_passes p (t ++ rest)) h ∙ first_of_symbol p s rest fails

-- ---- characters apart

-- an ASCII character of no word
abbrev is_no_part : ℕ → Bool
is_no_part n = nat_lt n 128 && not (is_ascii_alphanumeric n || (n == 95)) && not (n == 36)

no_part : (n : ℕ) → is_no_part n ≡ true → is_word_part n ≡ false
unfolding is_word_part
no_part n h =
    let parts = and_parts (nat_lt n 128 && not (is_ascii_alphanumeric n || (n == 95))) (not (n == 36)) h in
    let front = and_parts (nat_lt n 128) (not (is_ascii_alphanumeric n || (n == 95))) parts.0 in
    or_from (is_xid_continue n) (n == 36) (is_xid_continue-ascii n (ltb-true n 128 front.0) ∙ not-true _ front.1) (not-true _ parts.1)

-- a character of a symbol: one of no word, no number and no blank
abbrev is_mark : ℕ → Bool
is_mark n = is_ascii_other n && not (is_digit n) && not (is_blank n)

-- the character is no such one
abbrev IsApart : ℕ → Type 0
IsApart c = (n : ℕ) → is_mark n ≡ true → (c == n) ≡ false

apart_by : (p : ℕ → Bool) (c n : ℕ) → p c ≡ true → p n ≡ false → (c == n) ≡ false
apart_by p c n passes fails = ne_eqb c n (λ e. both_ways (p n) fails (subst (λ x. p x ≡ true) e passes))

word_apart : (c : ℕ) → is_word_start c ≡ true → IsApart c
word_apart c starts n mark =
    let parts = and_parts (is_ascii_other n && not (is_digit n)) (not (is_blank n)) mark in
    apart_by is_word_start c n starts (other-start n (and_parts (is_ascii_other n) (not (is_digit n)) parts.0).0)

digit_apart : (c : ℕ) → is_digit c ≡ true → IsApart c
digit_apart c digit n mark =
    let parts = and_parts (is_ascii_other n && not (is_digit n)) (not (is_blank n)) mark in
    apart_by is_digit c n digit (not-true _ (and_parts (is_ascii_other n) (not (is_digit n)) parts.0).1)

blank_apart : (c : ℕ) → is_blank c ≡ true → IsApart c
blank_apart c blank n mark = apart_by is_blank c n blank (not-true _ (and_parts (is_ascii_other n && not (is_digit n)) (not (is_blank n)) mark).1)

blank_digit : (c : ℕ) → is_blank c ≡ true → is_digit c ≡ false
blank_digit c blank = false_from_ne_true (is_digit c) (λ digit. both_ways (is_blank c) (digit-blank c digit) blank)

blank_part : (c : ℕ) → is_blank c ≡ true → is_word_part c ≡ false
blank_part c blank = blank_cases (λ n. is_word_part n ≡ false) c blank (no_part 32 refl) (no_part 9 refl) (no_part 12 refl) (no_part 10 refl) (no_part 13 refl)

-- such a character doesn't go on in a symbol, but a digit behind a `.`
goes_apart : (s : Symbol) (c : ℕ) → IsApart c → is_digit c ≡ false → goes_on s c ≡ false
goes_apart symbol.Dot c apart digit = or_from (is_digit c) (c == 46) digit (apart 46 refl)
goes_apart symbol.Colon c apart digit = apart 58 refl
goes_apart symbol.Equals c apart digit = apart 61 refl
goes_apart symbol.Bang c apart digit = apart 61 refl
goes_apart symbol.Star c apart digit = apart 61 refl
goes_apart symbol.Caret c apart digit = apart 61 refl
goes_apart symbol.Percent c apart digit = apart 61 refl
goes_apart symbol.Greater c apart digit = or_from (c == 61) (c == 62) (apart 61 refl) (apart 62 refl)
goes_apart symbol.Less c apart digit = or_from (c == 61) (c == 60) (apart 61 refl) (apart 60 refl)
goes_apart symbol.Plus c apart digit = or_from (c == 61) (c == 43) (apart 61 refl) (apart 43 refl)
goes_apart symbol.Minus c apart digit = or_from ((c == 61) || (c == 62)) (c == 45) (or_from (c == 61) (c == 62) (apart 61 refl) (apart 62 refl)) (apart 45 refl)
goes_apart symbol.And c apart digit = or_from (c == 61) (c == 38) (apart 61 refl) (apart 38 refl)
goes_apart symbol.Bar c apart digit = or_from (c == 61) (c == 124) (apart 61 refl) (apart 124 refl)
goes_apart symbol.Slash c apart digit = or_from ((c == 61) || (c == 47)) (c == 42) (or_from (c == 61) (c == 47) (apart 61 refl) (apart 47 refl)) (apart 42 refl)
goes_apart symbol.ShiftLeft c apart digit = apart 61 refl
goes_apart symbol.ShiftRight c apart digit = or_from (c == 61) (c == 62) (apart 61 refl) (apart 62 refl)
goes_apart symbol.UnsignedShiftRight c apart digit = apart 61 refl
goes_apart _ c apart digit = refl

-- what begins a word goes on in no symbol
pub word_goes : (s : Symbol) (c : ℕ) → is_word_start c ≡ true → goes_on s c ≡ false
word_goes s c starts = goes_apart s c (word_apart c starts) (word_start-digit c starts)

goes_apart-digit : (s : Symbol) (c : ℕ) → number_beside s ≡ true → is_digit c ≡ true → goes_on s c ≡ false
goes_apart-digit symbol.Dot c h digit = absurd (false≢true h)
goes_apart-digit symbol.Colon c h digit = digit_apart c digit 58 refl
goes_apart-digit symbol.Equals c h digit = digit_apart c digit 61 refl
goes_apart-digit symbol.Bang c h digit = digit_apart c digit 61 refl
goes_apart-digit symbol.Star c h digit = digit_apart c digit 61 refl
goes_apart-digit symbol.Caret c h digit = digit_apart c digit 61 refl
goes_apart-digit symbol.Percent c h digit = digit_apart c digit 61 refl
goes_apart-digit symbol.Greater c h digit = or_from (c == 61) (c == 62) (digit_apart c digit 61 refl) (digit_apart c digit 62 refl)
goes_apart-digit symbol.Less c h digit = or_from (c == 61) (c == 60) (digit_apart c digit 61 refl) (digit_apart c digit 60 refl)
goes_apart-digit symbol.Plus c h digit = or_from (c == 61) (c == 43) (digit_apart c digit 61 refl) (digit_apart c digit 43 refl)
goes_apart-digit symbol.Minus c h digit = or_from ((c == 61) || (c == 62)) (c == 45) (or_from (c == 61) (c == 62) (digit_apart c digit 61 refl) (digit_apart c digit 62 refl)) (digit_apart c digit 45 refl)
goes_apart-digit symbol.And c h digit = or_from (c == 61) (c == 38) (digit_apart c digit 61 refl) (digit_apart c digit 38 refl)
goes_apart-digit symbol.Bar c h digit = or_from (c == 61) (c == 124) (digit_apart c digit 61 refl) (digit_apart c digit 124 refl)
goes_apart-digit symbol.Slash c h digit = or_from ((c == 61) || (c == 47)) (c == 42) (or_from (c == 61) (c == 47) (digit_apart c digit 61 refl) (digit_apart c digit 47 refl)) (digit_apart c digit 42 refl)
goes_apart-digit symbol.ShiftLeft c h digit = digit_apart c digit 61 refl
goes_apart-digit symbol.ShiftRight c h digit = or_from (c == 61) (c == 62) (digit_apart c digit 61 refl) (digit_apart c digit 62 refl)
goes_apart-digit symbol.UnsignedShiftRight c h digit = digit_apart c digit 61 refl
goes_apart-digit _ c h digit = refl

-- how symbols begin
no_blank_symbol : (s : Symbol) → first_passes is_blank (symbol_text s) ≡ false
no_blank_symbol symbol.OpenParen = refl
no_blank_symbol _ = refl

no_part_symbol : (s : Symbol) → first_passes is_no_part (symbol_text s) ≡ true
no_part_symbol symbol.OpenParen = refl
no_part_symbol _ = refl

no_quote : (s : Symbol) → goes_on s 34 ≡ false
no_quote symbol.Dot = refl
no_quote _ = refl

first_other : (p q : ℕ → Bool) (cs : List ℕ) → ((c : ℕ) → q c ≡ true → p c ≡ false) → first_passes q cs ≡ true → first_passes p cs ≡ false
first_other p q [] fails h = refl
first_other p q (c ∷ cs) fails h = fails c h

symbol_part : (s : Symbol) → first_passes is_word_part (symbol_text s) ≡ false
symbol_part s = first_other is_word_part is_no_part (symbol_text s) no_part (no_part_symbol s)

both_fail : (p q : ℕ → Bool) (cs : List ℕ) → first_passes p cs ≡ false → first_passes q cs ≡ false → first_passes (λ c. p c || q c) cs ≡ false
both_fail p q [] h g = refl
both_fail p q (c ∷ cs) h g = or_from (p c) (q c) h g

-- ---- which may stand beside which

-- how a lexeme that may stand behind another begins
behind_blank : (l : TokenKind) → Begins (item.Token l) is_blank
behind_blank token.Word = word_start-blank
behind_blank (token.Keyword k) = word_start-blank
behind_blank (token.Int n) = digit-blank
behind_blank token.Text = refl
behind_blank (token.Mark s) = no_blank_symbol s

behind_word : (l : ItemKind) → beside (item.Token token.Word) l ≡ true → Begins l is_word_part
behind_word item.Blank h = blank_part
behind_word item.Comment h = absurd (false≢true h)
behind_word (item.Token token.Word) h = absurd (false≢true h)
behind_word (item.Token (token.Keyword k)) h = absurd (false≢true h)
behind_word (item.Token (token.Int n)) h = absurd (false≢true h)
behind_word (item.Token token.Text) h = no_part 34 refl
behind_word (item.Token (token.Mark s)) h = symbol_part s

behind_keyword : (k : Keyword) (l : ItemKind) → beside (item.Token (token.Keyword k)) l ≡ true → Begins l is_word_part
behind_keyword k item.Blank h = blank_part
behind_keyword k item.Comment h = absurd (false≢true h)
behind_keyword k (item.Token token.Word) h = absurd (false≢true h)
behind_keyword k (item.Token (token.Keyword j)) h = absurd (false≢true h)
behind_keyword k (item.Token (token.Int n)) h = absurd (false≢true h)
behind_keyword k (item.Token token.Text) h = no_part 34 refl
behind_keyword k (item.Token (token.Mark s)) h = symbol_part s

behind_number : (n : ℕ) (l : ItemKind) → beside (item.Token (token.Int n)) l ≡ true → Begins l spoils_number
behind_number n item.Blank h = λ c blank. or_from (is_word_part c) (c == 46) (blank_part c blank) (blank_apart c blank 46 refl)
behind_number n item.Comment h = absurd (false≢true h)
behind_number n (item.Token token.Word) h = absurd (false≢true h)
behind_number n (item.Token (token.Keyword k)) h = absurd (false≢true h)
behind_number n (item.Token (token.Int m)) h = absurd (false≢true h)
behind_number n (item.Token token.Text) h = or_from (is_word_part 34) (34 == 46) (no_part 34 refl) refl
behind_number n (item.Token (token.Mark s)) h = both_fail is_word_part (λ c. c == 46) (symbol_text s) (symbol_part s) (not-true _ h)

behind_symbol : (s : Symbol) (l : ItemKind) → beside (item.Token (token.Mark s)) l ≡ true → Begins l (goes_on s)
behind_symbol s item.Blank h = λ c blank. goes_apart s c (blank_apart c blank) (blank_digit c blank)
behind_symbol s item.Comment h = absurd (false≢true h)
behind_symbol s (item.Token token.Word) h = word_goes s
behind_symbol s (item.Token (token.Keyword k)) h = word_goes s
behind_symbol s (item.Token (token.Int n)) h = λ c digit. goes_apart-digit s c h digit
behind_symbol s (item.Token token.Text) h = no_quote s
behind_symbol s (item.Token (token.Mark t)) h = not-true _ h

-- what may stand behind lets a lexeme end
pub lets_end : (k l : ItemKind) (front rest : List ℕ) → beside k l ≡ true → IsLexeme l front → EndsBefore k (front ++ rest)
lets_end item.Blank item.Blank front rest h lexeme = absurd (false≢true h)
lets_end item.Blank item.Comment front rest h lexeme = absurd (false≢true h)
lets_end item.Blank (item.Token u) front rest h lexeme = first_of_lexeme is_blank (item.Token u) front rest lexeme (behind_blank u)
lets_end item.Comment item.Blank front rest h lexeme = absurd (false≢true h)
lets_end item.Comment item.Comment front rest h lexeme = absurd (false≢true h)
lets_end item.Comment (item.Token u) front rest h lexeme = absurd (false≢true h)
lets_end (item.Token token.Word) l front rest h lexeme = first_of_lexeme is_word_part l front rest lexeme (behind_word l h)
lets_end (item.Token (token.Keyword k)) l front rest h lexeme = first_of_lexeme is_word_part l front rest lexeme (behind_keyword k l h)
lets_end (item.Token (token.Int n)) l front rest h lexeme = first_of_lexeme spoils_number l front rest lexeme (behind_number n l h)
lets_end (item.Token token.Text) l front rest h lexeme = tt
lets_end (item.Token (token.Mark s)) l front rest h lexeme = first_of_lexeme (goes_on s) l front rest lexeme (behind_symbol s l h)

-- ---- pieces

ends_at_end : (k : ItemKind) → k ≢ item.Comment → EndsBefore k []
ends_at_end item.Blank some = refl
ends_at_end item.Comment some = absurd (some refl)
ends_at_end (item.Token token.Word) some = refl
ends_at_end (item.Token (token.Keyword k)) some = refl
ends_at_end (item.Token (token.Int n)) some = refl
ends_at_end (item.Token token.Text) some = tt
ends_at_end (item.Token (token.Mark s)) some = refl

join_is_text : (ps : List Piece) → ArePieces ps → IsUtf8 (join_pieces ps)
join_is_text [] h = ([], (refl, refl))
join_is_text (p ∷ ps) h = IsUtf8-append p.text (join_pieces ps) h.0.is_text (join_is_text ps h.1)

chars_of_join : (p : Piece) (ps : List Piece) → IsPiece p → ArePieces ps → chars (join_pieces (p ∷ ps)) ≡ chars p.text ++ chars (join_pieces ps)
chars_of_join p ps h g = chars-append p.text (join_pieces ps) h.is_text

piece_ends : (p : Piece) (ps : List Piece) → IsPiece p → ArePieces ps → first_beside p.kind ps ≡ true → EndsBefore p.kind (chars (join_pieces ps))
piece_ends p [] h g apart = subst (EndsBefore p.kind) (sym chars-nil) (ends_at_end p.kind h.no_comment)
piece_ends p (q ∷ qs) h g apart = subst (EndsBefore p.kind) (sym (chars_of_join q qs g.0 g.1)) (lets_end p.kind q.kind (chars q.text) (chars (join_pieces qs)) apart g.0.lexeme)

pieces_cut : (ps : List Piece) → ArePieces ps → AreApart ps → (at : ℕ) → Cuts IsEnd at (chars (join_pieces ps)) (items_from at ps)
pieces_cut [] h apart at = chars-nil
pieces_cut (p ∷ ps) h apart at =
    let front : List ℕ = chars p.text in
    let rest : List ℕ = chars (join_pieces ps) in
    let len : byte_len front ≡ length p.text = byte_len-chars p.text h.0.is_text in
    let here : IsItemAt at (front ++ rest) (item_of p.kind at (at + byte_len front)) front rest = lexeme_ends at p.kind front rest h.0.lexeme (piece_ends p ps h.0 h.1 apart.0) in
    subst (λ t. Cuts IsEnd at t (items_from at (p ∷ ps))) (sym (chars_of_join p ps h.0 h.1)) (
      front,
      rest,
      subst (λ n. IsItemAt at (front ++ rest) (item_of p.kind at (at + n)) front rest) len here,
      subst (λ n. Cuts IsEnd (at + n) rest (items_from (at + length p.text) ps)) (sym len) (pieces_cut ps h.1 apart.1 (at + length p.text)),
    )

pub pieces_lex : PiecesLex
pieces_lex ps h apart = record { is_text = join_is_text ps h; cut = pieces_cut ps h apart 0 }
