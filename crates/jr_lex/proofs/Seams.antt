-- What may come directly behind a lexeme, by its kind.
use Rattle.std.proofs.Common.{◌≡◌, ℕ, ◌+◌, ◌==◌, true, false, List, [], ◌∷◌, ◌++◌, Ok, refl, sym, ◌∙◌, subst, inl, inr, arith}
use Rattle.std.proofs.lemmas.Bool.{or_parts, or_from, both_ways}
use Rattle.unicode_ident.proofs.IdentLemmas.{is_xid_continue-ascii}
use Rattle.jr_lex.specs.declared.items.ItemKind.{ItemKind}
use Rattle.jr_lex.specs.declared.items.ItemKind.TheVariants.{Token as TokenItem, Blank, Comment}
use Rattle.jr_lex.specs.declared.items.TokenKind.{TokenKind}
use Rattle.jr_lex.specs.declared.items.TokenKind.TheVariants.{Word, Keyword, Int, Text, Mark}
use Rattle.jr_lex.specs.declared.items.Symbol.{Symbol}
use Rattle.jr_lex.specs.declared.items.Symbol.TheVariants as symbol
use Rattle.jr_lex.specs.Characters.{is_word_start, is_word_part, first_passes, byte_len}
use Rattle.jr_lex.specs.Words.{IsWord as IsWordText}
use Rattle.jr_lex.specs.Scan.{is_not_line_end, scan}
use Rattle.jr_lex.specs.Replacing.{item_of}
use Rattle.jr_lex.specs.Beside.{goes_on, EndsBefore}
use Rattle.jr_lex.specs.Near.{IsCut, EndsLine}
use Rattle.jr_lex.specs.Seams.{NoLineEnds, MayPrecede, StatementsMayCome, IsParen, ParensMayCome, StartsWord, WordsMayCome}
use Rattle.jr_lex.proofs.FirstLaws.{scan-word, scan-digit, start-apart, word_start-part}
use Rattle.jr_lex.proofs.ScanMeaning.{item-scan, no_empty}
use Rattle.jr_lex.proofs.WordLaws.{keyword-IsWord}
use Rattle.jr_lex.proofs.BesideLaws.{word_goes}
use Rattle.jr_lex.proofs.Near.{word_run, number_run}
use Rattle.jr_lex.proofs.OneLexeme.{cut_item}

pub no_line : (k : ItemKind) (old other : List ℕ) → NoLineEnds old → EndsLine k old other
no_line k old other goes = λ comment ends. absurd (both_ways (first_passes is_not_line_end old) ends goes)

-- ---- in front of statements

goes_nowhere : (s : Symbol) → ((c : ℕ) → goes_on s c ≡ false) → (other : List ℕ) → first_passes (goes_on s) other ≡ false
goes_nowhere s h [] = refl
goes_nowhere s h (c ∷ cs) = h c

mark_precedes : (s : Symbol) (other : List ℕ) → MayPrecede (TokenItem (Mark s)) → first_passes (goes_on s) other ≡ false
mark_precedes s other h = elim h [
  | inl e ↦ subst (λ x. first_passes (goes_on x) other ≡ false) (sym e) (goes_nowhere symbol.OpenBrace (λ c. refl) other)
  | inr g ↦ elim g [
    | inl e ↦ subst (λ x. first_passes (goes_on x) other ≡ false) (sym e) (goes_nowhere symbol.CloseBrace (λ c. refl) other)
    | inr e ↦ subst (λ x. first_passes (goes_on x) other ≡ false) (sym e) (goes_nowhere symbol.Semicolon (λ c. refl) other)
  ]
]

pub statements : StatementsMayCome
statements old other goes Blank h = tt
statements old other goes Comment h = no_line Comment old other goes
statements old other goes (TokenItem (Mark s)) h = mark_precedes s other h
statements old other goes (TokenItem Word) h = absurd h
statements old other goes (TokenItem (Keyword k)) h = absurd h
statements old other goes (TokenItem (Int n)) h = absurd h
statements old other goes (TokenItem Text) h = absurd h

-- ---- parentheses

pub paren : (P : ℕ → Type 0) (d : ℕ) → IsParen d → P 40 → P 41 → P d
paren P d h first last = elim h [ inl e ↦ subst P (sym e) first | inr e ↦ subst P (sym e) last ]

part_paren : (d : ℕ) → IsParen d → is_word_part d ≡ false
unfolding is_word_part
part_paren d h =
    paren (λ n. is_word_part n ≡ false) d h (rw (is_xid_continue-ascii 40 (omega arith)) refl) (rw (is_xid_continue-ascii 41 (omega arith)) refl)

opening : (s : Symbol) → goes_on s 40 ≡ false
opening symbol.Dot = refl
opening _ = refl

closing : (s : Symbol) → goes_on s 41 ≡ false
closing symbol.Dot = refl
closing _ = refl

pub paren_ends : (k : TokenKind) (d : ℕ) (ds : List ℕ) → IsParen d → EndsBefore (TokenItem k) (d ∷ ds)
paren_ends Word d ds h = part_paren d h
paren_ends (Keyword k) d ds h = part_paren d h
paren_ends (Int n) d ds h = or_from (is_word_part d) (d == 46) (part_paren d h) (paren (λ n. (n == 46) ≡ false) d h refl refl)
paren_ends Text d ds h = tt
paren_ends (Mark s) d ds h = paren (λ n. goes_on s n ≡ false) d h (opening s) (closing s)

pub parens : ParensMayCome
parens Blank old other goes h = tt
parens Comment old other goes h = no_line Comment old other goes
parens (TokenItem k) old [] goes h = absurd h
parens (TokenItem k) old (d ∷ ds) goes h = paren_ends k d ds h

-- ---- words

scanned : (k : ItemKind) (c : ℕ) (tail old : List ℕ) → IsCut k (c ∷ tail) old → scan 0 c (tail ++ old) ≡ Ok (k, old)
scanned k c tail old cut = item-scan 0 c (tail ++ old) (item_of k 0 (0 + byte_len (c ∷ tail))) (c ∷ tail) old (cut_item k (c ∷ tail) old 0 cut)

-- what follows an identifier doesn't go on in it
pub word_stops : (word rest : List ℕ) → IsCut (TokenItem Word) word rest → first_passes is_word_part rest ≡ false
word_stops [] rest cut = absurd (no_empty (TokenItem Word) cut.taken.lexeme)
word_stops (c ∷ tail) rest cut = word_run c (TokenItem Word) tail rest (sym (scan-word 0 c _ cut.taken.lexeme.is_word.0) ∙ scanned (TokenItem Word) c tail rest cut)

-- a word or a number has no word directly behind it
no_word_behind_word : (k : ItemKind) (front old : List ℕ) → IsWordText front → IsCut k front old → StartsWord old → ⊥
no_word_behind_word k [] old word cut starts = word
no_word_behind_word k (c ∷ tail) [] word cut starts = starts
no_word_behind_word k (c ∷ tail) (d ∷ ds) word cut starts =
    both_ways (is_word_part d) (word_run c k tail (d ∷ ds) (sym (scan-word 0 c _ word.0) ∙ scanned k c tail (d ∷ ds) cut)) (word_start-part d starts)

no_word_behind_number : (n : ℕ) (front old : List ℕ) → IsCut (TokenItem (Int n)) front old → StartsWord old → ⊥
no_word_behind_number n [] old cut starts = cut.taken.lexeme
no_word_behind_number n (c ∷ tail) [] cut starts = starts
no_word_behind_number n (c ∷ tail) (d ∷ ds) cut starts =
    both_ways (is_word_part d) (or_parts (is_word_part d) (d == 46) (number_run 0 c (TokenItem (Int n)) tail (d ∷ ds) (sym (scan-digit 0 c _ cut.taken.lexeme.0) ∙ scanned (TokenItem (Int n)) c tail (d ∷ ds) cut))).0 (word_start-part d starts)

word_ends : (k : TokenKind) (front old other : List ℕ) → IsCut (TokenItem k) front old → StartsWord old → StartsWord other → EndsBefore (TokenItem k) other
word_ends Word front old other cut starts word = absurd (no_word_behind_word (TokenItem Word) front old cut.taken.lexeme.is_word cut starts)
word_ends (Keyword k) front old other cut starts word = absurd (no_word_behind_word (TokenItem (Keyword k)) front old (subst IsWordText (sym cut.taken.lexeme) (keyword-IsWord k)) cut starts)
word_ends (Int n) front old other cut starts word = absurd (no_word_behind_number n front old cut starts)
word_ends Text front old other cut starts word = tt
word_ends (Mark s) front old [] cut starts word = absurd word
word_ends (Mark s) front old (d ∷ ds) cut starts word = word_goes s d word

pub no_line_word : (old : List ℕ) → StartsWord old → NoLineEnds old
no_line_word [] h = absurd h
no_line_word (c ∷ cs) h = line c h
  where
    line : (c : ℕ) → is_word_start c ≡ true → is_not_line_end c ≡ true
    line c h = rw (start-apart c 10 h refl, start-apart c 13 h refl) refl

pub words : WordsMayCome
words Blank front old other cut starts word = tt
words Comment front old other cut starts word = no_line Comment old other (no_line_word old starts)
words (TokenItem k) front old other cut starts word = word_ends k front old other cut starts word
