-- What a lexeme in front of a text is, it is in front of another that takes its place: of one that
-- goes on in the same way, begins with a parenthesis, or with a word where a word came.
use Rattle.std.proofs.Common.{◌≡◌, ℕ, ◌==◌, true, false, List, [], ◌∷◌, ◌++◌, refl, ap}
use Rattle.std.proofs.lemmas.Bool.{false≢true, both_ways}
use Rattle.jr_lex.specs.declared.items.ItemKind.{ItemKind}
use Rattle.jr_lex.specs.declared.items.ItemKind.TheVariants.{Token as TokenItem, Blank, Comment}
use Rattle.jr_lex.specs.declared.items.TokenKind.TheVariants.{Word}
use Rattle.jr_lex.specs.Characters.{is_blank, is_word_start, is_word_part, first_passes}
use Rattle.jr_lex.specs.Words.{IsIdentifier}
use Rattle.jr_lex.specs.Lexemes.{IsLexeme}
use Rattle.jr_lex.specs.Near.{IsCut, Near, NoNewDot, EndsLine}
use Rattle.jr_lex.specs.Seams.{Meets, IsParen, StartsWord}
use Rattle.jr_lex.proofs.FirstLaws.{start-apart, word_start-blank}
use Rattle.jr_lex.proofs.OneLexeme.{lexeme_cut, cut_near, meets_cut, blank_ends}
use Rattle.jr_lex.proofs.Seams.{paren, paren_ends, no_line, no_line_word, words, word_stops}

-- Each lexeme that is cut in front of `old` is cut in front of `new`, if behind a comment where a
-- line ended it ends; and no dot comes that wasn't there.
pub record Yields (old new : List ℕ) : Type 0 where
  pub cut : (k : ItemKind) (front : List ℕ) → EndsLine k old new → IsCut k front old → IsCut k front new
  pub no_dot : NoNewDot old new

pub yields_same : (text : List ℕ) → Yields text text
yields_same text = record { cut = λ k front line h. h; no_dot = λ e. e }

-- ---- with the same characters in front

pub near_run : (front old other : List ℕ) → (front ≡ [] → ⊥) → (front ≡ 46 ∷ [] → NoNewDot old other) → Near (front ++ old) (front ++ other)
near_run [] old other h dot = absurd (h refl)
near_run (c ∷ []) old other h dot = (refl, λ e. dot (ap (λ n. n ∷ []) e))
near_run (c ∷ d ∷ cs) old other h dot = (refl, λ _ e. e)

pub same_line : (k : ItemKind) (front rest other : List ℕ) → (front ≡ [] → ⊥) → EndsLine k (front ++ rest) (front ++ other)
same_line k [] rest other some = absurd (some refl)
same_line k (c ∷ cs) rest other some = λ comment ends. ends

pub yields_behind : (front old new : List ℕ) → (front ≡ [] → ⊥) → Yields old new → Yields (front ++ old) (front ++ new)
yields_behind [] old new some y = absurd (some refl)
yields_behind (c ∷ cs) old new some y = record {
  cut = λ k f line h. cut_near k f (c ∷ (cs ++ old)) (c ∷ (cs ++ new)) (near_run (c ∷ cs) old new some (λ e. y.no_dot)) line h;
  no_dot = λ e. e;
}

-- ---- how a text begins that takes a place

paren_no_blank : (d : ℕ) → IsParen d → is_blank d ≡ false
paren_no_blank d h = paren (λ n. is_blank n ≡ false) d h refl refl

paren_no_dot : (d : ℕ) → IsParen d → (d == 46) ≡ false
paren_no_dot d h = paren (λ n. (n == 46) ≡ false) d h refl refl

paren_meets : (k : ItemKind) (old : List ℕ) (d : ℕ) (ds : List ℕ) → IsParen d → EndsLine k old (d ∷ ds) → Meets k old (d ∷ ds)
paren_meets (TokenItem k) old d ds h line = paren_ends k d ds h
paren_meets Blank old d ds h line = tt
paren_meets Comment old d ds h line = line

pub paren_yields : (old : List ℕ) (d : ℕ) (ds : List ℕ) → IsParen d → Yields old (d ∷ ds)
paren_yields old d ds h = record {
  cut = λ k front line c. meets_cut k front old (d ∷ ds) (paren_no_blank d h) (paren_meets k old d ds h line) c;
  no_dot = λ dot. absurd (both_ways (d == 46) (paren_no_dot d h) dot);
}

starts_word : (text : List ℕ) → first_passes is_word_start text ≡ true → StartsWord text
starts_word [] h = absurd (false≢true h)
starts_word (c ∷ cs) h = h

word_no_blank : (text : List ℕ) → StartsWord text → first_passes is_blank text ≡ false
word_no_blank [] h = absurd h
word_no_blank (c ∷ cs) h = word_start-blank c h

word_no_dot : (old new : List ℕ) → StartsWord new → NoNewDot old new
word_no_dot old [] h = absurd h
word_no_dot old (c ∷ cs) h = λ dot. absurd (both_ways (c == 46) (start-apart c 46 h refl) dot)

pub word_yields : (old new : List ℕ) → first_passes is_word_start old ≡ true → first_passes is_word_start new ≡ true → Yields old new
word_yields old new h g =
    let was = starts_word old h in
    let comes = starts_word new g in
    record {
      cut = λ k front line c. meets_cut k front old new (word_no_blank new comes) (words k front old new c was comes) c;
      no_dot = word_no_dot old new comes;
    }

-- and where a word comes, a line goes on
pub word_line : (old new : List ℕ) → first_passes is_word_start old ≡ true → (k : ItemKind) → EndsLine k old new
word_line old new h k = no_line k old new (no_line_word old (starts_word old h))

-- ---- how it doesn't begin

no_comment : (k : ItemKind) (old new : List ℕ) → (k ≡ Comment → ⊥) → EndsLine k old new
no_comment k old new other = λ comment ends. absurd (other comment)

-- with a blank only where a blank came
pub yields_blank : (old new : List ℕ) → Yields old new → first_passes is_blank old ≡ false → first_passes is_blank new ≡ false
yields_blank old new y stops =
    blank_ends (32 ∷ []) new (y.cut Blank (32 ∷ []) (no_comment Blank old new (λ e. cc)) (lexeme_cut Blank (32 ∷ []) old blank stops))
  where
    blank : IsLexeme Blank (32 ∷ [])
    blank = (λ e. cc, refl)

-- with what goes on in a word only where that came
pub yields_part : (word old new : List ℕ) → IsIdentifier word → Yields old new → first_passes is_word_part old ≡ false → first_passes is_word_part new ≡ false
yields_part word old new is y stops =
    word_stops word new (y.cut (TokenItem Word) word (no_comment (TokenItem Word) old new (λ e. cc)) (lexeme_cut (TokenItem Word) word old is stops))
