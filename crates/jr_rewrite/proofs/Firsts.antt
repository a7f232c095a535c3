-- How tokens begin, and respellings, which take their place.
use Rattle.std.proofs.Common.{◌≡◌, ◌==◌, true, false, not, ◌||◌, ℕ, List, [], ◌∷◌, ◌++◌, refl, sym, ap, subst, inl}
use Rattle.std.specs.Str.{chars}
use Rattle.std.proofs.lemmas.Bool.{or_parts}
use Rattle.jr_lex.specs.declared.items.ItemKind.TheVariants as item
use Rattle.jr_lex.specs.declared.items.TokenKind.TheVariants.{Word, Keyword as KeywordKind}
use Rattle.jr_lex.specs.declared.items.Keyword.{Keyword}
use Rattle.jr_lex.specs.declared.items.Keyword.TheVariants as keyword
use Rattle.jr_lex.specs.Characters.{is_line_end, is_blank, is_word_start, first_passes}
use Rattle.jr_lex.specs.Scan.{is_not_line_end}
use Rattle.jr_lex.specs.Words.{IsWord as IsWordText}
use Rattle.jr_lex.specs.Lexemes.{IsLexeme}
use Rattle.jr_lex.specs.Replacing.{IsName}
use Rattle.jr_lex.proofs.WordLaws.{keyword-IsWord}
use Rattle.jr_lex.proofs.Yields.{Yields, paren_yields, word_yields}
use Rattle.jr_rewrite.specs.Respellings.{Front, same, alone, by_this, by_super, by_cast_this, by_class, by_outer_class, by_cast}
use Rattle.jr_rewrite.specs.Suitable.{AreNames, MayStandBeforeVariable}
use Rattle.jr_rewrite.proofs.Parts.{respelled_parts, join_chars, name_starts, starts_append}

-- ---- tokens

first_of_word : (w rest : List ℕ) → IsWordText w → first_passes is_word_start (w ++ rest) ≡ true
first_of_word [] rest h = absurd h
first_of_word (c ∷ cs) rest h = h.0

pub word_first : (front rest : List ℕ) → IsLexeme (item.Token Word) front → first_passes is_word_start (front ++ rest) ≡ true
word_first front rest h = first_of_word front rest h.is_word

pub keyword_first : (k : Keyword) (front rest : List ℕ) → IsLexeme (item.Token (KeywordKind k)) front → first_passes is_word_start (front ++ rest) ≡ true
keyword_first k front rest h = first_of_word front rest (subst IsWordText (sym h) (keyword-IsWord k))

-- no line ends where a text begins with no blank
pub goes_on : (text : List ℕ) → (text ≡ [] → ⊥) → first_passes is_blank text ≡ false → first_passes is_not_line_end text ≡ true
goes_on [] some h = absurd (some refl)
goes_on (c ∷ cs) some h = ap not (or_parts ((c == 32) || (c == 9) || (c == 12)) (is_line_end c) h).1

-- ---- what is put in

named_first : (x more rest : List ℕ) → IsName x → first_passes is_word_start ((chars x ++ more) ++ rest) ≡ true
named_first x more rest n = starts_append is_word_start (chars x ++ more) rest (starts_append is_word_start (chars x) more (name_starts (chars x) n.is_identifier))

-- a respelling stands where a word stood
pub respelled_yields : (f : Front) (x text rest : List ℕ) → MayStandBeforeVariable f → AreNames f → IsName x → first_passes is_word_start text ≡ true
    → Yields text (join_chars (respelled_parts f x) ++ rest)
respelled_yields same x text rest may h n starts = word_yields text _ starts (named_first x [] rest n)
respelled_yields alone x text rest may h n starts = word_yields text _ starts (named_first x [] rest n)
respelled_yields by_this x text rest may h n starts = word_yields text _ starts (keyword-IsWord keyword.This).0
respelled_yields by_super x text rest may h n starts = word_yields text _ starts (keyword-IsWord keyword.Super).0
respelled_yields (by_cast_this k) x text rest may h n starts = paren_yields text 40 _ (inl refl)
respelled_yields (by_class k) x text rest may h n starts = word_yields text _ starts (named_first k _ rest h)
respelled_yields (by_outer_class o k) x text rest may h n starts = word_yields text _ starts (named_first o _ rest h.0)
respelled_yields (by_cast k) x text rest may h n starts = absurd may
