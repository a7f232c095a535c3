-- What was analysed before files got other texts serves for those that stay.
use Rattle.std.proofs.Common.{◌≡◌, ℕ, zero, suc, List, [], ◌∷◌, ◌++◌, length, refl, sym, ap, subst, ◌∙◌, true≢false, inl, inr}
use Rattle.std.specs.Prelude.{◌⊎◌, Option, Some, Bool, true, false, not, ◌||◌, ◌==◌, slice_get}
use Rattle.std.proofs.lemmas.Bool.Decides.{Decides-eqb}
use Rattle.std.proofs.lemmas.Option.{same_Some, none-some}
use Rattle.jr_sources.specs.Sources.{Source, texts_of, with_text}
use Rattle.jr_sources.specs.Analysed.{IsKeptAnalysis}
use Rattle.jr_sources.specs.Earlier.{IsMaybeEarlier}
use Rattle.jr_sources.specs.declared.analyses.Analysis.{Analysis}
use Rattle.jr_sources.specs.declared.analyses.EarlierAnalysis.{EarlierAnalysis}
use Rattle.jr_session.specs.declared.changes.Change.{Change}
use Rattle.jr_session.specs.Changes.{put_back}
use Rattle.jr_session.specs.Trying.{changes_file, AreUnchanged, IsOfAnalysed}

other_text : (ss : List Source) (n m : ℕ) (t : List ℕ) → (n ≡ m → ⊥) → slice_get (texts_of (with_text ss n t)) m ≡ slice_get (texts_of ss) m
other_text [] n m t h = refl
other_text (s ∷ ss) zero zero t h = absurd (h refl)
other_text (s ∷ ss) zero (suc m) t h = refl
other_text (s ∷ ss) (suc n) zero t h = refl
other_text (s ∷ ss) (suc n) (suc m) t h = other_text ss n m t (λ e. h (ap suc e))

first_false : (a b : Bool) → (a || b) ≡ false → a ≡ false
first_false true b h = absurd (true≢false h)
first_false false b h = refl

rest_false : (a b : Bool) → (a || b) ≡ false → b ≡ false
rest_false true b h = absurd (true≢false h)
rest_false false b h = h

-- the text of a file that is none of those that change
pub text_stays : (ss : List Source) (cs : List Change) (file : ℕ) → changes_file cs file ≡ false → slice_get (texts_of (put_back ss cs)) file ≡ slice_get (texts_of ss) file
text_stays ss [] file h = refl
text_stays ss (c ∷ cs) file h =
    other_text (put_back ss cs) c.file file c.text (λ e. true≢false (sym ((Decides-eqb c.file file).1 e) ∙ first_false (c.file == file) (changes_file cs file) h))
    ∙ text_stays ss cs file (rest_false (c.file == file) (changes_file cs file) h)

pub earlier_serves : (ss : List Source) (cs : List Change) (stays : List Bool) → AreUnchanged cs stays → (analysed taken : Option Analysis) → IsKeptAnalysis ss analysed → taken ≡ analysed
    → (given : Option EarlierAnalysis) → IsOfAnalysed taken stays given → IsMaybeEarlier (put_back ss cs) given
earlier_serves ss cs stays unchanged analysed taken kept is given of e h =
    (ss, kept e.analysis (sym is ∙ (of e h).0), λ file s. sym (text_stays ss cs file (unchanged file (subst (λ (bs : List Bool). slice_get bs file ≡ Some true) (of e h).1 s))))

-- ---- one more file

pub unchanged_none : (cs : List Change) → AreUnchanged cs []
unchanged_none cs file h = absurd (none-some true h)

last_cases : (xs : List Bool) (b : Bool) (i : ℕ) → slice_get (xs ++ b ∷ []) i ≡ Some true → (slice_get xs i ≡ Some true) ⊎ ((b ≡ true) × (i ≡ length xs))
last_cases [] b zero h = inr (same_Some b true h, refl)
last_cases [] b (suc i) h = absurd (none-some true h)
last_cases (x ∷ xs) b zero h = inl h
last_cases (x ∷ xs) b (suc i) h = elim (last_cases xs b i h) [
  | inl g ↦ inl g
  | inr g ↦ inr (g.0, ap suc g.1)
]

is_false : (x y : Bool) → y ≡ not x → y ≡ true → x ≡ false
is_false true y e t = absurd (true≢false (sym t ∙ e))
is_false false y e t = refl

pub unchanged_more : (cs : List Change) (stays : List Bool) (b : Bool) → AreUnchanged cs stays → b ≡ not (changes_file cs (length stays)) → AreUnchanged cs (stays ++ b ∷ [])
unchanged_more cs stays b before is file h = elim (last_cases stays b file h) [
  | inl g ↦ before file g
  | inr g ↦ subst (λ (n : ℕ). changes_file cs n ≡ false) (sym g.1) (is_false (changes_file cs (length stays)) b is g.0)
]
