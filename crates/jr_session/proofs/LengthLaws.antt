-- How long texts are where one of them is exchanged.
use Rattle.std.proofs.Common.{◌≡◌, ◌≢◌, ℕ, zero, suc, ◌+◌, ◌*◌, ◌<◌, ◌≤◌, List, [], ◌∷◌, set, length, refl, sym, subst, ◌∙◌, arith, mul-le-mul_right}
use Rattle.std.specs.List.{slice_get}
use Rattle.std.specs.Prelude.{Some}
use Rattle.std.proofs.lemmas.Option.{slice_get_within, get_or_from_slice_get, none-some}
use Rattle.std.proofs.lemmas.List.Elements.{All-set}
use Rattle.std.proofs.lemmas.List.Sums.{sum_by-set, get_or-le-sum_by, sum_by-le}
use Rattle.jr_text.specs.Texts.{text_limit}
use Rattle.jr_sources.specs.Sources.{Source, texts_of, total_of, file_limit, with_text}
use Rattle.jr_session.specs.Splicing.{HasText}
use Rattle.jr_session.specs.Lengths.{AreWithin, IsFirstTooLong}
use Rattle.jr_sources.proofs.SourceLaws.{texts-with_text, length-texts}
use Rattle.jr_session.proofs.Places.{kept_at}

-- where an element was written, it stands
stands_at : {X : Type 0} (xs : List X) (n : ℕ) (x y : X) → slice_get xs n ≡ Some x → slice_get (set xs n y) n ≡ Some y
stands_at [] n x y h = absurd (none-some x h)
stands_at (z ∷ zs) zero x y h = refl
stands_at (z ∷ zs) (suc n) x y h = stands_at zs n x y h

module _ (sources : List Source) (number : ℕ) (old new : List ℕ) (has : HasText sources number old) where
  texts : texts_of (with_text sources number new) ≡ set (texts_of sources) number new
  texts = texts-with_text sources number new

  pub old_counted : length old ≤ total_of (texts_of sources)
  old_counted =
      let is = get_or_from_slice_get (texts_of sources) number old old has in
      let le = get_or-le-sum_by (λ (t : List ℕ). length t) (texts_of sources) number old (slice_get_within (texts_of sources) number old has) in
      subst (λ (t : List ℕ). length t ≤ total_of (texts_of sources)) is le

  pub total_with : total_of (texts_of (with_text sources number new)) + length old ≡ total_of (texts_of sources) + length new
  total_with =
      let is = get_or_from_slice_get (texts_of sources) number old old has in
      let sum = sum_by-set (λ (t : List ℕ). length t) (texts_of sources) number new old (slice_get_within (texts_of sources) number old has) in
      subst (λ (ts : List (List ℕ)). total_of ts + length old ≡ total_of (texts_of sources) + length new) (sym texts)
      (subst (λ (t : List ℕ). total_of (set (texts_of sources) number new) + length t ≡ total_of (texts_of sources) + length new) is sum)

  pub within_with : AreWithin (texts_of sources) → length new ≤ text_limit → AreWithin (texts_of (with_text sources number new))
  within_with all small = subst AreWithin (sym texts) (All-set (λ (t : List ℕ). length t ≤ text_limit) (texts_of sources) number new small all)

  pub first_too_long : (len : ℕ) → AreWithin (texts_of sources) → text_limit < length new → len ≡ length new → IsFirstTooLong (texts_of (with_text sources number new)) len
  first_too_long len all beyond told = subst (λ (ts : List (List ℕ)). IsFirstTooLong ts len) (sym texts) (record {
    number = number;
    text = new;
    stands = stands_at (texts_of sources) number old new has;
    beyond = beyond;
    told = told;
    first = λ i other l at.
        let apart : i ≢ number = λ e. absurd (omega arith) in
        let there : slice_get (texts_of sources) i ≡ Some other = sym (kept_at (texts_of sources) number i new apart) ∙ at in
        subst (λ (t : List ℕ). length t ≤ text_limit) (get_or_from_slice_get (texts_of sources) i other other there) (all i other (slice_get_within (texts_of sources) i other there));
  })

-- all texts of a session come to a number of 64 bits by far
pub total_small : (sources : List Source) → length sources ≤ file_limit → AreWithin (texts_of sources) → total_of (texts_of sources) ≤ file_limit * text_limit
total_small sources few all =
    let a = sum_by-le (λ (t : List ℕ). length t) text_limit (texts_of sources) all in
    let b = length-texts sources in
    let c : length (texts_of sources) * text_limit ≤ file_limit * text_limit = mul-le-mul_right {m = length (texts_of sources)} {n = file_limit} text_limit (omega arith) in
    omega arith
