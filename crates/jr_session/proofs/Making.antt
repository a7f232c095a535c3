-- What edits make of the files, one file after the other.
use Rattle.std.proofs.Common.{◌≡◌, ◌≢◌, ℕ, zero, suc, ◌+◌, ◌*◌, ◌<◌, ◌≤◌, List, [], ◌∷◌, ◌++◌, length, take, refl, sym, ap, subst, ◌∙◌, inl, inr, arith, mul-le-mul_right}
use Rattle.std.specs.List.{slice_get}
use Rattle.std.specs.Prelude.{Some}
use Rattle.std.proofs.lemmas.List.{take_all, length-take-le}
use Rattle.std.proofs.lemmas.List.Elements.{All-tail, All-push}
use Rattle.std.proofs.lemmas.List.Sums.{sum_by_push, sum_by-le}
use Rattle.std.proofs.lemmas.Option.{slice_get_within, get_or_from_slice_get, none-some, same_Some}
use Rattle.jr_text.specs.Edits.{Entry, FitsIn}
use Rattle.jr_text.specs.Splices.{splice}
use Rattle.jr_text.specs.Texts.{text_limit}
use Rattle.std.specs.Prelude.{Bool, true, false, if◌then◌else◌}
use Rattle.std.specs.Str.{bytes_eq}
use Rattle.std.proofs.lemmas.Bool.{false_from_ne_true, cond-true, cond-false}
use Rattle.std.proofs.lemmas.Slice.Eq.{bytes_eq-Decides}
use Rattle.jr_sources.specs.Sources.{Source, HasName, texts_of, total_of, total_limit, file_limit, with_text}
use Rattle.jr_sources.proofs.SourceLaws.{length-texts}
use Rattle.jr_session.specs.declared.changes.Change.{Change}
use Rattle.jr_session.specs.Changes.{put_back, AreOfFiles}
use Rattle.jr_session.specs.Lengths.{AreWithin, AreTooLong}
use Rattle.jr_session.specs.NewTexts.{with_edits, differing}
use Rattle.jr_session.specs.Splicing.{HasText}
use Rattle.jr_session.specs.Making.{Fit, IsPushed, AreMadeUntil}
use Rattle.jr_session.proofs.Histories.{put-append}
use Rattle.jr_session.proofs.Places.{taken_more}

-- ---- the new texts

no_edits : (ss : List Source) → with_edits ss [] ≡ ss
no_edits [] = refl
no_edits (s ∷ ss) = refl

pub length-edited : (ss : List Source) (es : List (List Entry)) → length (with_edits ss es) ≡ length ss
length-edited [] es = refl
length-edited (s ∷ ss) [] = refl
length-edited (s ∷ ss) (e ∷ es) = ap suc (length-edited ss es)

pub new_text_at : (ss : List Source) (es : List (List Entry)) (n : ℕ) (old : List ℕ) (its : List Entry) → HasText ss n old → slice_get es n ≡ Some its → HasText (with_edits ss es) n (splice old its)
new_text_at [] es n old its h g = absurd (none-some old h)
new_text_at (s ∷ ss) [] n old its h g = absurd (none-some its g)
new_text_at (s ∷ ss) (e ∷ es) zero old its h g = let a = same_Some s.text old h in let b = same_Some e its g in λ i. Some (splice (a i) (b i))
new_text_at (s ∷ ss) (e ∷ es) (suc n) old its h g = new_text_at ss es n old its h g

pub fit_count : (ss : List Source) (es : List (List Entry)) → Fit ss es → length es ≡ length ss
fit_count [] [] h = refl
fit_count [] (e ∷ es) h = absurd h
fit_count (s ∷ ss) [] h = absurd h
fit_count (s ∷ ss) (e ∷ es) h = ap suc (fit_count ss es h.1)

pub fits_at : (ss : List Source) (es : List (List Entry)) (n : ℕ) (old : List ℕ) (its : List Entry) → Fit ss es → HasText ss n old → slice_get es n ≡ Some its → FitsIn old its
fits_at [] es n old its f h g = absurd (none-some old h)
fits_at (s ∷ ss) [] n old its f h g = absurd f
fits_at (s ∷ ss) (e ∷ es) zero old its f h g = subst (λ (t : List ℕ). FitsIn t its) (same_Some s.text old h) (subst (λ (x : List Entry). FitsIn s.text x) (same_Some e its g) f.0)
fits_at (s ∷ ss) (e ∷ es) (suc n) old its f h g = fits_at ss es n old its f.1 h g

-- ---- one file more

one_more : (ss : List Source) (es : List (List Entry)) (n : ℕ) (t : List ℕ) → n < length es → HasText (with_edits ss es) n t → with_edits ss (take (suc n) es) ≡ with_text (with_edits ss (take n es)) n t
one_more [] es n t l h = absurd (none-some t h)
one_more (s ∷ ss) [] n t l h = absurd (omega arith)
one_more (s ∷ ss) (e ∷ es) zero t l h =
    let a = same_Some (splice s.text e) t h in
    let b = no_edits ss in
    λ i. record { name = s.name; text = a i } ∷ b i
one_more (s ∷ ss) (e ∷ es) (suc n) t l h = ap (λ (xs : List Source). record { name = s.name; text = splice s.text e } ∷ xs) (one_more ss es n t (omega arith) h)

exchanged : (ss : List Source) (m n : ℕ) (t u : List ℕ) → m ≢ n → with_text (with_text ss m t) n u ≡ with_text (with_text ss n u) m t
exchanged [] m n t u d = refl
exchanged (s ∷ ss) zero zero t u d = absurd (d refl)
exchanged (s ∷ ss) zero (suc n) t u d = refl
exchanged (s ∷ ss) (suc m) zero t u d = refl
exchanged (s ∷ ss) (suc m) (suc n) t u d = ap (λ (xs : List Source). s ∷ xs) (exchanged ss m n t u (λ e. d (ap suc e)))

-- a file behind those of the changes
put_past : (ss : List Source) (cs : List Change) (n : ℕ) (t : List ℕ) → AreOfFiles n cs → put_back (with_text ss n t) cs ≡ with_text (put_back ss cs) n t
put_past ss [] n t h = refl
put_past ss (c ∷ cs) n t h =
    let l : c.file < n = h 0 c (omega arith) in
    let apart : n ≢ c.file = λ e. absurd (omega arith) in
    ap (λ (xs : List Source). with_text xs c.file c.text) (put_past ss cs n t (All-tail (λ (x : Change). x.file < n) c cs h)) ∙ exchanged (put_back ss cs) n c.file t c.text apart

put_one_more : (ss : List Source) (cs : List Change) (n : ℕ) (t : List ℕ) → AreOfFiles n cs → put_back ss (cs ++ record { file = n; text = t } ∷ []) ≡ with_text (put_back ss cs) n t
put_one_more ss cs n t h = put-append ss cs (record { file = n; text = t } ∷ []) ∙ put_past ss cs n t h

stays : (ss : List Source) (n : ℕ) (t : List ℕ) → HasText ss n t → with_text ss n t ≡ ss
stays [] n t h = refl
stays (s ∷ ss) zero t h = ap (λ (x : List ℕ). record { name = s.name; text = x } ∷ ss) (sym (same_Some s.text t h))
stays (s ∷ ss) (suc n) t h = ap (λ (xs : List Source). s ∷ xs) (stays ss n t h)

old_text : (ss : List Source) (es : List (List Entry)) (n : ℕ) (t : List ℕ) → HasText ss n t → HasText (with_edits ss (take n es)) n t
old_text [] es n t h = absurd (none-some t h)
old_text (s ∷ ss) [] zero t h = h
old_text (s ∷ ss) [] (suc n) t h = h
old_text (s ∷ ss) (e ∷ es) zero t h = h
old_text (s ∷ ss) (e ∷ es) (suc n) t h = old_text ss es n t h

next_becomes : (ss : List Source) (es : List (List Entry)) (n : ℕ) (t : List ℕ) (cs cs' : List Change) (ns ns' : List (List ℕ)) → n < length es → AreOfFiles n cs → put_back ss cs ≡ with_edits ss (take n es) → HasText (with_edits ss es) n t → IsPushed ss n t cs ns cs' ns' → put_back ss cs' ≡ with_edits ss (take (suc n) es)
next_becomes ss es n t cs cs' ns ns' l o b h (inl p) = ap (put_back ss) p.1 ∙ b ∙ sym (stays (with_edits ss (take n es)) n t (old_text ss es n t p.0)) ∙ sym (one_more ss es n t l h)
next_becomes ss es n t cs cs' ns ns' l o b h (inr p) = ap (put_back ss) p.1 ∙ put_one_more ss cs n t o ∙ ap (λ (xs : List Source). with_text xs n t) b ∙ sym (one_more ss es n t l h)

more_files : (n : ℕ) (cs : List Change) → AreOfFiles n cs → AreOfFiles (n + 1) cs
more_files n cs h k d l = let a = h k d l in omega arith

next_files : (ss : List Source) (n : ℕ) (t : List ℕ) (cs cs' : List Change) (ns ns' : List (List ℕ)) → AreOfFiles n cs → IsPushed ss n t cs ns cs' ns' → AreOfFiles (n + 1) cs'
next_files ss n t cs cs' ns ns' h (inl p) = subst (λ (xs : List Change). AreOfFiles (n + 1) xs) (sym p.1) (more_files n cs h)
next_files ss n t cs cs' ns ns' h (inr p) = subst (λ (xs : List Change). AreOfFiles (n + 1) xs) (sym p.1) (All-push (λ (c : Change). c.file < n + 1) cs (record { file = n; text = t }) (more_files n cs h) (omega arith))

-- ---- the names of those whose text is another one

no_name_more : (ss ts : List Source) (n : ℕ) (t : List ℕ) → HasText ss n t → HasText ts n t → differing (take (suc n) ss) (take (suc n) ts) ≡ differing (take n ss) (take n ts)
no_name_more [] ts n t h g = absurd (none-some t h)
no_name_more (s ∷ ss) [] n t h g = absurd (none-some t g)
no_name_more (s ∷ ss) (x ∷ xs) zero t h g =
    let same : s.text ≡ x.text = same_Some s.text t h ∙ sym (same_Some x.text t g) in
    cond-true (bytes_eq s.text x.text) [] (s.name ∷ []) ((bytes_eq-Decides s.text x.text).1 same)
no_name_more (s ∷ ss) (x ∷ xs) (suc n) t h g = head (bytes_eq s.text x.text) _ _ (no_name_more ss xs n t h g)
  where
    head : (b : Bool) (xs ys : List (List ℕ)) → xs ≡ ys → (if b then xs else s.name ∷ xs) ≡ (if b then ys else s.name ∷ ys)
    head true a b e = e
    head false a b e = ap (λ (ns : List (List ℕ)). s.name ∷ ns) e

name_more : (ss ts : List Source) (n : ℕ) (t name : List ℕ) → HasName ss n name → (HasText ss n t → ⊥) → HasText ts n t → differing (take (suc n) ss) (take (suc n) ts) ≡ differing (take n ss) (take n ts) ++ name ∷ []
name_more [] ts n t name h other g = absurd (none-some name h)
name_more (s ∷ ss) [] n t name h other g = absurd (none-some t g)
name_more (s ∷ ss) (x ∷ xs) zero t name h other g =
    let apart : s.text ≡ x.text → ⊥ = λ e. other (ap (λ (y : List ℕ). Some y) (e ∙ same_Some x.text t g)) in
    cond-false (bytes_eq s.text x.text) [] (s.name ∷ []) (false_from_ne_true (bytes_eq s.text x.text) (λ e. apart ((bytes_eq-Decides s.text x.text).0 e)))
    ∙ ap (λ (y : List ℕ). y ∷ []) (same_Some s.name name h)
name_more (s ∷ ss) (x ∷ xs) (suc n) t name h other g = head (bytes_eq s.text x.text) _ _ (name_more ss xs n t name h other g)
  where
    head : (b : Bool) (ys zs : List (List ℕ)) → ys ≡ zs ++ name ∷ [] → (if b then ys else s.name ∷ ys) ≡ (if b then zs else s.name ∷ zs) ++ name ∷ []
    head true a b e = e
    head false a b e = ap (λ (ns : List (List ℕ)). s.name ∷ ns) e

next_named : (ss ts : List Source) (n : ℕ) (t : List ℕ) (cs cs' : List Change) (ns ns' : List (List ℕ)) → HasText ts n t → ns ≡ differing (take n ss) (take n ts) → IsPushed ss n t cs ns cs' ns' → ns' ≡ differing (take (suc n) ss) (take (suc n) ts)
next_named ss ts n t cs cs' ns ns' g e (inl p) = p.2 ∙ e ∙ sym (no_name_more ss ts n t p.0 g)
next_named ss ts n t cs cs' ns ns' g e (inr p) = p.2.2 ∙ ap (λ (xs : List (List ℕ)). xs ++ p.2.0 ∷ []) e ∙ sym (name_more ss ts n t p.2.0 p.2.1 p.0 g)

pub none_made : (ss : List Source) (es : List (List Entry)) → AreMadeUntil ss es 0 [] [] 0
none_made ss es = record {
  becomes = sym (no_edits ss);
  named = refl;
  files = λ k d l. absurd (omega arith);
  within = λ k d l. absurd (omega arith);
  together = refl;
}

module _ (ss : List Source) (es : List (List Entry)) (n : ℕ) (cs : List Change) (ns : List (List ℕ)) (len : ℕ) (made : AreMadeUntil ss es n cs ns len) (t : List ℕ) (there : HasText (with_edits ss es) n t) where
  more : take (n + 1) (texts_of (with_edits ss es)) ≡ take n (texts_of (with_edits ss es)) ++ t ∷ []
  more = taken_more (texts_of (with_edits ss es)) n t there

  pub next_made : (cs' : List Change) (ns' : List (List ℕ)) → n < length es → length t ≤ text_limit → IsPushed ss n t cs ns cs' ns' → AreMadeUntil ss es (n + 1) cs' ns' (len + length t)
  next_made cs' ns' l small p = record {
    becomes =
        let e : n + 1 ≡ suc n = omega arith in
        subst (λ (k : ℕ). put_back ss cs' ≡ with_edits ss (take k es)) (sym e) (next_becomes ss es n t cs cs' ns ns' l made.files made.becomes there p);
    named =
        let e : n + 1 ≡ suc n = omega arith in
        subst (λ (k : ℕ). ns' ≡ differing (take k ss) (take k (with_edits ss es))) (sym e) (next_named ss (with_edits ss es) n t cs cs' ns ns' there made.named p);
    files = next_files ss n t cs cs' ns ns' made.files p;
    within = subst AreWithin (sym more) (All-push (λ (x : List ℕ). length x ≤ text_limit) (take n (texts_of (with_edits ss es))) t made.within small);
    together = ap (λ (k : ℕ). k + length t) made.together ∙ sym (sum_by_push (λ (x : List ℕ). length x) (take n (texts_of (with_edits ss es))) t) ∙ ap total_of (sym more);
  }

  pub made_too_long : (many : ℕ) → text_limit < length t → many ≡ length t → AreTooLong (texts_of (with_edits ss es)) many
  made_too_long many beyond told = inl (record {
    number = n;
    text = t;
    stands = there;
    beyond = beyond;
    told = told;
    first = λ i other l at.
        let front = take n (texts_of (with_edits ss es)) in
        let stands = before_taken (texts_of (with_edits ss es)) n i other l at in
        subst (λ (x : List ℕ). length x ≤ text_limit) (get_or_from_slice_get front i other other stands) (made.within i other (slice_get_within front i other stands));
  })
    where
      before_taken : (xs : List (List ℕ)) (n i : ℕ) (x : List ℕ) → i < n → slice_get xs i ≡ Some x → slice_get (take n xs) i ≡ Some x
      before_taken [] n i x l h = absurd (none-some x h)
      before_taken (z ∷ zs) zero i x l h = absurd (omega arith)
      before_taken (z ∷ zs) (suc n) zero x l h = h
      before_taken (z ∷ zs) (suc n) (suc i) x l h = before_taken zs n i x (omega arith) h

-- ---- all files

pub small_until : (ss : List Source) (es : List (List Entry)) (n : ℕ) (cs : List Change) (ns : List (List ℕ)) (len : ℕ) → AreMadeUntil ss es n cs ns len → n < length ss → length ss ≤ file_limit → len ≤ file_limit * text_limit
small_until ss es n cs ns len made l few =
    let texts = texts_of (with_edits ss es) in
    let a = sum_by-le (λ (t : List ℕ). length t) text_limit (take n texts) made.within in
    let b = length-texts (with_edits ss es) in
    let c = length-edited ss es in
    let d = length-take-le n texts (omega arith) in
    let e = made.together in
    let f : length (take n texts) * text_limit ≤ file_limit * text_limit = mul-le-mul_right {m = length (take n texts)} {n = file_limit} text_limit (omega arith) in
    omega arith

module _ (ss : List Source) (es : List (List Entry)) (n : ℕ) (cs : List Change) (ns : List (List ℕ)) (len : ℕ) (made : AreMadeUntil ss es n cs ns len) (end : n ≡ length ss) (fit : Fit ss es) where
  all_texts : take n (texts_of (with_edits ss es)) ≡ texts_of (with_edits ss es)
  all_texts =
      let b = length-texts (with_edits ss es) in
      let c = length-edited ss es in
      take_all n (texts_of (with_edits ss es)) (omega arith)

  pub all_made : put_back ss cs ≡ with_edits ss es
  all_made =
      let c = fit_count ss es fit in
      made.becomes ∙ ap (with_edits ss) (take_all n es (omega arith))

  pub all_named : ns ≡ differing ss (with_edits ss es)
  all_named =
      let b = length-edited ss es in
      made.named ∙ (λ i. differing (take_all n ss (omega arith) i) (take_all n (with_edits ss es) (omega arith) i))

  pub all_files : AreOfFiles (length ss) cs
  all_files = subst (λ (k : ℕ). AreOfFiles k cs) end made.files

  pub all_within : AreWithin (texts_of (with_edits ss es))
  all_within = subst AreWithin all_texts made.within

  pub all_together : len ≡ total_of (texts_of (with_edits ss es))
  all_together = made.together ∙ ap total_of all_texts

  pub together_too_long : total_limit < len → AreTooLong (texts_of (with_edits ss es)) len
  together_too_long beyond = let t = all_together in inr (record { within = all_within; beyond = omega arith; told = t })
