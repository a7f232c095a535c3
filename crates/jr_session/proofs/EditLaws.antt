-- An edit is refused for the first reason that applies, or is done.
use Rattle.std.proofs.Common.{◌≡◌, ◌≢◌, ℕ, zero, suc, ◌∷◌, ◌<◌, ◌≤◌, List, [], length, refl, sym, ap, subst, ◌∙◌, inl, inr, arith}
use Rattle.std.specs.Prelude.{Some}
use Rattle.std.proofs.Common.{Bool, true, false, true≢false, eqb, ltb}
use Rattle.std.proofs.lemmas.Bool.Decides.{Decides-eqb, Decides-ltb}
use Rattle.std.proofs.lemmas.Option.{slice_get_within, get_or_from_slice_get, none-some, same_Some}
use Rattle.jr_text.specs.declared.spans.Span.{Span}
use Rattle.jr_text.specs.Spans.{CanCut}
use Rattle.jr_text.specs.Splices.{replaced}
use Rattle.jr_names.specs.declared.steps.Step.TheVariants as step
use Rattle.jr_names.specs.Refusals.{Refusal, no_such_file, bad_span, too_long}
use Rattle.jr_text.specs.Texts.{text_limit}
use Rattle.jr_sources.specs.Sources.{Source, IsFile, HasName, LacksFile, Differ, names_of, texts_of, with_text, total_of, total_limit}
use Rattle.jr_session.specs.States.{State}
use Rattle.jr_session.specs.Lengths.{AreWithin, AreTooLong}
use Rattle.jr_session.specs.Splicing.{HasText}
use Rattle.jr_session.specs.Refusing.{CutsBadly, WouldMake, IsFirstRefusal, IsGranted, rank_of}
use Rattle.jr_session.proofs.RefusalCases.{MayRefuseEdit, edit_refusals}

-- a file's name and text make it the file of its number
pub file_of : (ss : List Source) (i : ℕ) (name text : List ℕ) → HasName ss i name → HasText ss i text → IsFile ss i name text
file_of [] i name text n t = absurd (none-some name n)
file_of (s ∷ ss) zero name text n t = let a = same_Some s.name name n in let b = same_Some s.text text t in λ i. Some (record { name = a i; text = b i })
file_of (s ∷ ss) (suc i) name text n t = file_of ss i name text n t

pub name_of_file : (ss : List Source) (i : ℕ) (name text : List ℕ) → IsFile ss i name text → HasName ss i name
name_of_file [] i name text h = absurd (none-some (record { name = name; text = text }) h)
name_of_file (s ∷ ss) zero name text h = ap (λ (o : Source). Some o.name) (same_Some s (record { name = name; text = text }) h)
name_of_file (s ∷ ss) (suc i) name text h = name_of_file ss i name text h

pub text_of_file : (ss : List Source) (i : ℕ) (name text : List ℕ) → IsFile ss i name text → HasText ss i text
text_of_file [] i name text h = absurd (none-some (record { name = name; text = text }) h)
text_of_file (s ∷ ss) zero name text h = ap (λ (o : Source). Some o.text) (same_Some s (record { name = name; text = text }) h)
text_of_file (s ∷ ss) (suc i) name text h = text_of_file ss i name text h

-- ---- a name has one file

apart : (ss : List Source) (i j : ℕ) (name : List ℕ) → Differ ss → i < j → HasName ss i name → HasName ss j name → ⊥
apart ss i j name differ p x y =
    differ i j name p (slice_get_within (names_of ss) j name y)
    (get_or_from_slice_get (names_of ss) i name name x ∙ sym (get_or_from_slice_get (names_of ss) j name name y))

pub one_number : (ss : List Source) (i j : ℕ) (name : List ℕ) → Differ ss → HasName ss i name → HasName ss j name → i ≡ j
one_number ss i j name differ x y = by (eqb i j) refl (ltb i j) refl
  where
    by : (b : Bool) → eqb i j ≡ b → (l : Bool) → ltb i j ≡ l → i ≡ j
    by true e l f = (Decides-eqb i j).0 e
    by false e true f = absurd (apart ss i j name differ ((Decides-ltb i j).0 f) x y)
    by false e false f =
        let other : i ≢ j = λ q. true≢false (sym ((Decides-eqb i j).1 q) ∙ e) in
        let least : i < j → ⊥ = λ q. true≢false (sym ((Decides-ltb i j).1 q) ∙ f) in
        absurd (apart ss j i name differ (omega (arith, other, least)) y x)

pub one_file : (ss : List Source) (i j : ℕ) (name a b : List ℕ) → Differ ss → IsFile ss i name a → IsFile ss j name b → (i ≡ j) × (a ≡ b)
one_file ss i j name a b differ x y =
    let n = one_number ss i j name differ (name_of_file ss i name a x) (name_of_file ss j name b y) in
    (n, same_Some a b (sym (text_of_file ss i name a x) ∙ subst (λ (k : ℕ). HasText ss k b) (sym n) (text_of_file ss j name b y)))

pub lacks_none : (ss : List Source) (i : ℕ) (name text : List ℕ) → LacksFile ss name → IsFile ss i name text → ⊥
lacks_none ss i name text lacks h =
    let n = name_of_file ss i name text h in
    lacks i name (slice_get_within (names_of ss) i name n) (get_or_from_slice_get (names_of ss) i name name n)

-- ---- what an edit is of

pub same_file : (file file' : List ℕ) (from to from' to' : ℕ) (text text' : List ℕ) → step.Edit file from to text ≡ step.Edit file' from' to' text' → (file' ≡ file) × (from' ≡ from) × (to' ≡ to) × (text' ≡ text)
same_file file file' from to from' to' text text' e = (cc, cc, cc, cc)

abbrev pub span_of : ℕ → ℕ → Span
span_of from to = record { from = from; to = to }

module _ (s : State) (file : List ℕ) (from to : ℕ) (text : List ℕ) where
  -- ---- the file isn't there

  pub first_missing : LacksFile s.files file → IsFirstRefusal s (step.Edit file from to text) (no_such_file file)
  first_missing lacks = record {
    applies = (refl, lacks);
    first = λ q h. by q (edit_refusals s file text from to q h);
  }
    where
      by : (q : Refusal) → MayRefuseEdit s file from to text q → rank_of (step.Edit file from to text) (no_such_file file) ≤ rank_of (step.Edit file from to text) q
      by q (inl h) = subst (λ (r : Refusal). 2 ≤ rank_of (step.Edit file from to text) r) (sym h.0) (omega arith)
      by q (inr (inl h)) = subst (λ (r : Refusal). 2 ≤ rank_of (step.Edit file from to text) r) (sym h.0) (omega arith)
      by q (inr (inr h)) = subst (λ (r : Refusal). 2 ≤ rank_of (step.Edit file from to text) r) (sym h.1) (omega arith)

  module _ (number : ℕ) (old : List ℕ) (differ : Differ s.files) (stands : IsFile s.files number file old) where
    -- ---- its span can't be cut

    pub cuts_badly : (CanCut old (span_of from to) → ⊥) → CutsBadly s (step.Edit file from to text) from to
    cuts_badly cannot = record { number = number; old = old; text = text; edit = record { file = file; is = refl; stands = stands }; cannot = cannot }

    pub cuts_well : CanCut old (span_of from to) → CutsBadly s (step.Edit file from to text) from to → ⊥
    cuts_well cut h =
        let same = same_file file h.edit.file from to from to text h.text h.edit.is in
        let there : IsFile s.files h.number file h.old = subst (λ (n : List ℕ). IsFile s.files h.number n h.old) same.0 h.edit.stands in
        let one = one_file s.files number h.number file old h.old differ stands there in
        h.cannot (subst (λ (t : List ℕ). CanCut t (span_of from to)) one.1 cut)

    pub cannot_cut : CutsBadly s (step.Edit file from to text) from to → CanCut old (span_of from to) → ⊥
    cannot_cut h cut = cuts_well cut h

    pub first_bad_span : (CanCut old (span_of from to) → ⊥) → IsFirstRefusal s (step.Edit file from to text) (bad_span from to)
    first_bad_span cannot = record {
      applies = cuts_badly cannot;
      first = λ q h. by q (edit_refusals s file text from to q h);
    }
      where
        by : (q : Refusal) → MayRefuseEdit s file from to text q → rank_of (step.Edit file from to text) (bad_span from to) ≤ rank_of (step.Edit file from to text) q
        by q (inl h) = absurd (lacks_none s.files number file old h.1 stands)
        by q (inr (inl h)) = subst (λ (r : Refusal). 38 ≤ rank_of (step.Edit file from to text) r) (sym h.0) (omega arith)
        by q (inr (inr h)) = subst (λ (r : Refusal). 38 ≤ rank_of (step.Edit file from to text) r) (sym h.1) (omega arith)

    -- ---- it can be cut

    module _ (cut : CanCut old (span_of from to)) where
      makes : (texts : List (List ℕ)) → WouldMake s (step.Edit file from to text) texts → texts ≡ texts_of (with_text s.files number (replaced old (span_of from to) text))
      makes texts h =
          let same = same_file file h.edit.file from to h.span.from h.span.to text h.text h.edit.is in
          let there : IsFile s.files h.number file h.old = subst (λ (n : List ℕ). IsFile s.files h.number n h.old) same.0 h.edit.stands in
          let one = one_file s.files h.number number file h.old old differ there stands in
          h.makes ∙ (λ i. texts_of (with_text s.files (one.0 i) (replaced (one.1 i) (span_of (same.1 i) (same.2 i)) (same.3 i))))

      pub would_make : WouldMake s (step.Edit file from to text) (texts_of (with_text s.files number (replaced old (span_of from to) text)))
      would_make = record { number = number; old = old; span = span_of from to; text = text; edit = record { file = file; is = refl; stands = stands }; makes = refl }

      pub first_too_long : (len : ℕ) → AreTooLong (texts_of (with_text s.files number (replaced old (span_of from to) text))) len → IsFirstRefusal s (step.Edit file from to text) (too_long len)
      first_too_long len beyond = record {
        applies = (texts_of (with_text s.files number (replaced old (span_of from to) text)), would_make, beyond);
        first = λ q h. by q (edit_refusals s file text from to q h);
      }
        where
          by : (q : Refusal) → MayRefuseEdit s file from to text q → rank_of (step.Edit file from to text) (too_long len) ≤ rank_of (step.Edit file from to text) q
          by q (inl h) = absurd (lacks_none s.files number file old h.1 stands)
          by q (inr (inl h)) = absurd (cuts_well cut h.1)
          by q (inr (inr h)) = subst (λ (r : Refusal). 40 ≤ rank_of (step.Edit file from to text) r) (sym h.1) (omega arith)

      -- neither a text by itself nor all together are too long
      fits : (texts : List (List ℕ)) (len : ℕ) → AreWithin texts → total_of texts ≤ total_limit → AreTooLong texts len → ⊥
      fits texts len within together (inl h) =
          let small = within h.number h.text (slice_get_within texts h.number h.text h.stands) in
          let is = get_or_from_slice_get texts h.number h.text h.text h.stands in
          let short : length h.text ≤ text_limit = subst (λ (t : List ℕ). length t ≤ text_limit) is small in
          let long = h.beyond in
          absurd (omega arith)
      fits texts len within together (inr h) = let long = h.beyond in absurd (omega arith)

      pub granted : AreWithin (texts_of (with_text s.files number (replaced old (span_of from to) text))) → total_of (texts_of (with_text s.files number (replaced old (span_of from to) text))) ≤ total_limit → IsGranted s (step.Edit file from to text)
      granted within together q h = by (edit_refusals s file text from to q h)
        where
          by : MayRefuseEdit s file from to text q → ⊥
          by (inl h) = lacks_none s.files number file old h.1 stands
          by (inr (inl h)) = cuts_well cut h.1
          by (inr (inr h)) = fits (texts_of (with_text s.files number (replaced old (span_of from to) text))) h.0 within together (subst (λ (ts : List (List ℕ)). AreTooLong ts h.0) (makes h.2.0 h.2.1) h.2.2)
