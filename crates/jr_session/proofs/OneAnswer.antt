-- An edit, an undoing and a redoing have one answer.
use Rattle.std.proofs.Common.{◌≡◌, ◌≢◌, ℕ, ◌<◌, ◌≤◌, List, [], ◌∷◌, ◌++◌, length, Bool, true, false, true≢false, eqb, ltb, refl, sym, ap, subst, ◌∙◌, inl, inr, arith}
use Rattle.std.specs.List.{slice_get}
use Rattle.std.specs.Prelude.{Some}
use Rattle.std.proofs.lemmas.Bool.Decides.{Decides-eqb, Decides-ltb}
use Rattle.std.proofs.lemmas.Option.{slice_get_within, get_or_from_slice_get, same_Some}
use Rattle.jr_text.specs.declared.spans.Span.{Span}
use Rattle.jr_text.specs.Splices.{replaced}
use Rattle.jr_text.specs.Texts.{text_limit}
use Rattle.jr_names.specs.declared.steps.Step.TheVariants as step
use Rattle.jr_names.specs.Refusals.{Refusal, no_such_file, bad_span, too_long}
use Rattle.jr_sources.specs.Sources.{Source, IsFile, Differ, names_of, texts_of, with_text}
use Rattle.jr_session.specs.States.{State, changed, IsUndone, IsRedone}
use Rattle.jr_session.specs.Lengths.{AreWithin, IsFirstTooLong, AreTooLong}
use Rattle.jr_session.specs.Refusing.{IsEdit, WouldMake, IsFirstRefusal, rank_of}
use Rattle.jr_session.specs.Stepping.{IsEdited}
use Rattle.jr_session.proofs.RefusalCases.{MayRefuseEdit, edit_refusals, undo_refusals, redo_refusals}
use Rattle.jr_session.proofs.EditLaws.{same_file, one_file}

-- ---- one edit

module _ (s : State) (file : List ℕ) (from to : ℕ) (text : List ℕ) (differ : Differ s.files) where
  -- the file, its text, the span and the text of an edit
  pub one_edit : (n m : ℕ) (a b : List ℕ) (p q : Span) (x y : List ℕ) → IsEdit s (step.Edit file from to text) n a p x → IsEdit s (step.Edit file from to text) m b q y → (n ≡ m) × (a ≡ b) × (p ≡ q) × (x ≡ y)
  one_edit n m a b p q x y g h =
      let k = same_file file g.file from to p.from p.to text x g.is in
      let l = same_file file h.file from to q.from q.to text y h.is in
      let one = one_file s.files n m file a b differ (subst (λ (f : List ℕ). IsFile s.files n f a) k.0 g.stands) (subst (λ (f : List ℕ). IsFile s.files m f b) l.0 h.stands) in
      let d : p.from ≡ q.from = k.1 ∙ sym l.1 in
      let e : p.to ≡ q.to = k.2 ∙ sym l.2 in
      (one.0, one.1, (λ i. record { from = d i; to = e i }), k.3 ∙ sym l.3)

  pub one_making : (a b : List (List ℕ)) → WouldMake s (step.Edit file from to text) a → WouldMake s (step.Edit file from to text) b → a ≡ b
  one_making a b g h =
      let e = one_edit g.number h.number g.old h.old g.span h.span g.text h.text g.edit h.edit in
      g.makes ∙ (λ i. texts_of (with_text s.files (e.0 i) (replaced (e.1 i) (e.2 i) (e.3 i)))) ∙ sym h.makes

  pub one_edited : (t u : State) → IsEdited s (step.Edit file from to text) t → IsEdited s (step.Edit file from to text) u → t ≡ u
  one_edited t u g h =
      let e = one_edit g.number h.number g.old h.old g.span h.span g.text h.text g.edit h.edit in
      g.becomes ∙ (λ i. changed s (e.0 i) (replaced (e.1 i) (e.2 i) (e.3 i))) ∙ sym h.becomes

-- ---- one length

first_before : (texts : List (List ℕ)) (a b : ℕ) (g : IsFirstTooLong texts a) (h : IsFirstTooLong texts b) → g.number < h.number → ⊥
first_before texts a b g h l =
    let small = h.first g.number g.text l g.stands in
    let long = g.beyond in
    absurd (omega arith)

one_first : (texts : List (List ℕ)) (a b : ℕ) → IsFirstTooLong texts a → IsFirstTooLong texts b → a ≡ b
one_first texts a b g h = by (eqb g.number h.number) refl (ltb g.number h.number) refl
  where
    by : (e : Bool) → eqb g.number h.number ≡ e → (l : Bool) → ltb g.number h.number ≡ l → a ≡ b
    by true e l f =
        let same = (Decides-eqb g.number h.number).0 e in
        let text = same_Some g.text h.text (sym (subst (λ (k : ℕ). slice_get texts k ≡ Some g.text) same g.stands) ∙ h.stands) in
        g.told ∙ ap (λ (t : List ℕ). length t) text ∙ sym h.told
    by false e true f = absurd (first_before texts a b g h ((Decides-ltb g.number h.number).0 f))
    by false e false f =
        let other : g.number ≢ h.number = λ q. true≢false (sym ((Decides-eqb g.number h.number).1 q) ∙ e) in
        let least : g.number < h.number → ⊥ = λ q. true≢false (sym ((Decides-ltb g.number h.number).1 q) ∙ f) in
        absurd (first_before texts b a h g (omega (arith, other, least)))

not_within : (texts : List (List ℕ)) (a : ℕ) → IsFirstTooLong texts a → AreWithin texts → ⊥
not_within texts a g within =
    let small = within g.number g.text (slice_get_within texts g.number g.text g.stands) in
    let is = get_or_from_slice_get texts g.number g.text g.text g.stands in
    let short : length g.text ≤ text_limit = subst (λ (t : List ℕ). length t ≤ text_limit) is small in
    let long = g.beyond in
    absurd (omega arith)

pub one_length : (texts : List (List ℕ)) (a b : ℕ) → AreTooLong texts a → AreTooLong texts b → a ≡ b
one_length texts a b (inl g) (inl h) = one_first texts a b g h
one_length texts a b (inl g) (inr h) = absurd (not_within texts a g h.within)
one_length texts a b (inr g) (inl h) = absurd (not_within texts b h g.within)
one_length texts a b (inr g) (inr h) = g.told ∙ sym h.told

-- ---- one refusal

module _ (s : State) (file : List ℕ) (from to : ℕ) (text : List ℕ) (differ : Differ s.files) where
  ranked : (q r : Refusal) → q ≡ r → rank_of (step.Edit file from to text) q ≡ rank_of (step.Edit file from to text) r
  ranked q r e = ap (rank_of (step.Edit file from to text)) e

  same_refusal : (q r : Refusal) → rank_of (step.Edit file from to text) q ≤ rank_of (step.Edit file from to text) r → rank_of (step.Edit file from to text) r ≤ rank_of (step.Edit file from to text) q → MayRefuseEdit s file from to text q → MayRefuseEdit s file from to text r → q ≡ r
  same_refusal q r le ge (inl g) (inl h) = g.0 ∙ sym h.0
  same_refusal q r le ge (inl g) (inr (inl h)) = let a = ranked q (no_such_file file) g.0 in let b = ranked r (bad_span from to) h.0 in absurd (omega arith)
  same_refusal q r le ge (inl g) (inr (inr h)) = let a = ranked q (no_such_file file) g.0 in let b = ranked r (too_long h.0) h.1 in absurd (omega arith)
  same_refusal q r le ge (inr (inl g)) (inl h) = let a = ranked q (bad_span from to) g.0 in let b = ranked r (no_such_file file) h.0 in absurd (omega arith)
  same_refusal q r le ge (inr (inl g)) (inr (inl h)) = g.0 ∙ sym h.0
  same_refusal q r le ge (inr (inl g)) (inr (inr h)) = let a = ranked q (bad_span from to) g.0 in let b = ranked r (too_long h.0) h.1 in absurd (omega arith)
  same_refusal q r le ge (inr (inr g)) (inl h) = let a = ranked q (too_long g.0) g.1 in let b = ranked r (no_such_file file) h.0 in absurd (omega arith)
  same_refusal q r le ge (inr (inr g)) (inr (inl h)) = let a = ranked q (too_long g.0) g.1 in let b = ranked r (bad_span from to) h.0 in absurd (omega arith)
  same_refusal q r le ge (inr (inr g)) (inr (inr h)) =
      let texts = one_making s file from to text differ g.2.0 h.2.0 g.2.1 h.2.1 in
      g.1 ∙ ap too_long (one_length h.2.0 g.0 h.0 (subst (λ (ts : List (List ℕ)). AreTooLong ts g.0) texts g.2.2) h.2.2) ∙ sym h.1

  pub one_refusal : (q r : Refusal) → IsFirstRefusal s (step.Edit file from to text) q → IsFirstRefusal s (step.Edit file from to text) r → q ≡ r
  one_refusal q r g h = same_refusal q r (g.first r h.applies) (h.first q g.applies) (edit_refusals s file text from to q g.applies) (edit_refusals s file text from to r h.applies)

pub one_undo_refusal : (s : State) (q r : Refusal) → IsFirstRefusal s step.Undo q → IsFirstRefusal s step.Undo r → q ≡ r
one_undo_refusal s q r g h = (undo_refusals s q g.applies).0 ∙ sym (undo_refusals s r h.applies).0

pub one_redo_refusal : (s : State) (q r : Refusal) → IsFirstRefusal s step.Redo q → IsFirstRefusal s step.Redo r → q ≡ r
one_redo_refusal s q r g h = (redo_refusals s q g.applies).0 ∙ sym (redo_refusals s r h.applies).0

-- ---- one undoing

ends_alike : {X : Type 0} (xs ys : List X) (x y : X) → xs ++ x ∷ [] ≡ ys ++ y ∷ [] → (xs ≡ ys) × (x ≡ y)
ends_alike [] [] x y e = (refl, cc)
ends_alike [] (b ∷ []) x y e = absurd (cc)
ends_alike [] (b ∷ c ∷ bs) x y e = absurd (cc)
ends_alike (a ∷ []) [] x y e = absurd (cc)
ends_alike (a ∷ c ∷ cs) [] x y e = absurd (cc)
ends_alike (a ∷ cs) (b ∷ bs) x y e =
    let head : a ≡ b = cc in
    let tail : cs ++ x ∷ [] ≡ bs ++ y ∷ [] = cc in
    let rest = ends_alike cs bs x y tail in
    ((λ i. head i ∷ rest.0 i), rest.1)

-- names and texts make the files
files_of : (a b : List Source) → names_of a ≡ names_of b → texts_of a ≡ texts_of b → a ≡ b
files_of [] [] n t = refl
files_of [] (y ∷ ys) n t = absurd (cc)
files_of (x ∷ xs) [] n t = absurd (cc)
files_of (x ∷ xs) (y ∷ ys) n t =
    let name : x.name ≡ y.name = cc in
    let text : x.text ≡ y.text = cc in
    let ns : names_of xs ≡ names_of ys = cc in
    let ts : texts_of xs ≡ texts_of ys = cc in
    let rest = files_of xs ys ns ts in
    λ i. record { name = name i; text = text i } ∷ rest i

pub one_undone : (s t u : State) → IsUndone s t → IsUndone s u → t ≡ u
one_undone s t u g h =
    let e = ends_alike g.front h.front g.texts h.texts (sym g.had ∙ h.had) in
    let files = files_of t.files u.files (g.names ∙ sym h.names) (g.back ∙ e.1 ∙ sym h.back) in
    let undo = g.undo ∙ e.0 ∙ sym h.undo in
    let redo = g.redo ∙ sym h.redo in
    let shown = g.shown ∙ sym h.shown in
    λ i. record { files = files i; undo = undo i; redo = redo i; shown = shown i }

pub one_redone : (s t u : State) → IsRedone s t → IsRedone s u → t ≡ u
one_redone s t u g h =
    let e = ends_alike g.front h.front g.texts h.texts (sym g.had ∙ h.had) in
    let files = files_of t.files u.files (g.names ∙ sym h.names) (g.back ∙ e.1 ∙ sym h.back) in
    let undo = g.undo ∙ sym h.undo in
    let redo = g.redo ∙ e.0 ∙ sym h.redo in
    let shown = g.shown ∙ sym h.shown in
    λ i. record { files = files i; undo = undo i; redo = redo i; shown = shown i }
