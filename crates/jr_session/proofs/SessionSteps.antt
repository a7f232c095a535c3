-- The steps of sessions, from what their bodies find.
use Rattle.std.proofs.Common.{◌≡◌, ℕ, suc, ◌<◌, ◌≤◌, List, [], ◌∷◌, ◌++◌, length, refl, sym, ap, subst, ◌∙◌, arith}
use Rattle.std.proofs.lemmas.Option.{slice_get_within}
use Rattle.jr_text.specs.Splices.{replaced}
use Rattle.jr_names.specs.declared.steps.Step.TheVariants as step
use Rattle.jr_names.specs.Replies.{edited, undone, redone}
use Rattle.jr_names.specs.Refusals.{Refusal, bad_span, too_long, nothing_to_undo, nothing_to_redo}
use Rattle.jr_session.specs.declared.changes.Earlier.{Earlier}
use Rattle.jr_sources.specs.Sources.{Source, HasName, LacksFile, Differ, IsFile, names_of, texts_of, with_text, total_of, total_limit}
use Rattle.jr_session.specs.States.{State, changed, IsUndone, IsRedone}
use Rattle.jr_session.specs.Lengths.{AreWithin}
use Rattle.jr_session.specs.Splicing.{HasText, CanBecome, CanNotCut, WouldBeTooLong}
use Rattle.jr_session.specs.Turns.{IsChanged}
use Rattle.jr_session.specs.Refusing.{CutsBadly, IsFirstRefusal, rank_of}
use Rattle.jr_session.specs.Stepping.{Steps}
use Rattle.jr_session.proofs.StateLaws.{state_of, edited_state}
use Rattle.jr_session.proofs.RefusalCases.{undo_refusals, redo_refusals}
use Rattle.jr_session.proofs.EditLaws.{span_of, file_of, name_of_file, text_of_file, one_number, lacks_none, cuts_well, first_bad_span, first_too_long, granted}

pub number_within : (ss : List Source) (i : ℕ) (name : List ℕ) → HasName ss i name → i < length ss
number_within ss i name h =
    let a = slice_get_within (names_of ss) i name h in
    let b = count ss in
    omega arith
  where
    count : (ss : List Source) → length (names_of ss) ≡ length ss
    count [] = refl
    count (x ∷ xs) = ap suc (count xs)

module _ (sources : List Source) (undo redo : List Earlier) (shown : ℕ) (file : List ℕ) (from to : ℕ) (text : List ℕ) (number : ℕ) (differ : Differ sources) (named : HasName sources number file) where
  -- a file that can't be cut is the one that was found
  pub cut_nowhere : CutsBadly (state_of sources undo redo shown) (step.Edit file from to text) from to → CanNotCut sources number (span_of from to)
  cut_nowhere h =
      let same : h.edit.file ≡ file = same_file h.edit.is in
      let there : IsFile sources h.number file h.old = subst (λ (n : List ℕ). IsFile sources h.number n h.old) same h.edit.stands in
      let one : h.number ≡ number = one_number sources h.number number file differ (name_of_file sources h.number file h.old there) named in
      record { old = h.old; has = subst (λ (k : ℕ). HasText sources k h.old) one (text_of_file sources h.number file h.old there); cannot = h.cannot }
    where
      same_file : {f t : List ℕ} {a b : ℕ} → step.Edit file from to text ≡ step.Edit f a b t → f ≡ file
      same_file e = cc

  pub refused_cut : CanNotCut sources number (span_of from to) → IsFirstRefusal (state_of sources undo redo shown) (step.Edit file from to text) (bad_span from to)
  refused_cut h = first_bad_span (state_of sources undo redo shown) file from to text number h.old differ (file_of sources number file h.old named h.has) h.cannot

  pub refused_length : (len : ℕ) → WouldBeTooLong sources number (span_of from to) text len → IsFirstRefusal (state_of sources undo redo shown) (step.Edit file from to text) (too_long len)
  refused_length len h = first_too_long (state_of sources undo redo shown) file from to text number h.old differ (file_of sources number file h.old named h.has) h.cut len h.beyond

  module _ (new : List ℕ) (h : CanBecome sources number (span_of from to) text new) where
    pub cut_somewhere : CutsBadly (state_of sources undo redo shown) (step.Edit file from to text) from to → ⊥
    cut_somewhere = cuts_well (state_of sources undo redo shown) file from to text number h.old differ (file_of sources number file h.old named h.has) h.cut

    pub edited_step : (sources' : List Source) (undo' redo' : List Earlier) → IsChanged sources undo (with_text sources number new) sources' undo' → redo' ≡ [] → Steps (state_of sources undo redo shown) (step.Edit file from to text) edited (state_of sources' undo' redo' shown)
    edited_step sources' undo' redo' c none =
        let within : AreWithin (texts_of (with_text sources number (replaced h.old (span_of from to) text))) = subst (λ (t : List ℕ). AreWithin (texts_of (with_text sources number t))) h.is h.within in
        let together = subst (λ (t : List ℕ). total_of (texts_of (with_text sources number t)) ≤ total_limit) h.is h.together in (
          granted (state_of sources undo redo shown) file from to text number h.old differ (file_of sources number file h.old named h.has) h.cut within together,
          record {
            number = number;
            old = h.old;
            span = span_of from to;
            text = text;
            edit = record { file = file; is = refl; stands = file_of sources number file h.old named h.has };
            becomes = edited_state sources sources' undo undo' redo redo' shown number new c none ∙ ap (changed (state_of sources undo redo shown) number) h.is;
          },
        )

-- ---- undoing and redoing

pub first_nothing_to_undo : (s : State) → s.undo ≡ [] → IsFirstRefusal s step.Undo nothing_to_undo
first_nothing_to_undo s none = record {
  applies = (refl, none);
  first = λ q h. subst (λ (r : Refusal). 42 ≤ rank_of step.Undo r) (sym (undo_refusals s q h).0) (omega arith);
}

pub first_nothing_to_redo : (s : State) → s.redo ≡ [] → IsFirstRefusal s step.Redo nothing_to_redo
first_nothing_to_redo s none = record {
  applies = (refl, none);
  first = λ q h. subst (λ (r : Refusal). 44 ≤ rank_of step.Redo r) (sym (redo_refusals s q h).0) (omega arith);
}

some_last : {X : Type 0} (xs : List X) (x : X) → xs ++ x ∷ [] ≡ [] → ⊥
some_last [] x e = cc
some_last (y ∷ ys) x e = cc

pub undone_step : (s t : State) → IsUndone s t → Steps s step.Undo undone t
undone_step s t h = (λ r a. some_last h.front h.texts (sym h.had ∙ (undo_refusals s r a).1), (refl, h))

pub redone_step : (s t : State) → IsRedone s t → Steps s step.Redo redone t
redone_step s t h = (λ r a. some_last h.front h.texts (sym h.had ∙ (redo_refusals s r a).1), (refl, h))

-- a file that isn't there can't be cut badly
pub cut_of_none : (s : State) (file : List ℕ) (from to : ℕ) (text : List ℕ) → LacksFile s.files file → CutsBadly s (step.Edit file from to text) from to → ⊥
cut_of_none s file from to text lacks h =
    let same : h.edit.file ≡ file = same_file h.edit.file h.text h.edit.is in
    lacks_none s.files h.number file h.old lacks (subst (λ (n : List ℕ). IsFile s.files h.number n h.old) same h.edit.stands)
  where
    same_file : (f t : List ℕ) → step.Edit file from to text ≡ step.Edit f from to t → f ≡ file
    same_file f t e = cc
