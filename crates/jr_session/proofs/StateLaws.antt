-- The states behind an exchange of texts.
use Rattle.std.proofs.Common.{◌≡◌, ℕ, ◌<◌, List, [], ◌∷◌, ◌++◌, length, refl, sym, ap, subst, ◌∙◌, arith}
use Rattle.std.specs.Prelude.{Some, None}
use Rattle.std.proofs.lemmas.List.Elements.{All-push, All-pop}
use Rattle.jr_session.specs.declared.changes.Change.{Change}
use Rattle.jr_session.specs.declared.changes.Earlier.{Earlier}
use Rattle.jr_sources.specs.declared.kept.Readings.{Readings}
use Rattle.jr_sources.specs.Sources.{Source, names_of, texts_of, with_text}
use Rattle.jr_session.specs.States.{State, changed, IsUndone, IsRedone}
use Rattle.jr_session.specs.NewTexts.{with_files}
use Rattle.jr_session.specs.Changes.{history, put_texts, put_back, AreOfFiles, AreChanges}
use Rattle.jr_sources.specs.Analysed.{IsKeptAnalysis}
use Rattle.jr_session.specs.Kept.{IsKept}
use Rattle.jr_sources.specs.KeptReadings.{AreReadings}
use Rattle.jr_session.specs.Turns.{IsChanged, IsTurn}
use Rattle.jr_session.proofs.Histories.{history-pushed, texts-put, names-put, length-put}

-- the state that sources and changes stand for
abbrev pub state_of : List Source → List Earlier → List Earlier → ℕ → State
state_of sources undo redo shown = record {
  files = sources;
  undo = history (texts_of sources) undo;
  redo = history (texts_of sources) redo;
  shown = shown;
}

-- exchanged texts go on a list of steps as one more entry of its history
pushed : (sources becomes sources' : List Source) (es es' : List Earlier) → IsChanged sources es becomes sources' es' → history (texts_of sources') es' ≡ history (texts_of sources) es ++ texts_of sources ∷ []
pushed sources becomes sources' es es' h =
    let back : put_texts (texts_of sources') h.was.changes.items ≡ texts_of sources = sym (texts-put sources' h.was.changes.items) ∙ ap texts_of h.back in
    ap (history (texts_of sources')) h.kept ∙ history-pushed (texts_of sources') es h.was ∙ (λ i. history (back i) es ++ back i ∷ [])

-- and a step that is taken back goes from it
popped : (sources sources' : List Source) (es es' : List Earlier) (step : Earlier) → es ≡ es' ++ step ∷ [] → sources' ≡ put_back sources step.changes.items → history (texts_of sources) es ≡ history (texts_of sources') es' ++ texts_of sources' ∷ []
popped sources sources' es es' step had becomes =
    let texts : put_texts (texts_of sources) step.changes.items ≡ texts_of sources' = sym (texts-put sources step.changes.items) ∙ ap texts_of (sym becomes) in
    ap (history (texts_of sources)) had ∙ history-pushed (texts_of sources) es' step ∙ (λ i. history (texts i) es' ++ texts i ∷ [])

pub edited_state : (sources sources' : List Source) (undo undo' redo redo' : List Earlier) (shown number : ℕ) (text : List ℕ) → IsChanged sources undo (with_text sources number text) sources' undo' → redo' ≡ [] → state_of sources' undo' redo' shown ≡ changed (state_of sources undo redo shown) number text
edited_state sources sources' undo undo' redo redo' shown number text h none =
    let u = pushed sources (with_text sources number text) sources' undo undo' h in
    let r : history (texts_of sources') redo' ≡ [] = ap (history (texts_of sources')) none in
    λ i. record { files = h.are i; undo = u i; redo = r i; shown = shown }

-- the same of a refactoring
pub refactored_state : (sources new sources' : List Source) (undo undo' redo redo' : List Earlier) (shown : ℕ) → IsChanged sources undo new sources' undo' → redo' ≡ [] → state_of sources' undo' redo' shown ≡ with_files (state_of sources undo redo shown) new
refactored_state sources new sources' undo undo' redo redo' shown h none =
    let u = pushed sources new sources' undo undo' h in
    let r : history (texts_of sources') redo' ≡ [] = ap (history (texts_of sources')) none in
    λ i. record { files = h.are i; undo = u i; redo = r i; shown = shown }

pub undone_state : (sources sources' : List Source) (undo undo' redo redo' : List Earlier) (shown : ℕ) → IsTurn sources undo redo sources' undo' redo' → IsUndone (state_of sources undo redo shown) (state_of sources' undo' redo' shown)
undone_state sources sources' undo undo' redo redo' shown h = record {
  front = history (texts_of sources') undo';
  texts = texts_of sources';
  had = popped sources sources' undo undo' h.step h.had h.changed.are;
  names = ap names_of h.changed.are ∙ names-put sources h.step.changes.items;
  back = refl;
  undo = refl;
  redo = pushed sources (put_back sources h.step.changes.items) sources' redo redo' h.changed;
  shown = refl;
}

pub redone_state : (sources sources' : List Source) (undo undo' redo redo' : List Earlier) (shown : ℕ) → IsTurn sources redo undo sources' redo' undo' → IsRedone (state_of sources undo redo shown) (state_of sources' undo' redo' shown)
redone_state sources sources' undo undo' redo redo' shown h = record {
  front = history (texts_of sources') redo';
  texts = texts_of sources';
  had = popped sources sources' redo redo' h.step h.had h.changed.are;
  names = ap names_of h.changed.are ∙ names-put sources h.step.changes.items;
  back = refl;
  redo = refl;
  undo = pushed sources (put_back sources h.step.changes.items) sources' undo undo' h.changed;
  shown = refl;
}

-- ---- what is kept

same_count : (sources becomes sources' : List Source) (es es' : List Earlier) → IsChanged sources es becomes sources' es' → length sources' ≡ length sources
same_count sources becomes sources' es es' h = sym (length-put sources' h.was.changes.items) ∙ ap length h.back

more_changes : (sources becomes sources' : List Source) (es es' : List Earlier) → IsChanged sources es becomes sources' es' → AreChanges (length sources) es → AreChanges (length sources') es'
more_changes sources becomes sources' es es' h are =
    let count = same_count sources becomes sources' es es' h in
    subst (λ (n : ℕ). AreChanges n es') (sym count)
    (subst (λ (xs : List Earlier). AreChanges (length sources) xs) (sym h.kept) (All-push (λ (e : Earlier). AreOfFiles (length sources) e.changes.items) es h.was are h.files))

pub one_of_files : (n number : ℕ) (text : List ℕ) → number < n → AreOfFiles n (record { file = number; text = text } ∷ [])
one_of_files n number text h = All-push (λ (c : Change). c.file < n) [] (record { file = number; text = text }) (λ k d l. absurd (omega arith)) h

-- nothing was analysed
pub nothing_kept : (sources : List Source) → IsKeptAnalysis sources None
nothing_kept sources a e = cc

pub kept_changed : (sources becomes sources' : List Source) (readings' : Readings) (undo undo' redo' : List Earlier) → IsChanged sources undo becomes sources' undo' → redo' ≡ [] → AreChanges (length sources) undo → AreReadings (texts_of sources') readings' → IsKept sources' readings' undo' redo' None
kept_changed sources becomes sources' readings' undo undo' redo' h none changes readings = record {
  readings = readings;
  undo = more_changes sources becomes sources' undo undo' h changes;
  redo = subst (λ (xs : List Earlier). AreChanges (length sources') xs) (sym none) (λ k d l. absurd (omega arith));
  analysed = nothing_kept sources';
}

front_changes : (n : ℕ) (es es' : List Earlier) (step : Earlier) → es ≡ es' ++ step ∷ [] → AreChanges n es → AreChanges n es' × AreOfFiles n step.changes.items
front_changes n es es' step e h = All-pop (λ (x : Earlier). AreOfFiles n x.changes.items) es es' (Some step) e h

pub kept_turned : (sources sources' : List Source) (from from' onto onto' : List Earlier) → IsTurn sources from onto sources' from' onto' → AreChanges (length sources) from → AreChanges (length sources) onto → AreChanges (length sources') from' × AreChanges (length sources') onto'
kept_turned sources sources' from from' onto onto' h a b =
    let parts = front_changes (length sources) from from' h.step h.had a in
    let count = same_count sources (put_back sources h.step.changes.items) sources' onto onto' h.changed in (
      subst (λ (n : ℕ). AreChanges n from') (sym count) parts.0,
      more_changes sources (put_back sources h.step.changes.items) sources' onto onto' h.changed b,
    )

-- ---- nothing changed

pub state_as_before : (sources sources' : List Source) (undo undo' redo redo' : List Earlier) (shown : ℕ) → sources' ≡ sources → undo' ≡ undo → redo' ≡ redo → state_of sources' undo' redo' shown ≡ state_of sources undo redo shown
state_as_before sources sources' undo undo' redo redo' shown s u r = λ i. state_of (s i) (u i) (r i) shown
