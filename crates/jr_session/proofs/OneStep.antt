-- Each step has one answer: it is refused for one reason, or done in one way.
use Rattle.std.proofs.Common.{◌≡◌, ◌⊎◌, ℕ, ◌+◌, List, refl, sym, ap, ◌∙◌, inl, inr}
use Rattle.jr_text.specs.declared.spans.Span.{Span}
use Rattle.jr_names.specs.declared.steps.Step.{Step}
use Rattle.jr_names.specs.declared.steps.Step.TheVariants as step
use Rattle.jr_names.specs.declared.steps.What.{What}
use Rattle.jr_names.specs.Replies.{Reply, edited, refactored, shown, undone, redone, refused}
use Rattle.jr_names.specs.Refusals.{Refusal}
use Rattle.jr_lines.specs.Lines.{bytes_of}
use Rattle.jr_sources.specs.Sources.{Differ}
use Rattle.jr_session.proofs.RefusalCases.{undo_no_edit, no_undo as edit_not_undo, no_redo as edit_not_redo, redo_no_edit}
use Rattle.jr_session.specs.States.{State, IsUndone, IsRedone}
use Rattle.jr_session.specs.Refusing.{IsFirstRefusal, IsGranted}
use Rattle.jr_members.specs.WrittenLaws.{MembersAreWritten}
use Rattle.jr_local_plans.specs.OnePlan.{ExtractIsOne}
use Rattle.jr_rename_laws.specs.OnePlan.{PlanIsOne}
use Rattle.jr_program_laws.specs.PlaceLaws.{PartsArePlaced}
use Rattle.jr_sources.proofs.Analysing.{OneItems}
use Rattle.jr_sources.specs.ReadingLaws.{HasOneReading}
use Rattle.jr_session.specs.Serving.{IsServed}
use Rattle.jr_session.specs.Asked.{rename, extract}
use Rattle.jr_session.specs.Requests.{Request}
use Rattle.jr_session.specs.Stepping.{Steps, IsEdited, IsShown}
use Rattle.jr_session.specs.StepLaws.{HasOneShow}
use Rattle.jr_session.proofs.AskedSteps.{Answered, rename_answers, extract_answers}
use Rattle.jr_session.proofs.OneAnswer.{one_edited, one_refusal, one_undo_refusal, one_redo_refusal, one_undone, one_redone}
use Rattle.jr_session.proofs.OneFault.{one_show_refusal}
use Rattle.jr_session.proofs.OneRefactoring.{IsPlannedOnce, one_refused, refused_not_done, one_done}
use Rattle.jr_session.proofs.RenameRequest.{rename_once}
use Rattle.jr_session.proofs.ExtractRequest.{extract_once}
use Rattle.jr_session.proofs.ShowSteps.{the_show, no_edit, no_undo, no_redo, would_once}

-- a step is refused and nothing changes, or it is granted and done
abbrev pub Answers : State → Step → Reply → (State → Type 0) → Reply → State → Type 0
Answers s of done Done r t =
    ((x : Refusal) × (r ≡ refused x) × IsFirstRefusal s of x × (t ≡ s)) ⊎ ((r ≡ done) × IsGranted s of × Done t)

both : (s : State) (of : Step) (done : Reply) (Done : State → Type 0) (r q : Reply) (t u : State)
    → ((x y : Refusal) → IsFirstRefusal s of x → IsFirstRefusal s of y → x ≡ y) → (Done t → Done u → t ≡ u)
    → Answers s of done Done r t → Answers s of done Done q u → (r ≡ q) × (t ≡ u)
both s of done Done r q t u one same (inl g) (inl h) = (g.1 ∙ ap refused (one g.0 h.0 g.2 h.2) ∙ sym h.1, g.3 ∙ sym h.3)
both s of done Done r q t u one same (inl g) (inr h) = absurd (h.1 g.0 g.2.applies)
both s of done Done r q t u one same (inr g) (inl h) = absurd (g.1 h.0 h.2.applies)
both s of done Done r q t u one same (inr g) (inr h) = (g.0 ∙ sym h.0, same g.2 h.2)

edit_not_show : (file text name : List ℕ) (of : What) (from to : ℕ) → step.Edit file from to text ≡ step.Show name of → ⊥
edit_not_show file text name of from to e = cc

undo_not_show : (name : List ℕ) (of : What) → step.Undo ≡ step.Show name of → ⊥
undo_not_show name of e = cc

undo_not_redo : step.Undo ≡ step.Redo → ⊥
undo_not_redo e = cc

redo_not_show : (name : List ℕ) (of : What) → step.Redo ≡ step.Show name of → ⊥
redo_not_show name of e = cc

redo_not_undo : step.Redo ≡ step.Undo → ⊥
redo_not_undo e = cc

edit_answers : (s : State) (file text : List ℕ) (from to : ℕ) (r : Reply) (t : State) → Steps s (step.Edit file from to text) r t → Answers s (step.Edit file from to text) edited (λ u. IsEdited s (step.Edit file from to text) u) r t
edit_answers s file text from to edited t h = inr (refl, h.0, h.1)
edit_answers s file text from to (refactored a b) t h = absurd h.1
edit_answers s file text from to (shown a) t h = absurd (edit_not_show file text h.1.shows.shows.file h.1.shows.shown from to h.1.shows.shows.is)
edit_answers s file text from to undone t h = absurd (edit_not_undo file text from to h.1.0)
edit_answers s file text from to redone t h = absurd (edit_not_redo file text from to h.1.0)
edit_answers s file text from to (refused x) t h = inl (x, refl, h.0, h.1)

undo_answers : (s : State) (r : Reply) (t : State) → Steps s step.Undo r t → Answers s step.Undo undone (λ u. IsUndone s u) r t
undo_answers s edited t h = absurd (undo_no_edit h.1.edit.file h.1.text h.1.span.from h.1.span.to h.1.edit.is)
undo_answers s (refactored a b) t h = absurd h.1
undo_answers s (shown a) t h = absurd (undo_not_show h.1.shows.shows.file h.1.shows.shown h.1.shows.shows.is)
undo_answers s undone t h = inr (refl, h.0, h.1.1)
undo_answers s redone t h = absurd (undo_not_redo h.1.0)
undo_answers s (refused x) t h = inl (x, refl, h.0, h.1)

redo_answers : (s : State) (r : Reply) (t : State) → Steps s step.Redo r t → Answers s step.Redo redone (λ u. IsRedone s u) r t
redo_answers s edited t h = absurd (redo_no_edit h.1.edit.file h.1.text h.1.span.from h.1.span.to h.1.edit.is)
redo_answers s (refactored a b) t h = absurd h.1
redo_answers s (shown a) t h = absurd (redo_not_show h.1.shows.shows.file h.1.shows.shown h.1.shows.shows.is)
redo_answers s undone t h = absurd (redo_not_undo h.1.0)
redo_answers s redone t h = inr (refl, h.0, h.1.1)
redo_answers s (refused x) t h = inl (x, refl, h.0, h.1)

-- ---- a show

-- so many bytes more are shown
abbrev more_shown : State → ℕ → State
more_shown s count = record { files = s.files; undo = s.undo; redo = s.redo; shown = s.shown + count }

abbrev Shows : State → (file : List ℕ) → What → Reply → State → Type 0
Shows s file of r t = ((x : Refusal) × (r ≡ refused x) × IsFirstRefusal s (the_show file of) x × (t ≡ s))
    ⊎ ((lines : List (List ℕ)) × (r ≡ shown lines) × IsGranted s (the_show file of) × IsShown s (the_show file of) lines t)

show_answers : (s : State) (file : List ℕ) (of : What) (r : Reply) (t : State) → Steps s (the_show file of) r t → Shows s file of r t
show_answers s file of edited t h = absurd (no_edit file h.1.edit.file h.1.text of h.1.span.from h.1.span.to h.1.edit.is)
show_answers s file of (refactored a b) t h = absurd h.1
show_answers s file of (shown lines) t h = inr (lines, refl, h.0, h.1)
show_answers s file of undone t h = absurd (no_undo file of h.1.0)
show_answers s file of redone t h = absurd (no_redo file of h.1.0)
show_answers s file of (refused x) t h = inl (x, refl, h.0, h.1)

-- ---- a refactoring

module _ (reading : HasOneReading) (items_once : OneItems) (placed : PartsArePlaced) (law : MembersAreWritten Span) (s : State) (ask : Request) (ones : IsPlannedOnce ask) (differ : Differ s.files) where
  both_refactored : (r q : Reply) (t u : State) → Answered s ask r t → Answered s ask q u → (r ≡ q) × (t ≡ u)
  both_refactored r q t u (inl g) (inl h) = (g.1 ∙ ap refused (one_refused reading items_once placed law s ask ones differ g.0 h.0 g.2 h.2) ∙ sym h.1, g.3 ∙ sym h.3)
  both_refactored r q t u (inl g) (inr h) = absurd (refused_not_done reading items_once placed law s ask ones differ g.0 h.0 h.1 u g.2 h.3)
  both_refactored r q t u (inr g) (inl h) = absurd (refused_not_done reading items_once placed law s ask ones differ h.0 g.0 g.1 t h.2 g.3)
  both_refactored r q t u (inr g) (inr h) =
      let same = one_done reading items_once placed law s ask ones differ g.0 h.0 g.1 h.1 t u g.3 h.3 in
      (g.2 ∙ (λ i. refactored (same.0 i) (same.1 i)) ∙ sym h.2, same.2)

module _ (reading : HasOneReading) (once : HasOneShow) where
  module _ (s : State) (file : List ℕ) (of : What) (differ : Differ s.files) where
    both_shown : (r q : Reply) (t u : State) → Shows s file of r t → Shows s file of q u → (r ≡ q) × (t ≡ u)
    both_shown r q t u (inl g) (inl h) = (g.1 ∙ ap refused (one_show_refusal reading once s file of differ g.0 h.0 g.2 h.2) ∙ sym h.1, g.3 ∙ sym h.3)
    both_shown r q t u (inl g) (inr h) = absurd (h.2 g.0 g.2.applies)
    both_shown r q t u (inr g) (inl h) = absurd (g.2 h.0 h.2.applies)
    both_shown r q t u (inr g) (inr h) =
        let lines : g.0 ≡ h.0 = would_once s file of differ once g.0 h.0 g.3.shows h.3.shows in
        (g.1 ∙ ap shown lines ∙ sym h.1, g.3.becomes ∙ ap (λ (ls : List (List ℕ)). more_shown s (bytes_of ls)) lines ∙ sym h.3.becomes)

  -- ---- any step
  module _ (items_once : OneItems) (placed : PartsArePlaced) (law : MembersAreWritten Span) (plan_once : PlanIsOne) (extract_is : ExtractIsOne) where
    pub one_answer : (s : State) (of : Step) (r q : Reply) (t u : State) → Differ s.files → IsServed of → Steps s of r t → Steps s of q u → (r ≡ q) × (t ≡ u)
    one_answer s (step.Edit file from to text) r q t u differ is g h =
        both s (step.Edit file from to text) edited (λ v. IsEdited s (step.Edit file from to text) v) r q t u (one_refusal s file from to text differ) (one_edited s file from to text differ t u) (edit_answers s file text from to r t g) (edit_answers s file text from to q u h)
    one_answer s step.Undo r q t u differ is g h = both s step.Undo undone (λ v. IsUndone s v) r q t u (one_undo_refusal s) (one_undone s t u) (undo_answers s r t g) (undo_answers s q u h)
    one_answer s step.Redo r q t u differ is g h = both s step.Redo redone (λ v. IsRedone s v) r q t u (one_redo_refusal s) (one_redone s t u) (redo_answers s r t g) (redo_answers s q u h)
    one_answer s (step.Show file of) r q t u differ is g h = both_shown s file of differ r q t u (show_answers s file of r t g) (show_answers s file of q u h)
    one_answer s (step.Rename file at new) r q t u differ is g h =
        both_refactored reading items_once placed law s (rename file at new) (rename_once plan_once file at new) differ r q t u (rename_answers s file at new r t g) (rename_answers s file at new q u h)
    one_answer s (step.ExtractLocal file from to new) r q t u differ is g h =
        both_refactored reading items_once placed law s (extract file from to new) (extract_once extract_is file from to new) differ r q t u (extract_answers s file from to new r t g) (extract_answers s file from to new q u h)
    one_answer s (step.ExtractMethod a b c d) r q t u differ is g h = absurd is
    one_answer s (step.InlineLocal a b) r q t u differ is g h = absurd is
    one_answer s (step.InlineMethod a b) r q t u differ is g h = absurd is
    one_answer s (step.PullUp a b) r q t u differ is g h = absurd is
    one_answer s (step.MoveStatic a b c) r q t u differ is g h = absurd is
    one_answer s (step.MoveInstance a b c d) r q t u differ is g h = absurd is
