-- What a step does: the reply, and the state behind it.
use Rattle.std.specs.Prelude.{◌≡◌, ℕ, ◌+◌, List}
use Rattle.jr_text.specs.declared.spans.Span.{Span}
use Rattle.jr_text.specs.Splices.{replaced}
use Rattle.jr_names.specs.declared.steps.Step.{Step}
use Rattle.jr_names.specs.declared.steps.Step.TheVariants as step
use Rattle.jr_names.specs.Replies.{Reply, edited, refactored, shown, undone, redone, refused}
use Rattle.jr_session.specs.States.{State, changed, IsUndone, IsRedone}
use Rattle.jr_session.specs.Asked.{asks_of}
use Rattle.jr_session.specs.Refactored.{Refactors}
use Rattle.jr_session.specs.Requests.{Asks, refactors, nothing}
use Rattle.jr_session.specs.Refusing.{IsEdit, WouldShow, Refuses, Grants}
use Rattle.jr_lines.specs.Lines.{bytes_of}

-- the file is spliced by the one span, and the texts before can be undone
pub record IsEdited (s : State) (of : Step) (t : State) : Type 0 where
  pub number : ℕ
  pub old : List ℕ
  pub span : Span
  pub text : List ℕ
  pub edit : IsEdit s of number old span text
  pub becomes : t ≡ changed s number (replaced old span text)

-- the lines are those of the sources, and only the number of shown bytes changes
pub record IsShown (s : State) (of : Step) (lines : List (List ℕ)) (t : State) : Type 0 where
  pub shows : WouldShow s of lines
  pub becomes : t ≡ record {
    files = s.files;
    undo = s.undo;
    redo = s.redo;
    shown = s.shown + bytes_of lines;
  }

-- a refactoring is done to these files, with so many respelled references
abbrev pub RefactorsBy : Asks → State → (files : List (List ℕ)) → (respelled : ℕ) → State → Type 0
RefactorsBy (refactors ask) s files respelled t = Refactors s ask files respelled t
RefactorsBy nothing s files respelled t = ⊥

abbrev pub IsRefactored : State → Step → (files : List (List ℕ)) → (respelled : ℕ) → State → Type 0
IsRefactored s of files respelled t = RefactorsBy (asks_of of) s files respelled t

-- the step is done, with this reply; what isn't here has no step yet
abbrev pub Does : State → Step → Reply → State → Type 0
Does s of edited t = IsEdited s of t
Does s of (shown lines) t = IsShown s of lines t
Does s of undone t = (of ≡ step.Undo) × IsUndone s t
Does s of redone t = (of ≡ step.Redo) × IsRedone s t
Does s of (refactored files respelled) t = IsRefactored s of files respelled t
Does s of (refused r) t = ⊥

-- The step is refused for the first reason that applies, and nothing changes; or none applies, and
-- it is done.
abbrev pub Steps : State → Step → Reply → State → Type 0
Steps s of (refused r) t = Refuses s of r × (t ≡ s)
Steps s of reply t = Grants s of × Does s of reply t
