-- What a step that renames plans: the file is found by its name.
use Rattle.std.specs.Prelude.{◌≡◌, ℕ, ◌<◌, List, Some, slice_get}
use Rattle.jr_text.specs.declared.spans.Span.{Span}
use Rattle.jr_lex.specs.Replacing.{IsName}
use Rattle.jr_names.specs.declared.steps.Step.{Step}
use Rattle.jr_names.specs.declared.steps.Step.TheVariants as step
use Rattle.jr_names.specs.Replies.{Outcome}
use Rattle.jr_bind.specs.Programs.{File, Program}
use Rattle.jr_rename.specs.Plans.{Plans}

-- the file of the number has the name
pub record HasName (p : Program Span) (name : List ℕ) (file : ℕ) : Type 0 where
  pub of : File Span
  pub stands : slice_get p.files file ≡ Some of
  pub named : of.name ≡ name

-- it is the first that has
pub record IsFileOf (p : Program Span) (name : List ℕ) (file : ℕ) : Type 0 where
  pub has : HasName p name file
  pub first : (other : ℕ) → other < file → HasName p name other → ⊥

-- the step renames something to an identifier, in a file that is there
abbrev pub IsRename : Program Span → Step → Type 0
IsRename p (step.Rename file at new) = ((number : ℕ) × HasName p file number) × IsName new
IsRename p (step.Edit file from to text) = ⊥
IsRename p (step.ExtractLocal file from to new) = ⊥
IsRename p (step.ExtractMethod file from to new) = ⊥
IsRename p (step.InlineLocal file at) = ⊥
IsRename p (step.InlineMethod file at) = ⊥
IsRename p (step.PullUp file at) = ⊥
IsRename p (step.MoveStatic file at class) = ⊥
IsRename p (step.MoveInstance file at class new) = ⊥
IsRename p (step.Show file of) = ⊥
IsRename p step.Undo = ⊥
IsRename p step.Redo = ⊥

-- the outcome of such a step
abbrev pub PlansStep : Program Span → Step → Outcome → Type 0
PlansStep p (step.Rename file at new) o =
    (number : ℕ) × IsFileOf p file number × Plans p number at new o
PlansStep p (step.Edit file from to text) o = ⊥
PlansStep p (step.ExtractLocal file from to new) o = ⊥
PlansStep p (step.ExtractMethod file from to new) o = ⊥
PlansStep p (step.InlineLocal file at) o = ⊥
PlansStep p (step.InlineMethod file at) o = ⊥
PlansStep p (step.PullUp file at) o = ⊥
PlansStep p (step.MoveStatic file at class) o = ⊥
PlansStep p (step.MoveInstance file at class new) o = ⊥
PlansStep p (step.Show file of) o = ⊥
PlansStep p step.Undo o = ⊥
PlansStep p step.Redo o = ⊥
