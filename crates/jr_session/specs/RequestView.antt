-- What a refactoring is asked for with, as the step and as the request that it is. Only private
-- clauses cite this.
use Rattle.std.specs.Prelude.{◌≡◌, ℕ, List}
use Rattle.jr_text.specs.declared.spans.Span.{Span}
use Rattle.jr_names.specs.declared.steps.Step.{Step}
use Rattle.jr_names.specs.declared.steps.Step.TheVariants as step
use Rattle.jr_names.specs.Replies.{Outcome}
use Rattle.jr_bind.specs.Programs.{Program}
use Rattle.jr_extract_local.specs.Plans as extracts
use Rattle.jr_rename.specs.declared.afters.After.{After}
use Rattle.jr_rename.specs.declared.afters.After.TheVariants.{Unknown}
use Rattle.jr_rename.specs.Afters.{IsAfter}
use Rattle.jr_rename.specs.Plans as renames
use Rattle.jr_session.specs.declared.plans.Asked.{Asked}
use Rattle.jr_session.specs.declared.plans.Asked.TheVariants as asked
use Rattle.jr_session.specs.declared.plans.RefactoringRequest as raw
use Rattle.jr_session.specs.Asked.{rename, extract}
use Rattle.jr_session.specs.Refactored.{IsAsked}
use Rattle.jr_session.specs.Requests.{Request}
use Rattle.jr_session.specs.States.{State}

abbrev pub step_by : (file : List ℕ) → Asked → Step
step_by file (asked.Rename at new) = step.Rename file at new.now
step_by file (asked.ExtractLocal from to new) = step.ExtractLocal file from to new.now

abbrev pub ask_by : (file : List ℕ) → Asked → Request
ask_by file (asked.Rename at new) = rename file at new.now
ask_by file (asked.ExtractLocal from to new) = extract file from to new.now

abbrev pub step_of : raw.RefactoringRequest → Step
step_of r = step_by r.file.now r.asked

abbrev pub ask_of : raw.RefactoringRequest → Request
ask_of r = ask_by r.file.now r.asked

-- the file of the number has the name, in its text the offsets can stand, and the new name is an
-- identifier
abbrev pub AsksFor : State → raw.RefactoringRequest → Type 0
AsksFor s r = (text : List ℕ) × IsAsked s (ask_of r) r.number text

-- the outcome of its plan, in a program in which the file has the number
abbrev pub PlansBy : Program Span → (number : ℕ) → Asked → Outcome → Type 0
PlansBy p number (asked.Rename at new) o = renames.Plans p number at new.now o
PlansBy p number (asked.ExtractLocal from to new) o = extracts.Plans p number from to new.now o

-- what is known then of the table of the new program
abbrev pub IsAfterBy : Program Span → (number : ℕ) → Asked → Outcome → After → Type 0
IsAfterBy p number (asked.Rename at new) o a = IsAfter p number at new.now o a
IsAfterBy p number (asked.ExtractLocal from to new) o a = a ≡ Unknown
