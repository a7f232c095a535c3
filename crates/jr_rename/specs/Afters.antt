-- What is told of the table of the program that a rename makes.
use Rattle.std.specs.Prelude.{◌≡◌, ℕ, List, Some, slice_get}
use Rattle.jr_text.specs.declared.spans.Span.{Span}
use Rattle.jr_table.specs.Decls.{Decl}
use Rattle.jr_table.specs.Rows.{Row}
use Rattle.jr_names.specs.Replies.{Outcome, planned, not_planned}
use Rattle.jr_bind.specs.Programs.{File, Program}
use Rattle.jr_images.specs.Images.{rows_to}
use Rattle.jr_plan.specs.Reasons.{IsPlanned}
use Rattle.jr_plan.specs.Renaming as plan
use Rattle.jr_rename_laws.specs.PlanLaws.{IsNoClass}
use Rattle.jr_rename.specs.declared.afters.After.{After}
use Rattle.jr_rename.specs.declared.afters.After.TheVariants as after
use Rattle.jr_rename.specs.Answers.{Answers}

-- what is planned renames no class, and its new rows have the property
abbrev pub PlansRows : Program Span → (file at : ℕ) → (new : List ℕ) → Outcome
    → (List Row → Type 0) → Type 0
PlansRows p file at new (planned edits renaming respelled lost) P = (f : File Span)
    → slice_get p.files file ≡ Some f
    → (is : IsPlanned p (plan.renaming p f.text file at new) edits renaming respelled)
    × IsNoClass is.found.target × P (rows_to is.found.g p.rows)
PlansRows p file at new (not_planned r) P = Unit {0}

-- what is told is so: where a class is renamed, and where nothing is planned, nothing is
abbrev pub IsAfter : Program Span → (file at : ℕ) → (new : List ℕ) → Outcome → After → Type 0
IsAfter p file at new o after.Unknown = Unit {0}
IsAfter p file at new o after.Same = PlansRows p file at new o (λ rows. rows ≡ p.rows)
IsAfter p file at new o (after.Images t) = PlansRows p file at new o (λ rows. t ≡ rows)
IsAfter p file at new o (after.Maybe t) = Unit {0}

-- ---- on the way there

-- the outcome comes of a target that is no class, and the new rows have the property
abbrev pub AnswersRows : Program Span → Decl → (new : List ℕ) → Outcome → (List Row → Type 0)
    → Type 0
AnswersRows p d new o P = (a : Answers p d new o) × IsNoClass d × P (rows_to a.0 p.rows)

abbrev pub AnswersAfter : Program Span → Decl → (new : List ℕ) → Outcome → After → Type 0
AnswersAfter p d new o after.Unknown = Unit {0}
AnswersAfter p d new o after.Same = AnswersRows p d new o (λ rows. rows ≡ p.rows)
AnswersAfter p d new o (after.Images t) = AnswersRows p d new o (λ rows. t ≡ rows)
AnswersAfter p d new o (after.Maybe t) = Unit {0}

-- these are the rows before and after
abbrev pub TellsRows : (old new : List Row) → After → Type 0
TellsRows old new after.Unknown = Unit {0}
TellsRows old new after.Same = new ≡ old
TellsRows old new (after.Images t) = t ≡ new
TellsRows old new (after.Maybe t) = Unit {0}

-- the same, and what is renamed is no class
abbrev pub TellsRowsOf : Decl → (old new : List Row) → After → Type 0
TellsRowsOf d old new after.Unknown = Unit {0}
TellsRowsOf d old new after.Same = IsNoClass d × (new ≡ old)
TellsRowsOf d old new (after.Images t) = IsNoClass d × (t ≡ new)
TellsRowsOf d old new (after.Maybe t) = Unit {0}

abbrev pub TellsNothing : After → Type 0
TellsNothing after.Unknown = Unit {0}
TellsNothing after.Same = ⊥
TellsNothing (after.Images t) = ⊥
TellsNothing (after.Maybe t) = Unit {0}
