-- What a rename plans in a program, or why it is refused.
use Rattle.std.specs.Prelude.{◌≡◌, ℕ, List, Some, None, slice_get}
use Rattle.jr_text.specs.declared.spans.Span.{Span}
use Rattle.jr_names.specs.Replies.{Outcome, planned, not_planned}
use Rattle.jr_bind.specs.Programs.{File, Program}
use Rattle.jr_plan.specs.Reasons.{IsPlanned, IsRefused}
use Rattle.jr_plan.specs.Renaming as plan

-- the outcome of a rename of what is named at the byte of the file; no dependence is ever lost
abbrev pub Plans : Program Span → (file at : ℕ) → (new : List ℕ) → Outcome → Type 0
Plans p file at new (planned edits renaming respelled lost) = (lost ≡ None)
    × ((f : File Span) → slice_get p.files file ≡ Some f
    → IsPlanned p (plan.renaming p f.text file at new) edits renaming respelled)
Plans p file at new (not_planned r) = (f : File Span) → slice_get p.files file ≡ Some f
    → IsRefused p (plan.renaming p f.text file at new) r
