-- What extract local plans in a program, or why it is refused.
use Rattle.std.specs.Prelude.{ℕ, List}
use Rattle.jr_text.specs.declared.spans.Span.{Span}
use Rattle.jr_bind.specs.Programs.{Program}
use Rattle.jr_names.specs.Replies.{Outcome, planned, not_planned}
use Rattle.jr_plan.specs.Reasons.{IsPlanned, IsRefused, TellsLost}
use Rattle.jr_local.specs.Extracted.{extract_local, Crosses}
use Rattle.jr_extract_lists.specs.declared.targets.Target as raw

-- the outcome, with the pair of what is found
abbrev pub Plans : Program Span → (file from to : ℕ) → (name : List ℕ) → Outcome → Type 0
Plans p file from to name (planned edits renaming respelled lost) =
    (plan : IsPlanned p (extract_local p file from to name) edits renaming respelled)
    × TellsLost (Crosses p file from to name plan.found.selected) lost
Plans p file from to name (not_planned r) = IsRefused p (extract_local p file from to name) r

-- where the expression is known
abbrev pub AnswersFound : Program Span → raw.Target → Outcome → Type 0
AnswersFound p t o = Plans p t.request.file t.request.from t.request.to t.request.name.now o
