-- What a refactoring plans in analysed sources. Only private clauses cite this.
use Rattle.std.specs.Prelude.{◌≡◌, ℕ, List, Option, option_map}
use Rattle.jr_text.specs.declared.spans.Span.{Span}
use Rattle.jr_text.specs.Edits.{Entry}
use Rattle.jr_table.specs.Decls.{Decl}
use Rattle.jr_names.specs.Refusals.{Refusal}
use Rattle.jr_names.specs.RefusalView.{refusal_of}
use Rattle.jr_names.specs.Replies.{Outcome, planned, not_planned}
use Rattle.jr_names.specs.Sites.{DepPair}
use Rattle.jr_names.specs.SiteView.{pair_of}
use Rattle.jr_bind.specs.Programs.{Program}
use Rattle.jr_plan.specs.Reasons.{IsPlanned, IsRefused, TellsLost}
use Rattle.jr_plan.specs.Transforms.{Transform}
use Rattle.jr_sources.specs.Analysed.{IsSourceWrong}
use Rattle.jr_sources.specs.Sources.{Source}
use Rattle.jr_sources.specs.Whole.{IsProgramOf}
use Rattle.jr_session.specs.declared.plans.Planned.{Planned}
use Rattle.jr_session.specs.declared.plans.Planned.TheVariants as plan
use Rattle.jr_session.specs.Requests.{Request}
use Rattle.jr_session.specs.Splicing.{HasText}

module _ (sources : List Source) (ask : Request) (number : ℕ) where
  -- the program of the sources refuses it so
  pub record IsNotPlanned (r : Refusal) : Type 0 where
    pub p : Program Span
    pub program : IsProgramOf sources p
    pub text : List ℕ
    pub has : HasText sources number text
    pub refused : IsRefused p (ask.refactoring p text number) r

  -- or these are the edits, so many references are respelled, and this pair of sites is lost
  pub record ArePlanned (edits : List (List Entry)) (respelled : ℕ) (lost : Option DepPair)
      : Type 0 where
    pub p : Program Span
    pub program : IsProgramOf sources p
    pub text : List ℕ
    pub has : HasText sources number text
    pub renaming : List (Decl × Decl)
    pub planned : IsPlanned p (ask.refactoring p text number) edits renaming respelled
    pub tells :
        TellsLost ((ask.refactoring p text number).transform planned.found).Crosses lost

  abbrev pub IsPlannedSo : Planned → Type 0
  IsPlannedSo (plan.Wrong fault) = IsSourceWrong sources fault
  IsPlannedSo (plan.Refused r) = IsNotPlanned (refusal_of r)
  IsPlannedSo (plan.Edits edits respelled lost) =
      ArePlanned edits respelled (option_map pair_of lost)

-- what an outcome says without the renaming
abbrev pub IsOfOutcome : Outcome → Planned → Type 0
IsOfOutcome o (plan.Wrong fault) = ⊥
IsOfOutcome o (plan.Refused r) = o ≡ not_planned (refusal_of r)
IsOfOutcome o (plan.Edits edits respelled lost) =
    (renaming : List (Decl × Decl))
    × (o ≡ planned edits renaming respelled (option_map pair_of lost))
