-- What is known of the table of new sources before they are analysed. Only private clauses cite
-- this.
use Rattle.std.specs.Prelude.{◌≡◌, List, Option, Some}
use Rattle.jr_rename.specs.declared.afters.After.{After}
use Rattle.jr_rename.specs.declared.afters.After.TheVariants as after
use Rattle.jr_sources.specs.declared.analyses.Analysis.{Analysis}
use Rattle.jr_sources.specs.declared.analyses.EarlierAnalysis.{EarlierAnalysis}
use Rattle.jr_sources.specs.Sources.{Source}
use Rattle.jr_sources.specs.Tables.{IsTableOf, HaveSameTable}
use Rattle.jr_session.specs.declared.plans.Planned.{Planned}
use Rattle.jr_session.specs.declared.plans.Planned.TheVariants as plan
use Rattle.jr_session.specs.NewTexts.{with_edits}

-- of new sources, beside what was analysed of the old ones
abbrev pub TellsTable : (news : List Source) → Option Analysis → After → Type 0
TellsTable news analysed after.Unknown = Unit {0}
TellsTable news analysed (after.Maybe table) = Unit {0}
TellsTable news analysed after.Same =
    (a : Analysis) → analysed ≡ Some a → IsTableOf news a.table
TellsTable news analysed (after.Images table) = IsTableOf news table

-- the same, where that is given with the files that stay
abbrev pub TellsNow : (news : List Source) → Option EarlierAnalysis → After → Type 0
TellsNow news given after.Unknown = Unit {0}
TellsNow news given (after.Maybe table) = Unit {0}
TellsNow news given after.Same = HaveSameTable news given
TellsNow news given (after.Images table) = IsTableOf news table

-- of the sources with planned edits
abbrev pub PlanTells : List Source → Option Analysis → Planned → After → Type 0
PlanTells sources analysed (plan.Wrong fault) a = Unit {0}
PlanTells sources analysed (plan.Refused r) a = Unit {0}
PlanTells sources analysed (plan.Edits edits respelled lost) a =
    TellsTable (with_edits sources edits) analysed a
