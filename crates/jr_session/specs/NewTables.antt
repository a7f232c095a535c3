-- What rows the sources have that planned edits make.
use Rattle.std.specs.Prelude.{ℕ, List}
use Rattle.jr_text.specs.declared.spans.Span.{Span}
use Rattle.jr_text.specs.Edits.{Entry}
use Rattle.jr_table.specs.Decls.{Decl}
use Rattle.jr_bind.specs.Programs.{Program}
use Rattle.jr_images.specs.Images.{rows_to}
use Rattle.jr_rename_laws.specs.PlanLaws.{IsPlanIn, IsNoClass}
use Rattle.jr_sources.specs.Sources.{Source}
use Rattle.jr_sources.specs.Tables.{IsTableOf}
use Rattle.jr_sources.specs.Whole.{IsProgramOf}
use Rattle.jr_session.specs.NewTexts.{with_edits}

-- Where no class is renamed, the sources with the planned edits have no fault of declarations, and
-- their rows are the images of the old ones.
abbrev pub NewTables : Type 0
NewTables = (sources : List Source) (p : Program Span) → IsProgramOf sources p
    → (text : List ℕ) (number at : ℕ) (new : List ℕ) (edits : List (List Entry))
    (renaming : List (Decl × Decl)) (respelled : ℕ)
    → (plan : IsPlanIn p text number at new edits renaming respelled)
    → IsNoClass plan.planned.found.target
    → IsTableOf (with_edits sources edits) (rows_to plan.planned.found.g p.rows)
