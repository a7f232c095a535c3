use Rattle.std.proofs.Common.{List, sym, subst}
use Rattle.jr_text.specs.declared.spans.Span.{Span}
use Rattle.jr_grammar.specs.Layout.{itself}
use Rattle.jr_table.specs.Rows.{Row}
use Rattle.jr_table.specs.Context.{Context}
use Rattle.jr_members.specs.WrittenLaws.{MembersAreWritten}
use Rattle.jr_bind.specs.Programs.{Program, units_of}
use Rattle.jr_program_laws.specs.FileParts.{begins}
use Rattle.jr_images.specs.Images.{rows_to}
use Rattle.jr_images.specs.Spelling.{spelling}
use Rattle.jr_plan.proofs.Rename.{rewrite_back}
use Rattle.jr_kept_runs.specs.KeysTo.{keys_to}
use Rattle.jr_kept_runs.specs.KeepsRuns.{Sources, KeepsRuns, KeepsFirstValues, KeepsHistories}
use Rattle.jr_kept_runs.specs.Laws.{last_of, sources_of, RenamesKeepRuns, RenamesKeepFirstValues, RenamesKeepHistories}
use Rattle.jr_kept_runs.proofs.Agreeing.{agree}
use Rattle.jr_kept_runs.proofs.KeptFirsts.{firsts_kept}
use Rattle.jr_kept_runs.proofs.KeptHistories.{histories_agree}
use Rattle.jr_kept_runs.proofs.laws.renames_keep_histories.Goals as goal

-- a program's sources, by these rows
abbrev by_rows : Program Span → List Row → Sources Span
by_rows q rows = record { begins = begins; ends = last_of; rows = rows; super_at = q.super_at; units = units_of q }

firsts : MembersAreWritten Span → RenamesKeepFirstValues
firsts written p q text file at new edits renaming respelled is read rows images =
    let tables = agree p.rows is.planned.found.target is.planned.found.g is.program.are_rows images.fair is.planned.found.renames.renamed is.planned.dispatch in
    subst (λ (z : List Row). KeepsFirstValues (keys_to is.planned.found.g) (sources_of p) (by_rows q z)) (sym rows)
    (λ P Q old other first first' mine yours. firsts_kept itself (spelling begins p.rows is.planned.found.g (λ (z : Context). p.super_at z.member)) p.rows is.planned.found.g (units_of p) (units_of q) is.planned.becomes.files is.program.are_rows tables is.program.rows
    (written begins (units_of p) p.rows is.program.are_rows is.program.rows) (rewrite_back p is.planned.found.g is.planned.becomes) read images.members P.rows Q.rows old.declarations other.declarations first first' mine yours)

histories : MembersAreWritten Span → RenamesKeepRuns → RenamesKeepHistories
histories written kept p q text file at new edits renaming respelled is read rows images =
    let tables = agree p.rows is.planned.found.target is.planned.found.g is.program.are_rows images.fair is.planned.found.renames.renamed is.planned.dispatch in
    let runs : KeepsRuns (keys_to is.planned.found.g) (sources_of p) (by_rows q (rows_to is.planned.found.g p.rows)) =
    subst (λ (z : List Row). KeepsRuns (keys_to is.planned.found.g) (sources_of p) (by_rows q z)) rows (kept p q text file at new edits renaming respelled is read rows images) in
    let values : KeepsFirstValues (keys_to is.planned.found.g) (sources_of p) (by_rows q (rows_to is.planned.found.g p.rows)) =
    subst (λ (z : List Row). KeepsFirstValues (keys_to is.planned.found.g) (sources_of p) (by_rows q z)) rows (firsts written p q text file at new edits renaming respelled is read rows images) in
    subst (λ (z : List Row). KeepsHistories (keys_to is.planned.found.g) (sources_of p) (by_rows q z)) (sym rows)
    (λ P Q old other first first' mine yours.
    histories_agree p.rows is.planned.found.g is.program.are_rows tables P Q old.declarations other.declarations (runs P Q old other) first first' (values P Q old other first first' mine yours))

pub returns-clause-first_values : goal.returns-clause-first_values
returns-clause-first_values c = firsts c.members_are_written.ensures

pub returns-clause-histories : goal.returns-clause-histories
returns-clause-histories c = histories c.members_are_written.ensures c.renames_keep_runs.ensures
