use Rattle.std.proofs.Common.{suc, List, [], ◌∷◌, refl, sym, subst}
use Rattle.jr_grammar.specs.Layout.{itself}
use Rattle.jr_table.specs.Rows.{Row}
use Rattle.jr_bind.specs.Programs.{units_of}
use Rattle.jr_program_laws.specs.FileParts.{begins}
use Rattle.jr_rewrite.specs.Rewritten.{Rewritten}
use Rattle.jr_images.specs.RenameLaws.{KeepsAll}
use Rattle.jr_plan.proofs.Rename.{rewrite_back, none_loses}
use Rattle.jr_kept_runs.specs.KeysTo.{keys_to}
use Rattle.jr_kept_runs.specs.KeepsRuns.{KeepsRuns}
use Rattle.jr_kept_runs.specs.Laws.{last_of, sources_of}
use Rattle.jr_kept_runs.proofs.ProgramImages.{AllKept}
use Rattle.jr_kept_runs.proofs.Agreeing.{agree}
use Rattle.jr_kept_runs.proofs.KeptPrograms.{runs_stay}
use Rattle.jr_kept_runs.proofs.laws.renames_keep_runs.Goals as goal

all_kept : {T : Type 0} (files : List (Rewritten T)) → KeepsAll files → AllKept files
all_kept [] h = tt
all_kept (o ∷ os) h = (h 0 o refl, all_kept os (λ i p e. h (suc i) p e))

pub returns : goal.returns
returns c p q text file at new edits renaming respelled is read rows images =
    let fair = images.fair in
    let tables = agree p.rows is.planned.found.target is.planned.found.g is.program.are_rows fair is.planned.found.renames.renamed is.planned.dispatch in
    let one_old = c.lookups_are_exact.ensures.one p.rows is.program.are_rows in
    let bound_old = c.types_are_exact.ensures.bound p.rows is.program.are_rows (c.lookups_are_exact.ensures.keys p.rows is.program.are_rows) in
    subst (λ (z : List Row). KeepsRuns (keys_to is.planned.found.g) (sources_of p) (record { begins = begins; ends = last_of; rows = z; super_at = q.super_at; units = units_of q })) (sym rows)
    (runs_stay itself last_of p.rows is.planned.found.g p.super_at q.super_at (units_of p) (units_of q) is.planned.becomes.files is.program.are_rows tables bound_old
    (λ to. c.types_are_exact.ensures.bound _ fair.are (c.lookups_are_exact.ensures.keys _ fair.are) to) (λ to. c.spellings_rebind.ensures.fronts _ to)
    (λ from to stand. record {
      are = fair.are;
      one_old = one_old;
      one_new = c.lookups_are_exact.ensures.one _ fair.are;
      old = bound_old from;
      new = c.types_are_exact.ensures.bound _ fair.are (c.lookups_are_exact.ensures.keys _ fair.are) to;
      rebind = c.spellings_rebind.ensures.bound;
      classes = c.spellings_rebind.ensures.classes;
      fronts = c.spellings_rebind.ensures.fronts _ to;
      stand = stand;
      whole = fair.names;
      string = fair.string;
      class = fair.class;
    })
    fair
    is.program.rows (c.members_are_written.ensures begins (units_of p) p.rows is.program.are_rows is.program.rows) (rewrite_back p is.planned.found.g is.planned.becomes) (all_kept is.planned.becomes.files (none_loses p is.planned.found.g is.planned.becomes is.planned.kept_all)) read images.members)
