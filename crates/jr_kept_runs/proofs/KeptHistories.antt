-- What several threads do together is the same in a program and in that of its images, where runs and first values are.
use Rattle.std.proofs.Common.{◌≡◌, List, [], ◌∷◌, refl, subst, ◌∙◌}
use Rattle.std.specs.Prelude.{codes}
use Rattle.jr_ast.specs.declared.operators.ModWord.TheVariants as word
use Rattle.jr_runs.specs.Core as core
use Rattle.jr_runs.specs.Alike.{AlikeExactly}
use Rattle.jr_runs.specs.FirstValues.{First}
use Rattle.jr_table.specs.Keys.{FieldKey, MethodKey}
use Rattle.jr_table.specs.Decls.{method_decl}
use Rattle.jr_table.specs.Rows.{Row}
use Rattle.jr_table.specs.Prelude.{thread_row}
use Rattle.jr_table.specs.Entries.{IsRowOf}
use Rattle.jr_table.specs.Conditions.{AreRows}
use Rattle.jr_images.specs.Images.{Renaming, rows_to}
use Rattle.jr_histories.specs.Laws.{first_image, SameHistories}
use Rattle.jr_histories.proofs.BothWays.{exact_histories_agree}
use Rattle.jr_code.specs.RunKeys.{RunKeys}
use Rattle.jr_code.specs.RunRows.{AreRunRows}
use Rattle.jr_code.specs.Exchanged.{exchanged}
use Rattle.jr_kept_runs.specs.KeysTo.{keys_to}
use Rattle.jr_kept_runs.specs.KeepsRuns.{thread_run}
use Rattle.jr_kept_runs.specs.TablesAgree.{TablesAgree}
use Rattle.jr_kept_runs.proofs.KnownTypes.{prelude_at}
use Rattle.jr_kept_runs.proofs.SameTables.{undoes, maps, same_rows}
use Rattle.jr_kept_runs.proofs.KeptPrograms.{run_stays}
use Rattle.jr_kept_runs.proofs.KeptStarts.{starts_agree}

module _ (rows : List Row) (g : Renaming) (are : AreRows rows) (agree : TablesAgree rows g) (P Q : core.Program RunKeys) (old : AreRunRows rows P.rows) (new : AreRunRows (rows_to g rows) Q.rows) (alike : AlikeExactly (exchanged (keys_to g) rows) P Q)
    (first first' : FieldKey → First RunKeys) (firsts : (k : FieldKey) → first' ((exchanged (keys_to g) rows).field k) ≡ first_image (exchanged (keys_to g) rows) (first k))
  where
    run_row : IsRowOf rows (method_decl thread_run) 6
    run_row = record { row = thread_row (word.Public ∷ []) (codes "run"); stands = prelude_at rows are 6 (thread_row (word.Public ∷ []) (codes "run")) refl; declares = refl }

    run_same : (exchanged (keys_to g) rows).method thread_run ≡ thread_run
    run_same = (maps rows g agree).method thread_run 6 run_row ∙ run_stays rows g are agree.new

    pub histories_agree : SameHistories (exchanged (keys_to g) rows) P Q thread_run thread_run first first'
    histories_agree =
        subst (λ (m : MethodKey). SameHistories (exchanged (keys_to g) rows) P Q thread_run m first first') run_same
        (exact_histories_agree (exchanged (keys_to g) rows) (exchanged (keys_to g) rows) (undoes rows g agree) (undoes rows g agree) P Q alike (same_rows rows g agree P.rows Q.rows old new) (starts_agree rows g agree P.rows Q.rows old new)
        thread_run ((old.has_method thread_run).1 (6, run_row)) first first' firsts)
