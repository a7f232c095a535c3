use Rattle.std.proofs.Common.{[], ◌∷◌, codes, refl, arith}
use Rattle.std.proofs.lemmas.Result.{err_from_is_err_and}
use Rattle.serde_json.specs.View.{view}
use Rattle.jr_names.specs.declared.steps.Step.TheVariants.{Show}
use Rattle.jr_script.specs.Rows.{show_row, column, text, shown}
use Rattle.jr_script.specs.Steps.{text_at, shown_at}
use Rattle.jr_script.proofs.StepLaws.{missing_fault, surplus_fault, step_means}
use Rattle.jr_script.proofs.rows.read_show.Goals as goal

pub returns-in_err-file-clause-fault : goal.returns-in_err-file-clause-fault
returns-in_err-file-clause-fault c =
    let p = err_from_is_err_and c.from_residual.result c.from_residual.ensures.1 in
    rw (p.1, p.2)
    (missing_fault (view c.args.element.now) show_row ([]) (codes "file") text (column (codes "what") shown ∷ []) c.in_err-file.field-0.0 (2, omega arith, refl) c.requires refl tt c.in_err-file.ensures.fault)

pub returns-in_err-what-clause-fault : goal.returns-in_err-what-clause-fault
returns-in_err-what-clause-fault c =
    let p = err_from_is_err_and c.from_residual-in_err-what.result c.from_residual-in_err-what.ensures.1 in
    rw (p.1, p.2)
    (missing_fault (view c.args.element.now) show_row (text_at (codes "file") c.in_ok-file.file ∷ []) (codes "what") shown ([]) c.in_err-what.field-0.0 (2, omega arith, refl) c.requires refl (c.in_ok-file.ensures.ok, tt) c.in_err-what.ensures.fault)

pub returns-in_err-only_members-clause-fault : goal.returns-in_err-only_members-clause-fault
returns-in_err-only_members-clause-fault c =
    let p = err_from_is_err_and c.from_residual-in_err-only_members.result c.from_residual-in_err-only_members.ensures.1 in
    rw (p.1, p.2)
    (surplus_fault (view c.args.element.now) show_row (text_at (codes "file") c.in_ok-file.file ∷ shown_at (codes "what") c.in_ok-what.what ∷ []) c.in_err-only_members.field-0.0 (2, omega arith, refl) c.requires refl (c.in_ok-file.ensures.ok, (c.in_ok-what.ensures.ok, tt)) c.in_err-only_members.ensures.fault)

pub returns-clause-ok : goal.returns-clause-ok
returns-clause-ok c =
    step_means (view c.args.element.now) (Show c.in_ok-file.file c.in_ok-what.what) (2, omega arith, refl) c.requires (c.in_ok-file.ensures.ok, (c.in_ok-what.ensures.ok, tt)) c.in_ok-only_members.ensures.ok
