use Rattle.std.proofs.Common.{[], refl, arith}
use Rattle.std.proofs.lemmas.Result.{err_from_is_err_and}
use Rattle.serde_json.specs.View.{view}
use Rattle.jr_names.specs.declared.steps.Step.TheVariants.{Redo}
use Rattle.jr_script.specs.Rows.{redo_row}
use Rattle.jr_script.proofs.StepLaws.{surplus_fault, step_means}
use Rattle.jr_script.proofs.rows.read_redo.Goals as goal

pub returns-in_err-only_members-clause-fault : goal.returns-in_err-only_members-clause-fault
returns-in_err-only_members-clause-fault c =
    let p = err_from_is_err_and c.from_residual.result c.from_residual.ensures.1 in
    rw (p.1, p.2)
    (surplus_fault (view c.args.element.now) redo_row ([]) c.in_err-only_members.field-0.0 (4, omega arith, refl) c.requires refl tt c.in_err-only_members.ensures.fault)

pub returns-clause-ok : goal.returns-clause-ok
returns-clause-ok c =
    step_means (view c.args.element.now) Redo (4, omega arith, refl) c.requires tt c.in_ok-only_members.ensures.ok
