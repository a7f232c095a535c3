use Rattle.std.proofs.Common.{[], ◌∷◌, codes, refl, arith}
use Rattle.std.proofs.lemmas.Result.{err_from_is_err_and}
use Rattle.serde_json.specs.View.{view}
use Rattle.jr_names.specs.declared.steps.Step.TheVariants.{ExtractLocal}
use Rattle.jr_script.specs.Rows.{extract_local_row, column, text, offset}
use Rattle.jr_script.specs.Steps.{text_at, offset_at}
use Rattle.jr_script.proofs.StepLaws.{missing_fault, surplus_fault, step_means}
use Rattle.jr_script.proofs.rows.read_extract_local.Goals as goal

pub returns-in_err-file-clause-fault : goal.returns-in_err-file-clause-fault
returns-in_err-file-clause-fault c =
    let p = err_from_is_err_and c.from_residual.result c.from_residual.ensures.1 in
    rw (p.1, p.2)
    (missing_fault (view c.args.element.now) extract_local_row ([]) (codes "file") text (column (codes "from") offset ∷ column (codes "to") offset ∷ column (codes "name") text ∷ []) c.in_err-file.field-0.0 (5, omega arith, refl) c.requires refl tt c.in_err-file.ensures.fault)

pub returns-in_err-from-clause-fault : goal.returns-in_err-from-clause-fault
returns-in_err-from-clause-fault c =
    let p = err_from_is_err_and c.from_residual-in_err-from.result c.from_residual-in_err-from.ensures.1 in
    rw (p.1, p.2)
    (missing_fault (view c.args.element.now) extract_local_row (text_at (codes "file") c.in_ok-file.file ∷ []) (codes "from") offset (column (codes "to") offset ∷ column (codes "name") text ∷ []) c.in_err-from.field-0.0 (5, omega arith, refl) c.requires refl (c.in_ok-file.ensures.ok, tt) c.in_err-from.ensures.fault)

pub returns-in_err-to-clause-fault : goal.returns-in_err-to-clause-fault
returns-in_err-to-clause-fault c =
    let p = err_from_is_err_and c.from_residual-in_err-to.result c.from_residual-in_err-to.ensures.1 in
    rw (p.1, p.2)
    (missing_fault (view c.args.element.now) extract_local_row (text_at (codes "file") c.in_ok-file.file ∷ offset_at (codes "from") c.in_ok-from.from ∷ []) (codes "to") offset (column (codes "name") text ∷ []) c.in_err-to.field-0.0 (5, omega arith, refl) c.requires refl (c.in_ok-file.ensures.ok, (c.in_ok-from.ensures.ok, tt)) c.in_err-to.ensures.fault)

pub returns-in_err-name-clause-fault : goal.returns-in_err-name-clause-fault
returns-in_err-name-clause-fault c =
    let p = err_from_is_err_and c.from_residual-in_err-name.result c.from_residual-in_err-name.ensures.1 in
    rw (p.1, p.2)
    (missing_fault (view c.args.element.now) extract_local_row (text_at (codes "file") c.in_ok-file.file ∷ offset_at (codes "from") c.in_ok-from.from ∷ offset_at (codes "to") c.in_ok-to.to ∷ []) (codes "name") text ([]) c.in_err-name.field-0.0 (5, omega arith, refl) c.requires refl (c.in_ok-file.ensures.ok, (c.in_ok-from.ensures.ok, (c.in_ok-to.ensures.ok, tt))) c.in_err-name.ensures.fault)

pub returns-in_err-only_members-clause-fault : goal.returns-in_err-only_members-clause-fault
returns-in_err-only_members-clause-fault c =
    let p = err_from_is_err_and c.from_residual-in_err-only_members.result c.from_residual-in_err-only_members.ensures.1 in
    rw (p.1, p.2)
    (surplus_fault (view c.args.element.now) extract_local_row (text_at (codes "file") c.in_ok-file.file ∷ offset_at (codes "from") c.in_ok-from.from ∷ offset_at (codes "to") c.in_ok-to.to ∷ text_at (codes "name") c.in_ok-name.name ∷ []) c.in_err-only_members.field-0.0 (5, omega arith, refl) c.requires refl (c.in_ok-file.ensures.ok, (c.in_ok-from.ensures.ok, (c.in_ok-to.ensures.ok, (c.in_ok-name.ensures.ok, tt)))) c.in_err-only_members.ensures.fault)

pub returns-clause-ok : goal.returns-clause-ok
returns-clause-ok c =
    step_means (view c.args.element.now) (ExtractLocal c.in_ok-file.file c.in_ok-from.from c.in_ok-to.to c.in_ok-name.name) (5, omega arith, refl) c.requires (c.in_ok-file.ensures.ok, (c.in_ok-from.ensures.ok, (c.in_ok-to.ensures.ok, (c.in_ok-name.ensures.ok, tt)))) c.in_ok-only_members.ensures.ok
