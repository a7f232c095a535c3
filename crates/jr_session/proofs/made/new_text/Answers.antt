use Rattle.std.proofs.Common.{length, refl, sym, subst, arith}
use Rattle.std.proofs.lemmas.Option.{slice_get_read}
use Rattle.std.proofs.lemmas.Result.{IfOk-weaker, IfErr-weaker}
use Rattle.jr_text.specs.EditFaults.{IsApplyFault}
use Rattle.jr_text.specs.Splices.{splice}
use Rattle.jr_session.specs.NewTexts.{with_edits}
use Rattle.jr_session.specs.Splicing.{HasText}
use Rattle.jr_session.proofs.Making.{fit_count, fits_at, new_text_at}
use Rattle.jr_session.proofs.made.new_text.Goals as goal

pub bounds-edits-number : goal.bounds-edits-number
bounds-edits-number c =
    let n = fit_count c.args.sources.now c.args.edits.now c.requires.fit in
    let l = c.requires.number in
    omega (arith, n, l)

pub apply-requires : goal.apply-requires
apply-requires c =
    let n = fit_count c.args.sources.now c.args.edits.now c.requires.fit in
    let l = c.requires.number in
    let its = slice_get_read c.args.edits.now (length c.args.edits.now) c.args.number c.index-edits-number.result refl (omega (arith, n, l)) c.index-edits-number.is in
    fits_at c.args.sources.now c.args.edits.now c.args.number c.text.result.now c.index-edits-number.result c.requires.fit c.text.ensures its

pub returns-clause-ok : goal.returns-clause-ok
returns-clause-ok c =
    let n = fit_count c.args.sources.now c.args.edits.now c.requires.fit in
    let l = c.requires.number in
    let its = slice_get_read c.args.edits.now (length c.args.edits.now) c.args.number c.index-edits-number.result refl (omega (arith, n, l)) c.index-edits-number.is in
    let new = new_text_at c.args.sources.now c.args.edits.now c.args.number c.text.result.now c.index-edits-number.result c.text.ensures its in
    IfOk-weaker c.apply.result _ _ (λ text e. subst (HasText (with_edits c.args.sources.now c.args.edits.now) c.args.number) (sym e) new) c.apply.ensures.ok

pub returns-clause-fault : goal.returns-clause-fault
returns-clause-fault c =
    let n = fit_count c.args.sources.now c.args.edits.now c.requires.fit in
    let l = c.requires.number in
    let its = slice_get_read c.args.edits.now (length c.args.edits.now) c.args.number c.index-edits-number.result refl (omega (arith, n, l)) c.index-edits-number.is in
    let new = new_text_at c.args.sources.now c.args.edits.now c.args.number c.text.result.now c.index-edits-number.result c.text.ensures its in
    IfErr-weaker c.apply.result _ _ (λ fault h len e.
    let k = subst (IsApplyFault c.text.result.now c.index-edits-number.result) e h in
    (splice c.text.result.now c.index-edits-number.result, new, k.0, k.1)) c.apply.ensures.fault
