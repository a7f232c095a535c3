use Rattle.std.proofs.Common.{length, map}
use Rattle.std.proofs.lemmas.Result.{err_from_is_err_and}
use Rattle.jr_words.specs.Asked.{operand_of}
use Rattle.jr_top.proofs.Beginning.{has_begun}
use Rattle.jr_files.proofs.Counting.{served_then}
use Rattle.jr_top.proofs.EarlyEnds.{behind_script}
use Rattle.jr_top.proofs.scripts.begin.Goals as goal

pub returns-in_err-steps-clause-err : goal.returns-in_err-steps-clause-err
returns-in_err-steps-clause-err g c =
    let p = err_from_is_err_and c.from_residual.result c.from_residual.ensures.1 in
    rw (p.1, p.2) (λ out. c.in_err-steps.ensures.err out (map operand_of c.args.files.now))

pub returns-in-Err-clause-err : goal.returns-in-Err-clause-err
returns-in-Err-clause-err g c = λ out. rw c.status_of_fault.ensures
    (behind_script out (operand_of c.args.script.now) (map operand_of c.args.files.now) c.in_ok-steps.steps.items _ _ _ _ _ _ _ _ _ _ _ _ (g.met.S.Shelf.served_fit c.fetch_sources.new.shelf)
    c.in_ok-steps.ensures.ok c.in_ok-steps.ensures.served c.in-Err.fault c.in-Err.ensures.fault c.in-Err.ensures.unread c.in-Err.ensures.in_order c.in-Err.ensures.keeps c.in-Err.ensures.missed c.in-Err.ensures.faults_stay c.in-Err.ensures.faults)

pub returns-in-Ok-begin-clause-ok : goal.returns-in-Ok-begin-clause-ok
returns-in-Ok-begin-clause-ok g c = has_begun _ _ c.in_ok-steps.ensures.served.keeps (operand_of c.args.script.now) (map operand_of c.args.files.now) c.in_ok-steps.steps.items c.in-Ok-begin.session c.in-Ok.fetched
    c.in_ok-steps.ensures.ok c.in-Ok.ensures.ok c.in-Ok.ensures.named c.in-Ok-begin.ensures.ok

pub returns-in-Ok-begin-clause-served : goal.returns-in-Ok-begin-clause-served
returns-in-Ok-begin-clause-served g c = served_then 1 (length c.args.files.now) _ _ _ _ _ _ _ _ _ _ _ _ (g.met.S.Shelf.served_fit c.fetch_sources.new.shelf)
    c.in_ok-steps.ensures.served c.in-Ok.ensures.served
