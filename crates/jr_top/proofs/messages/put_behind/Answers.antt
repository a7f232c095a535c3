use Rattle.std.proofs.Common.{subst}
use Rattle.jr_shelf.specs.Sink.{Puts}
use Rattle.jr_top.proofs.PutLaws.{Puts-then, PutInPart-more}
use Rattle.jr_top.proofs.messages.put_behind.Goals as goal

pub returns-in-Ok : goal.returns-in-Ok
returns-in-Ok g c = λ before faults_before bytes puts.
    let first = subst (λ r. Puts r before (g.E.Sink.taken c.args.errors.now) faults_before (g.E.Sink.faults c.args.errors.now) bytes) c.in-Ok.is puts in
    Puts-then c.put_bytes.result _ _ _ _ _ _ bytes c.args.bytes.now first c.put_bytes.ensures

pub returns-in-Err : goal.returns-in-Err
returns-in-Err g c = λ before faults_before bytes puts.
    let first = subst (λ r. Puts r before (g.E.Sink.taken c.args.errors.now) faults_before (g.E.Sink.faults c.args.errors.now) bytes) c.in-Err.is puts in
    PutInPart-more _ _ _ _ bytes c.args.bytes.now first
