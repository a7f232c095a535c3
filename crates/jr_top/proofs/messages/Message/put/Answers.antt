use Rattle.std.proofs.Common.{◌++◌, codes, decimal, sym, subst, append_assoc}
use Rattle.jr_shelf.specs.Sink.{Puts}
use Rattle.jr_top.proofs.messages.Message.put.Goals as goal

pub returns-in-WriteFault : goal.returns-in-WriteFault
returns-in-WriteFault g c =
    let taken = g.E.Sink.taken in
    let faults = g.E.Sink.faults in
    let front = codes "jref: write fault after " ++ decimal c.in-WriteFault.stored in
    rw c.in-WriteFault.is (subst (λ bytes. Puts c.put_behind.result (taken c.args.errors.now) (taken c.put_behind.new.errors) (faults c.args.errors.now) (faults c.put_behind.new.errors) bytes)
    (sym (append_assoc front (codes " files") (codes "\n")))
    (c.put_behind.ensures _ _ _ (c.put_number-count.ensures _ _ _ c.put_bytes-front.ensures)))

pub returns-in-BadSource : goal.returns-in-BadSource
returns-in-BadSource g c = rw c.in-BadSource.is c.put_line-in-BadSource.ensures

pub returns-in-NoMemory : goal.returns-in-NoMemory
returns-in-NoMemory g c = rw c.in-NoMemory.is c.put_line-in-NoMemory.ensures
