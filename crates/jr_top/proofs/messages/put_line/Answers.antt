use Rattle.std.proofs.Common.{sym}
use Rattle.jr_top.proofs.messages.put_line.Goals as goal

pub returns : goal.returns
returns g c =
    rw (sym c.as_bytes.ensures.value) (c.put_behind.ensures _ _ _ (c.put_behind-both.ensures _ _ _ c.put_bytes-front.ensures))
