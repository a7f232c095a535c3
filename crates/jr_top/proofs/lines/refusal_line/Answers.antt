use Rattle.std.proofs.Common.{append_assoc, sym}
use Rattle.jr_top.proofs.lines.refusal_line.Goals as goal

pub returns : goal.returns
returns c = simp append_assoc (rw (sym c.number-number.ensures, sym c.in_ok-text.ensures) c.format.ensures.ok)
