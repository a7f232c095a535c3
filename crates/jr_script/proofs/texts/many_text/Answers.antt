use Rattle.std.proofs.Common.{append_assoc, sym}
use Rattle.jr_script.proofs.texts.many_text.Goals as goal

pub returns : goal.returns
returns c = rw (sym c.in_ok-first.ensures, sym c.in_ok-second.ensures) (simp append_assoc c.format.ensures.ok)
