use Rattle.std.proofs.Common.{append_assoc, sym}
use Rattle.jr_script.proofs.texts.at_text.Goals as goal

pub returns : goal.returns
returns c = simp append_assoc (rw (sym c.as_str-file.ensures) c.format.ensures.ok)
