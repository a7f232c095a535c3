use Rattle.std.proofs.Common.{append_assoc, sym}
use Rattle.jr_lines.proofs.line_texts.broken_text.Goals as goal

pub returns : goal.returns
returns c = simp append_assoc (rw (sym c.name-name.ensures) c.format.ensures.ok)
