use Rattle.std.proofs.Common.{append_assoc, sym}
use Rattle.jr_lines.proofs.line_texts.reference_text.Goals as goal

pub returns : goal.returns
returns c = simp append_assoc (rw (sym c.in_ok-told.ensures, sym c.as_str-decl.ensures) c.format.ensures.ok)
