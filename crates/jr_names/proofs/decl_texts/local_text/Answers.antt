use Rattle.std.proofs.Common.{append_assoc, sym}
use Rattle.jr_names.proofs.decl_texts.local_text.Goals as goal

pub returns : goal.returns
returns c = simp append_assoc (rw (sym c.in_ok-member.ensures) c.format.ensures.ok)
