use Rattle.std.proofs.Common.{append_assoc, sym}
use Rattle.jr_names.proofs.decl_texts.member_class_text.Goals as goal

pub returns : goal.returns
returns c = simp append_assoc (rw (sym c.as_str-outer.ensures) c.format.ensures.ok)
