use Rattle.std.proofs.Common.{append_assoc, sym}
use Rattle.jr_names.proofs.decl_texts.field_text.Goals as goal

pub returns : goal.returns
returns c = rw (sym c.in_ok-class.ensures, sym c.as_str-name.ensures) (simp append_assoc c.format.ensures.ok)
