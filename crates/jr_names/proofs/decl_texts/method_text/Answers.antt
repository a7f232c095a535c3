use Rattle.std.proofs.Common.{append_assoc, sym, ap, ◌∙◌}
use Rattle.jr_names.specs.DeclTexts.{types_text}
use Rattle.jr_names.proofs.decl_texts.method_text.Goals as goal

pub returns : goal.returns
returns c =
    let types = c.in_ok-types.ensures ∙ ap types_text c.as_slice.ensures in
    rw (sym c.in_ok-class.ensures, sym types, sym c.as_str-name.ensures) (simp append_assoc c.format.ensures.ok)
