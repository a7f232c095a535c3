use Rattle.std.proofs.Common.{Some, sym, ap, ◌∙◌}
use Rattle.jr_new_words.proofs.staying.declares_field.Goals as goal

pub returns-in-Some : goal.returns-in-Some
returns-in-Some c = λ t. let h = c.is_field_named.ensures t in (h.0, sym c.in-Some.ensures ∙ ap Some h.1, h.2)
