use Rattle.std.proofs.Common.{Some, ap, sym, ◌∙◌}
use Rattle.jr_new_words.proofs.staying.declares.Goals as goal

pub returns-in-Some : goal.returns-in-Some
returns-in-Some c = λ t. sym c.in-Some.ensures ∙ ap Some (c.eq.ensures.0 t)
