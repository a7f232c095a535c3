use Rattle.std.proofs.Common.{ap, ◌∙◌}
use Rattle.jr_new_words.specs.Valued.{of_decl}
use Rattle.jr_new_words.proofs.values.row_value.Goals as goal

pub returns-in-None : goal.returns-in-None
returns-in-None c = ap of_decl c.in-None.ensures

pub returns-in-Some : goal.returns-in-Some
returns-in-Some c = c.decl_value.ensures ∙ ap of_decl c.in-Some.ensures
