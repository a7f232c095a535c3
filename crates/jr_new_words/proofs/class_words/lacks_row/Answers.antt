use Rattle.std.proofs.Common.{refl, sym, ◌∙◌}
use Rattle.jr_new_words.proofs.class_words.lacks_row.Goals as goal

pub returns-in-None : goal.returns-in-None
returns-in-None c = (λ t. sym c.in-None.ensures, λ e. refl)

pub returns-in-Some : goal.returns-in-Some
returns-in-Some c = (λ t. absurd cc, λ e. let no = c.in-Some.ensures ∙ e in absurd cc)
