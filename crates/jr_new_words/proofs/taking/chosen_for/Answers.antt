use Rattle.std.proofs.Common.{sym, ◌∙◌}
use Rattle.jr_new_words.proofs.taking.chosen_for.Goals as goal

pub returns-in_ok-choice_by : goal.returns-in_ok-choice_by
returns-in_ok-choice_by c = (sym c.leads_to.ensures ∙ c.if-leads_to.true, c.in_ok-choice_by.ensures)

pub returns-else-leads_to : goal.returns-else-leads_to
returns-else-leads_to c = sym c.leads_to.ensures ∙ c.if-leads_to.false
