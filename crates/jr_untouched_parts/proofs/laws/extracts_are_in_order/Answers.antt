use Rattle.jr_untouched_parts.proofs.InOrder as order
use Rattle.jr_untouched_parts.proofs.laws.extracts_are_in_order.Goals as goal

pub returns : goal.returns
returns c = order.extracts_are_in_order c.extracts_are_whole.ensures c.extracts_fit.ensures
