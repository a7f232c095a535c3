use Rattle.jr_untouched_parts.proofs.InOrder as order
use Rattle.jr_untouched_parts.proofs.laws.inlines_are_in_order.Goals as goal

pub returns : goal.returns
returns c = order.inlines_are_in_order c.inlines_are_whole.ensures c.inlines_fit.ensures
