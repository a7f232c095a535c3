use Rattle.std.proofs.Common.{◌∙◌}
use Rattle.jr_flow.proofs.Filled.{numbers_none}
use Rattle.jr_flow.proofs.filling.row_of.Goals as goal

pub put_numbers-requires-clause-empty : goal.put_numbers-requires-clause-empty
put_numbers-requires-clause-empty c = numbers_none c.args.width c.args.width c.deref_mut.result.now (c.deref_mut.ensures.value ∙ c.in_ok-row.ensures.items_if_clones_equal (λ y h. h))
