use Rattle.jr_table.specs.Looking.{is_virtual}
use Rattle.jr_dispatch.proofs.tops.virtual_like.Goals as goal

pub returns : goal.returns
returns c = λ i. is_virtual (c.as_str.ensures i) (c.as_slice.ensures i)
