use Rattle.std.proofs.lemmas.Option.{IfSome_then}
use Rattle.jr_dependences.proofs.summing.next_sum.Goals as goal

pub returns : goal.returns
returns c = IfSome_then c.add_kinds.result c.add_kinds.ensures (λ n is. (c.kinds_of_other-kinds.result, c.kinds_of_other-kinds.ensures, is))
