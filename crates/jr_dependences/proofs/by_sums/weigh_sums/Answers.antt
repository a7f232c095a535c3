use Rattle.std.proofs.Common.{◌≤◌, ◌*◌, ◌/◌, ◌<◌, ◌+◌, length, arith}
use Rattle.std.proofs.lemmas.Option.{IfSome_then}
use Rattle.jr_dependences.proofs.SumLaws.{all_on}
use Rattle.jr_dependences.proofs.by_sums.weigh_sums.Goals as goal

pub returns : goal.returns
returns c g each s count =
    IfSome_then c.weigh_each.result (c.weigh_each.ensures g each s (c.in_ok-total.ensures g each s)) (λ n h. all_on g c.args.first each c.args.reach.now c.args.sums.now s c.args.count n count h)
