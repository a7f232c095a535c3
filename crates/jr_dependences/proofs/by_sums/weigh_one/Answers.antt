use Rattle.std.proofs.Common.{◌+◌, ◌<◌, length, arith}
use Rattle.std.proofs.lemmas.Bool.{iff_false}
use Rattle.std.proofs.lemmas.Option.{IfSome_then}
use Rattle.jr_dependences.proofs.SumLaws.{one_more, one_past}
use Rattle.jr_dependences.proofs.by_sums.weigh_one.Goals as goal

pub returns-then-not-comes : goal.returns-then-not-comes
returns-then-not-comes c g each s h = one_past g c.args.first each c.args.reach.now c.args.sums.now s c.args.second c.args.total (iff_false c.comes.ensures c.if-not-comes.true) h

pub returns : goal.returns
returns c g each s h =
    let count = s.summed.are.count in
    let lt = c.requires.second in
    IfSome_then c.sum.result c.sum.ensures
    (λ n is. one_more g c.args.first each c.args.reach.now c.args.sums.now s c.args.second c.args.total _ n (omega (arith, count, lt)) (c.comes.ensures.0 c.if-not-comes.false) c.in_ok-more.ensures is h)
