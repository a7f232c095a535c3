use Rattle.std.proofs.Common.{◌≡◌, ◌+◌, ◌<◌, subst, arith}
use Rattle.jr_dependences.specs.Summed.{WeighsTo}
use Rattle.jr_dependences.proofs.by_sums.weigh_each.Goals as goal

pub loop-second-init : goal.loop-second-init
loop-second-init c = (c.requires.order, λ g each s h. h)

pub weigh_one-requires-clause-second : goal.weigh_one-requires-clause-second
weigh_one-requires-clause-second c =
    let lt = c.loop-second-test.true in
    let to = c.requires.to in
    omega (arith, lt, to)

pub loop-second-preserved : goal.loop-second-preserved
loop-second-preserved c =
    let lt = c.loop-second-test.true in
    (omega (arith, lt), λ g each s h. c.in_ok-weight.ensures g each s (c.loop-second.invariant.1 g each s h))

pub returns : goal.returns
returns c g each s h =
    let le = c.loop-second-test.false in
    let within = c.loop-second.invariant.0 in
    let end : c.loop-second.second ≡ c.args.to = omega (arith, le, within) in
    subst (λ n. WeighsTo g c.args.first each n c.loop-second.weight) end (c.loop-second.invariant.1 g each s h)
