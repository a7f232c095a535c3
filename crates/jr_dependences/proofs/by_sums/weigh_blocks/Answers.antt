use Rattle.std.proofs.Common.{◌≡◌, ◌+◌, ◌*◌, ◌/◌, ◌<◌, length, subst, arith}
use Rattle.jr_dependences.specs.Summed.{WeighsTo}
use Rattle.jr_dependences.proofs.SumLaws.{none_yet}
use Rattle.jr_dependences.proofs.by_sums.weigh_blocks.Goals as goal

pub loop-block-init : goal.loop-block-init
loop-block-init c = (omega arith, λ g each s. none_yet g c.args.first each c.args.reach.now c.args.sums.now s)

pub weigh_block-requires-clause-block : goal.weigh_block-requires-clause-block
weigh_block-requires-clause-block c =
    let lt = c.loop-block-test.true in
    let count = c.requires.count in
    omega (arith, lt, count)

pub loop-block-preserved : goal.loop-block-preserved
loop-block-preserved c =
    let lt = c.loop-block-test.true in
    let next : 64 * c.loop-block.block + 64 ≡ 64 * (c.loop-block.block + 1) = omega arith in
    (omega (arith, lt), λ g each s. subst (λ n. WeighsTo g c.args.first each n c.in_ok-total.total) next (c.in_ok-total.ensures g each s (c.loop-block.invariant.1 g each s)))

pub returns : goal.returns
returns c g each s =
    let le = c.loop-block-test.false in
    let within = c.loop-block.invariant.0 in
    let end : c.loop-block.block ≡ c.args.count / 64 = omega (arith, le, within) in
    subst (λ n. WeighsTo g c.args.first each (64 * n) c.loop-block.total) end (c.loop-block.invariant.1 g each s)
