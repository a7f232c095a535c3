use Rattle.std.proofs.Common.{◌≡◌, arith}
use Rattle.jr_local_parts.proofs.Counting.{goes_on, ends_at}
use Rattle.jr_local_parts.proofs.numbers.kept_numbers.Goals as goal

pub loop-number-init : goal.loop-number-init
loop-number-init c = c.new-numbers.ensures.items

pub loop-number-preserved : goal.loop-number-preserved
loop-number-preserved c = goes_on c.loop-number.number c.loop-number.numbers.items _ c.loop-number.invariant c.in_ok-push.ensures.items

pub returns : goal.returns
returns c =
    let l = c.loop-number in
    let most = l.auto.number-end in
    let over = c.loop-number-test.false in
    let all : l.number ≡ c.args.count = omega (arith, most, over) in
    ends_at l.number c.args.count l.numbers.items all l.invariant
