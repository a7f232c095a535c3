use Rattle.std.proofs.Common.{◌≡◌, ◌<◌, ◌≤◌, ◌+◌, length, ◌∙◌, arith}
use Rattle.jr_members.specs.PartView.{written_of}
use Rattle.jr_mentions.specs.ApartView.{names_in}
use Rattle.jr_program.specs.Members.{CanBind}
use Rattle.jr_program.proofs.Membership.{each_map}
use Rattle.jr_cache.proofs.OneByOne.{step, last}
use Rattle.jr_cache.proofs.rebinding.rebind_each.Goals as goal

pub rebind_one-requires-clause-can : goal.rebind_one-requires-clause-can
rebind_one-requires-clause-can g c = each_map written_of (CanBind c.args.program.now.table.now c.args.program.now.tokens.now) c.args.program.now.written.now c.loop-number.number c.index-written-number.result c.index-written-number.result c.requires.can c.loop-number-test.true c.index-written-number.is

pub rebind_one-requires-clause-within : goal.rebind_one-requires-clause-within
rebind_one-requires-clause-within g c =
    let lt = c.loop-number-test.true in
    let long = c.loop-number.invariant.0.count in
    let count = c.requires.count in omega (arith, lt, long, count)

pub loop-number-preserved : goal.loop-number-preserved
loop-number-preserved g c =
    let least = c.loop-number.invariant.1.0 in
    let most = c.loop-number.invariant.1.1 in
    let more = c.rebind_one.ensures.least in
    let one = c.rebind_one.ensures.most in (
      step written_of c.args.program.now.written.now c.args.program.now.table.now c.args.program.now.tokens.now (names_in c.args.names.now) c.args.program.now.stays.now c.loop-number.number _ _ _ c.index-written-number.result c.requires.count c.loop-number-test.true c.index-written-number.is c.loop-number.invariant.0 c.in_ok-rebind_one.ensures.rebinds,
      (omega (arith, least, more), omega (arith, most, one)),
      c.in_ok-rebind_one.ensures.back ∙ c.loop-number.invariant.2,
    )

pub returns-clause-rebinds : goal.returns-clause-rebinds
returns-clause-rebinds g c = last written_of c.args.program.now.written.now c.args.program.now.table.now c.args.program.now.tokens.now (names_in c.args.names.now) c.args.program.now.stays.now c.loop-number.number _ _ c.loop-number-test.false c.loop-number.invariant.0

pub returns-clause-back : goal.returns-clause-back
returns-clause-back g c = c.loop-number.invariant.2
