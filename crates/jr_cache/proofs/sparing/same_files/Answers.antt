use Rattle.std.proofs.Common.{arith}
use Rattle.jr_members.specs.PartView.{written_of}
use Rattle.jr_cache.proofs.OneByOne.{more_same, all_same}
use Rattle.jr_cache.proofs.sparing.same_files.Goals as goal

pub loop-number-preserved : goal.loop-number-preserved
loop-number-preserved c =
    let lt = c.loop-number-test.true in let same = c.if-written-earlier.false in
    more_same written_of c.args.written.now c.args.earlier.now c.loop-number.number c.index-written-number.result c.index-earlier-number.result lt (omega (arith, lt, same)) c.if-not-same.false c.loop-number.invariant

pub returns : goal.returns
returns c = λ _. all_same written_of c.args.written.now c.args.earlier.now c.loop-number.number c.if-written-earlier.false c.loop-number-test.false c.loop-number.invariant
