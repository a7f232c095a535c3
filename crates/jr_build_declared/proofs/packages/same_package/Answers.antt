use Rattle.std.proofs.Common.{◌<◌, length, subst, arith}
use Rattle.jr_build_declared.proofs.PackageLaws.{word_differs, word_same}
use Rattle.jr_build_declared.proofs.packages.same_package.Goals as goal

pub returns-then-not-same_word : goal.returns-then-not-same_word
returns-then-not-same_word g c =
    let lt = c.loop-number-test.true in let same = c.if-left-right.false in
    word_differs c.args.left.now c.args.right.now c.loop-number.number c.index-left-number.result
    c.index-right-number.result lt (omega (arith, lt, same)) c.index-left-number.is
    c.index-right-number.is c.same_word.result c.same_word.ensures c.if-not-same_word.true
    c.loop-number.invariant

pub loop-number-preserved : goal.loop-number-preserved
loop-number-preserved g c =
    let lt = c.loop-number-test.true in let same = c.if-left-right.false in
    word_same c.args.left.now c.args.right.now c.loop-number.number c.index-left-number.result
    c.index-right-number.result lt (omega (arith, lt, same)) c.index-left-number.is
    c.index-right-number.is c.same_word.result c.same_word.ensures c.if-not-same_word.false
    c.loop-number.invariant
