use Rattle.jr_build_declared.proofs.WordLaws.{twice_found, twice_left, no_twice}
use Rattle.jr_build_declared.proofs.member_words.has_twice.Goals as goal

pub returns-then-has_word : goal.returns-then-has_word
returns-then-has_word c = twice_found c.args.words.now c.loop-number.number _ c.has_word.result
    c.loop-number-test.true c.has_word.ensures c.if-has_word.true

pub loop-number-preserved : goal.loop-number-preserved
loop-number-preserved c = twice_left c.args.words.now c.loop-number.number _ c.has_word.result
    c.loop-number-test.true c.has_word.ensures c.if-has_word.false c.loop-number.invariant

pub returns : goal.returns
returns c = no_twice c.args.words.now c.loop-number.number c.loop-number-test.false
    c.loop-number.invariant
