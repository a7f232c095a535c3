use Rattle.jr_build_declared.specs.DeclarationFaults.{May}
use Rattle.jr_build_declared.proofs.WordLaws.{other_found, other_left, no_other}
use Rattle.jr_build_declared.proofs.member_words.has_other.Goals as goal

pub returns-then-not-may : goal.returns-then-not-may
returns-then-not-may c = other_found c.args.words.now c.loop-word.word-index _ (May c.args.allowed)
    c.may.result c.loop-word-test.true c.may.ensures c.if-not-may.true

pub loop-word-preserved : goal.loop-word-preserved
loop-word-preserved c = other_left c.args.words.now c.loop-word.word-index _ (May c.args.allowed)
    c.may.result c.loop-word-test.true c.may.ensures c.if-not-may.false c.loop-word.invariant

pub returns : goal.returns
returns c = no_other (May c.args.allowed) c.args.words.now c.loop-word.word-index
    c.loop-word-test.false c.loop-word.invariant
