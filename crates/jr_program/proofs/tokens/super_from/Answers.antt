use Rattle.jr_program.proofs.SuperWords.{super_here, super_behind, super_nowhere}
use Rattle.jr_program.proofs.tokens.super_from.Goals as goal

pub returns-then-is_super_from-clause-some : goal.returns-then-is_super_from-clause-some
returns-then-is_super_from-clause-some c = super_here c.args.items.now c.args.from c.requires c.loop-item.item-index _ c.loop-item-test.true c.loop-item.invariant (c.is_super_from.ensures.0 c.if-is_super_from.true)

pub loop-item-preserved : goal.loop-item-preserved
loop-item-preserved c = super_behind c.args.items.now c.args.from c.loop-item.item-index _ c.is_super_from.result c.loop-item.invariant c.is_super_from.ensures c.if-is_super_from.false

pub returns-clause-none : goal.returns-clause-none
returns-clause-none c = super_nowhere c.args.items.now c.args.from c.loop-item.item-index c.loop-item-test.false c.loop-item.invariant
