use Rattle.std.proofs.Common.{List, [], ◌<◌, length, sym, subst, arith}
use Rattle.jr_dependences.specs.declared.summing.Sums.{Sums}
use Rattle.jr_dependences.specs.Summed.{AreKept, given_of}
use Rattle.jr_dependences.proofs.SumLaws.{none_kept}
use Rattle.jr_dependences.proofs.TogetherLaws.{none_weighed, more_weighed, all_weighed}
use Rattle.jr_dependences.proofs.together.weigh_all.Goals as goal

pub loop-first-init : goal.loop-first-init
loop-first-init c = (none_kept c.args.of.now.sites.now c.args.of.now.lens.now _ c.new-kept.ensures.items, λ edges known. none_weighed (given_of edges c.args.of.now) c.args.each)

pub weigh_on-requires-clause-kept : goal.weigh_on-requires-clause-kept
weigh_on-requires-clause-kept c = c.loop-first.invariant.0

pub loop-first-preserved : goal.loop-first-preserved
loop-first-preserved c = (
  c.in_ok-more.ensures.kept,
  λ edges known. more_weighed (given_of edges c.args.of.now) c.args.each c.loop-first.first _ c.loop-first.total _ _ c.in_ok-front.ensures c.in_ok-total.ensures (c.loop-first.invariant.1 edges known) (c.in_ok-more.ensures.weighs edges known),
)

pub returns : goal.returns
returns c edges known = all_weighed (given_of edges c.args.of.now) c.args.each c.loop-first.first c.loop-first.total (omega (arith, c.loop-first-test.false)) (c.loop-first.invariant.1 edges known)
