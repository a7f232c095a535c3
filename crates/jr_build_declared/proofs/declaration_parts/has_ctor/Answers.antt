use Rattle.jr_build_declared.specs.Fitting.{begins_by}
use Rattle.jr_build_declared.proofs.CtorLaws.{found, goes_on, none_left}
use Rattle.jr_build_declared.proofs.declaration_parts.has_ctor.Goals as goal

pub returns-then-is_ctor : goal.returns-then-is_ctor
returns-then-is_ctor g c = found (begins_by g.A.Mark.span_from) c.args.members.now c.loop-member.member-index c.member-item.result c.is_ctor.result c.loop-member-test.true c.member-item.is c.is_ctor.ensures c.if-is_ctor.true c.loop-member.invariant

pub loop-member-preserved : goal.loop-member-preserved
loop-member-preserved g c = goes_on (begins_by g.A.Mark.span_from) c.args.members.now c.loop-member.member-index c.member-item.result c.is_ctor.result c.loop-member-test.true c.member-item.is c.is_ctor.ensures c.if-is_ctor.false c.loop-member.invariant

pub returns : goal.returns
returns g c = none_left (begins_by g.A.Mark.span_from) c.args.members.now c.loop-member.member-index c.loop-member-test.false c.loop-member.invariant
