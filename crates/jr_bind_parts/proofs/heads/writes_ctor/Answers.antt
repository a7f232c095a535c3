use Rattle.std.proofs.Common.{ℕ, sym, ◌∙◌}
use Rattle.jr_bind_parts.proofs.Heading.{ctor_here, ctor_behind, no_ctor}
use Rattle.jr_bind_parts.proofs.heads.writes_ctor.Goals as goal

pub returns-then-is_ctor : goal.returns-then-is_ctor
returns-then-is_ctor g c =
    let B = λ (m : g.row.A.Denot) (b : ℕ). (g.A.Mark.span_from m b).from in
    ctor_here B c.args.members.now c.loop-member.member-index c.member-item.result c.loop-member-test.true c.member-item.is (sym c.is_ctor.ensures ∙ c.if-is_ctor.true) ∙ c.loop-member.invariant

pub loop-member-preserved : goal.loop-member-preserved
loop-member-preserved g c =
    let B = λ (m : g.row.A.Denot) (b : ℕ). (g.A.Mark.span_from m b).from in
    ctor_behind B c.args.members.now c.loop-member.member-index c.member-item.result c.loop-member-test.true c.member-item.is (sym c.is_ctor.ensures ∙ c.if-is_ctor.false) ∙ c.loop-member.invariant

pub returns : goal.returns
returns g c =
    let B = λ (m : g.row.A.Denot) (b : ℕ). (g.A.Mark.span_from m b).from in
    no_ctor B c.args.members.now c.loop-member.member-index c.loop-member-test.false ∙ c.loop-member.invariant
