use Rattle.std.proofs.Common.{◌≡◌, ◌+◌, List, take, map, sym, ap, subst}
use Rattle.std.specs.Prelude.{◌↔◌}
use Rattle.jr_lines.specs.Lines.{Line, Among}
use Rattle.jr_lines.specs.LineView.{lines_of}
use Rattle.jr_lines.specs.MemberLines.{IsMemberLine}
use Rattle.jr_program.proofs.Membership.{chain, flip, both, any_more, any_end}
use Rattle.jr_lines.proofs.MemberSums.{line_of_members}
use Rattle.jr_lines.proofs.member_lines.lines_in.Goals as goal

pub loop-member-init : goal.loop-member-init
loop-member-init c = λ x. subst (λ ls. Among (lines_of ls) x ↔ ⊥) (sym c.new-lines.ensures.items) (λ h. h, λ h. h)

pub loop-member-preserved : goal.loop-member-preserved
loop-member-preserved c = λ x. chain (c.in_ok-push_member.ensures.each x)
    (chain (both (c.loop-member.invariant x) (λ p. p, λ p. p))
    (flip (any_more (λ b. IsMemberLine c.args.text.now c.args.tokens.now b c.args.file x) c.args.members.now c.loop-member.member-index c.member-item.result c.loop-member-test.true c.member-item.is)))

pub returns : goal.returns
returns c = λ x. chain (c.loop-member.invariant x) (chain (any_end (λ b. IsMemberLine c.args.text.now c.args.tokens.now b c.args.file x) c.args.members.now c.loop-member.member-index c.loop-member-test.false) (line_of_members c.args.text.now c.args.tokens.now c.args.file c.args.members.now x))
