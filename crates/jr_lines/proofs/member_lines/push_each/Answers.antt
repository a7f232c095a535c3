use Rattle.std.proofs.Common.{◌≡◌, ◌+◌, List, take}
use Rattle.jr_lines.specs.MemberLines.{IsReferenceAt}
use Rattle.jr_program.proofs.Membership.{flip, any_more, any_end}
use Rattle.jr_lines.proofs.Adding.{adds_then, adds_as}
use Rattle.jr_lines.proofs.member_lines.push_each.Goals as goal

pub loop-reference-preserved : goal.loop-reference-preserved
loop-reference-preserved c = adds_as _ _ _ _ (λ x. flip (any_more (λ r. IsReferenceAt c.args.text.now c.args.tokens.now c.args.member.now.start c.args.member.now.bound.references r.at x) c.args.references.now c.loop-reference.reference-index c.reference-item.result c.loop-reference-test.true c.reference-item.is))
    (adds_then _ _ _ _ _ c.loop-reference.invariant c.in_ok-push_reference.ensures)

pub returns : goal.returns
returns c = adds_as _ _ _ _ (λ x. any_end (λ r. IsReferenceAt c.args.text.now c.args.tokens.now c.args.member.now.start c.args.member.now.bound.references r.at x) c.args.references.now c.loop-reference.reference-index c.loop-reference-test.false) c.loop-reference.invariant
