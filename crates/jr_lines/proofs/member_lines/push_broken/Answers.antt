use Rattle.std.proofs.Common.{◌≡◌, ◌+◌, List, take}
use Rattle.jr_bind.specs.ErrorView.{error_of}
use Rattle.jr_lines.specs.MemberLines.{IsErrorAt}
use Rattle.jr_program.proofs.Membership.{flip, any_more_at, any_end}
use Rattle.jr_lines.proofs.Adding.{adds_then, adds_as}
use Rattle.jr_lines.proofs.member_lines.push_broken.Goals as goal

pub loop-error-preserved : goal.loop-error-preserved
loop-error-preserved c = adds_as _ _ _ _ (λ x. flip (any_more_at (λ e. IsErrorAt c.args.start (error_of e) x) c.args.errors.now c.loop-error.error-index _ c.loop-error-test.true))
    (adds_then _ _ _ _ _ c.loop-error.invariant c.in_ok-push_error.ensures)

pub returns : goal.returns
returns c = adds_as _ _ _ _ (λ x. any_end (λ e. IsErrorAt c.args.start (error_of e) x) c.args.errors.now c.loop-error.error-index c.loop-error-test.false) c.loop-error.invariant
