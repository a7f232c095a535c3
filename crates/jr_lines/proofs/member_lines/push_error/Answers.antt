use Rattle.std.proofs.Common.{◌≡◌}
use Rattle.jr_bind.specs.ErrorView.{error_of}
use Rattle.jr_lines.proofs.Adding.{adds_one, error_line}
use Rattle.jr_lines.proofs.member_lines.push_error.Goals as goal

pub returns : goal.returns
returns c = adds_one _ _ _ _ c.in_ok-push.ensures.items (λ x. error_line c.args.start (error_of c.args.error) x)
