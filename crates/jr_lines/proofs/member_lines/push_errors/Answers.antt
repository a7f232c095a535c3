use Rattle.std.proofs.Common.{◌≡◌}
use Rattle.std.proofs.lemmas.Result.{on_ok_weaker}
use Rattle.jr_lines.proofs.Adding.{adds_as, errors_kept}
use Rattle.jr_lines.proofs.member_lines.push_errors.Goals as goal

pub returns : goal.returns
returns c = on_ok_weaker c.push_broken.result (λ h. adds_as _ _ _ _ (λ x. errors_kept c.args.member.now.start c.errors.result.now c.args.member.now.bound.errors c.errors.ensures x) h) c.push_broken.ensures
