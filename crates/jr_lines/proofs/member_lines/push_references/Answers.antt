use Rattle.std.proofs.Common.{◌≡◌}
use Rattle.std.proofs.lemmas.Result.{on_ok_weaker}
use Rattle.jr_lines.proofs.Adding.{adds_as, references_kept}
use Rattle.jr_lines.proofs.member_lines.push_references.Goals as goal

pub returns : goal.returns
returns c = on_ok_weaker c.push_each.result (λ h. adds_as _ _ _ _ (λ x. references_kept c.args.text.now c.args.tokens.now c.args.member.now.start c.args.member.now.bound.references c.references.result.now c.references.ensures x) h) c.push_each.ensures
