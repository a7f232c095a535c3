use Rattle.std.proofs.Common.{◌≡◌, sym}
use Rattle.std.proofs.lemmas.Result.{on_ok_weaker}
use Rattle.jr_lines.proofs.Adding.{adds_as, adds_none, reference_at, no_reference}
use Rattle.jr_lines.proofs.member_lines.push_reference.Goals as goal

pub returns-in-None : goal.returns-in-None
returns-in-None c = adds_none _ _ (λ x. no_reference c.args.text.now c.args.tokens.now c.args.member.now.start c.args.member.now.bound.references c.args.offset c.in-None.ensures x)

pub returns-in-Some : goal.returns-in-Some
returns-in-Some c = on_ok_weaker c.push_token.result (λ h. adds_as _ _ _ _ (λ x. reference_at c.args.text.now c.args.tokens.now c.args.member.now.start c.args.member.now.bound.references c.args.offset _ c.in-Some.ensures x) h) c.push_token.ensures
