use Rattle.std.proofs.Common.{ap, ◌∙◌}
use Rattle.jr_ast.specs.View.{members_of}
use Rattle.jr_punit.proofs.ClassSteps.{members-append}
use Rattle.jr_punit.proofs.inner_class.add_member.Goals as goal

pub returns : goal.returns
returns c = ap members_of c.in_ok-push.ensures.items ∙ members-append c.args.all.now.items c.args.member
