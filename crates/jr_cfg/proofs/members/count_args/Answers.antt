use Rattle.std.proofs.Common.{ap, sym, ◌∙◌}
use Rattle.jr_ast.specs.View.{args_of}
use Rattle.jr_expr_sites.specs.Routes.{begins_by, ends_by}
use Rattle.jr_cfg.specs.MemberRoutes as route
use Rattle.jr_cfg.proofs.Bodies as body
use Rattle.jr_cfg.proofs.members.count_args.Goals as goal

pub returns-in-None : goal.returns-in-None
returns-in-None g c = sym (ap (λ (o : _). route.arguments g.A.Mark.span_from (args_of o)) c.in-None.is)

pub returns-in-Some : goal.returns-in-Some
returns-in-Some g c =
    c.len.ensures ∙ c.in-Some.args.ok.0 ∙ body.count_exps (begins_by g.A.Mark.span_from) (ends_by g.A.Mark.span_from) c.in-Some.args.items ∙ sym (ap (λ (o : _). route.arguments g.A.Mark.span_from (args_of o)) c.in-Some.is)
