use Rattle.std.proofs.Common.{ap, sym, ◌∙◌}
use Rattle.jr_ast.specs.View.{args_of}
use Rattle.jr_grammar.specs.Layout.{itself}
use Rattle.jr_cfg.specs.MemberRoutes as route
use Rattle.jr_bodies.proofs.Fronts.{count_exps}
use Rattle.jr_bodies.proofs.codes.count_args.Goals as goal

pub returns-in-None : goal.returns-in-None
returns-in-None c = sym (ap (λ (o : _). route.arguments itself (args_of o)) c.in-None.is)

pub returns-in-Some : goal.returns-in-Some
returns-in-Some c =
    c.len.ensures ∙ c.in-Some.args.ok.0 ∙ count_exps c.in-Some.args.items ∙ sym (ap (λ (o : _). route.arguments itself (args_of o)) c.in-Some.is)
