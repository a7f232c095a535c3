use Rattle.std.proofs.Common.{ap, ◌∙◌}
use Rattle.jr_ast.specs.View.{expr_of, exprs_of}
use Rattle.jr_pexpr.specs.Machine.{with_last}
use Rattle.jr_punit_members.proofs.OwnSteps.{exprs-append}
use Rattle.jr_punit_members.proofs.args.with_last.Goals as goal

pub returns : goal.returns
returns c = ap exprs_of c.in_ok-push.ensures.items ∙ exprs-append c.args.args.items c.into_inner.result ∙ ap (λ x. with_last (exprs_of c.args.args.items) (expr_of x)) c.into_inner.ensures
