use Rattle.std.proofs.Common.{sym, ap, option_map, subst, ◌∙◌}
use Rattle.std.specs.Prelude.{IsTrue}
use Rattle.jr_ast.specs.View.{expr_of, member_of, stmt_of}
use Rattle.jr_piece_sites.proofs.Reaching.{at_exp, some_stmt}
use Rattle.jr_reading_tests.proofs.parts.leads.Goals as goal

pub returns-in-Some : goal.returns-in-Some
returns-in-Some c t =
    at_exp (member_of c.args.of.now) c.requires c.args.path.now.steps.items _ (sym c.expr_at.ensures ∙ ap (option_map (λ x. expr_of x.now)) c.in-Some.is)

pub returns-in-None : goal.returns-in-None
returns-in-None c t =
    some_stmt (member_of c.args.of.now) c.requires c.args.path.now.steps.items (λ x. stmt_of x.now) c.stmt_at.result c.stmt_at.ensures (subst IsTrue c.is_some.ensures t)
