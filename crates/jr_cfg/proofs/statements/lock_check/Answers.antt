use Rattle.std.proofs.Common.{ap, sym, ◌∙◌}
use Rattle.jr_ast.specs.View.{expr_of}
use Rattle.jr_cover.specs.Sites as sites
use Rattle.jr_expr_sites.specs.KnownFacts.{place}
use Rattle.jr_expr_sites.specs.StepView.{given}
use Rattle.jr_expr_sites.specs.Routes as plain
use Rattle.jr_cfg.specs.StatementRoutes as route
use Rattle.jr_expr_sites.proofs.Walking.{on_ok_then, walked_as}
use Rattle.jr_cfg.proofs.statements.lock_check.Goals as goal

pub returns-then-is_there : goal.returns-then-is_there
returns-then-is_there g c path =
    let T = g.A.Mark.span_from in
    let G = given g.F.Facts.decls g.F.Facts.types c.args.here.now in
    on_ok_then c.put_nothing.result (λ h. walked_as G plain.nothing (route.lock_check T path c.args.at (expr_of c.args.object.now)) c.args.out.now.items c.put_nothing.new.out.items
    (λ o. ap (λ b. sites.unless b (sites.at_place (place G c.args.at) sites.checks)) (sym (sym (c.is_never_null-is_there.ensures path) ∙ c.if-is_there.true))) h) (c.put_nothing.ensures G)

pub returns : goal.returns
returns g c path =
    let T = g.A.Mark.span_from in
    let G = given g.F.Facts.decls g.F.Facts.types c.args.here.now in
    on_ok_then c.put_site.result (λ h. walked_as G (plain.done sites.checks c.args.at) (route.lock_check T path c.args.at (expr_of c.args.object.now)) c.args.out.now.items c.put_site.new.out.items
    (λ o. ap (λ b. sites.unless b (sites.at_place (place G c.args.at) sites.checks)) (sym (sym (c.is_never_null-is_there.ensures path) ∙ c.if-is_there.false))) h) (c.put_site.ensures G)
