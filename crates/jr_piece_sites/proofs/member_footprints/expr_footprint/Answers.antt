use Rattle.std.proofs.Common.{◌≡◌, List, ◌++◌, map, ap, subst, ◌∙◌}
use Rattle.std.specs.Prelude.{IfOk}
use Rattle.jr_ast.specs.View.{expr_of}
use Rattle.jr_code.specs.RunKeys.{RunKeys}
use Rattle.jr_cover.specs.Sites.{Site}
use Rattle.jr_sites.specs.SiteView.{placed_of}
use Rattle.jr_cfg.specs.Placed.{placed}
use Rattle.jr_expr_sites.specs.declared.step.Step as raw_step
use Rattle.jr_expr_sites.specs.Routes as route
use Rattle.jr_expr_sites.specs.Steps.{sites_in, steps_of}
use Rattle.jr_expr_sites.specs.StepView.{given, steps_in}
use Rattle.jr_cfg.proofs.StepLaws.{sites_of_steps}
use Rattle.jr_piece_sites.proofs.member_footprints.expr_footprint.Goals as goal

pub expr-requires : goal.expr-requires
expr-requires g c = record { fits = c.requires.fits }

pub returns : goal.returns
returns g c o =
    let G = given g.F.Facts.decls g.F.Facts.types c.args.here.now in
    let w = route.exp g.A.Mark.span_from c.args.path.now.steps.items c.args.base (expr_of c.args.of.now) G o in
    let steps = ap (λ (l : List raw_step.Step). steps_in G.member l) c.deref.ensures.value ∙ c.in_ok-expr.ensures o
    ∙ ap (λ (l : List raw_step.Step). steps_in G.member l ++ steps_of w) c.new-steps.ensures.items in
    subst (λ (l : List (Site RunKeys)). IfOk c.placed_sites.result (λ v. map placed_of v.items ≡ map (placed G) l)) (ap sites_in steps ∙ sites_of_steps w) c.placed_sites.ensures
