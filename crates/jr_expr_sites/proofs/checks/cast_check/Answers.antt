use Rattle.std.proofs.Common.{Bool, not, sym, ap, ◌∙◌}
use Rattle.jr_cover.specs.Sites as sites
use Rattle.jr_expr_sites.specs.KnownFacts.{place}
use Rattle.jr_expr_sites.specs.StepView.{given}
use Rattle.jr_expr_sites.specs.Routes.{Walked, begins_by, spots}
use Rattle.jr_expr_sites.specs.Routes as route
use Rattle.jr_expr_sites.proofs.Walking.{on_ok_then, walked_as}
use Rattle.jr_expr_sites.proofs.checks.cast_check.Goals as goal

pub returns-then-is_checked : goal.returns-then-is_checked
returns-then-is_checked g c =
    let G = given g.F.Facts.decls g.F.Facts.types c.args.here.now in
    let path = c.args.path.now.steps.items in
    on_ok_then c.put_site.result (λ h. walked_as G (route.done sites.checks c.args.at) (route.cast_check path c.args.at) c.args.out.now.items c.put_site.new.out.items
    (λ o. ap (λ (b : Bool). sites.unless (not b) (sites.at_place (place G c.args.at) sites.checks)) (sym (sym c.in_ok-is_checked.ensures ∙ c.if-is_checked.true))) h) (c.put_site.ensures G)

pub returns : goal.returns
returns g c =
    let G = given g.F.Facts.decls g.F.Facts.types c.args.here.now in
    let path = c.args.path.now.steps.items in
    on_ok_then c.put_nothing.result (λ h. walked_as G route.nothing (route.cast_check path c.args.at) c.args.out.now.items c.put_nothing.new.out.items
    (λ o. ap (λ (b : Bool). sites.unless (not b) (sites.at_place (place G c.args.at) sites.checks)) (sym (sym c.in_ok-is_checked.ensures ∙ c.if-is_checked.false))) h) (c.put_nothing.ensures G)
