use Rattle.std.proofs.Common.{Bool, ◌||◌, sym, ap, ◌∙◌}
use Rattle.jr_ast.specs.View.{expr_of}
use Rattle.jr_cover.specs.Sites as sites
use Rattle.jr_expr_sites.specs.KnownFacts.{place}
use Rattle.jr_expr_sites.specs.StepView.{given}
use Rattle.jr_expr_sites.specs.Routes.{Walked, begins_by, spots}
use Rattle.jr_expr_sites.specs.Routes as route
use Rattle.jr_expr_sites.proofs.Walking.{on_ok_then, walked_as}
use Rattle.jr_expr_sites.proofs.checks.null_check.Goals as goal

pub returns-then-is_safe : goal.returns-then-is_safe
returns-then-is_safe g c path =
    let G = given g.F.Facts.decls g.F.Facts.types c.args.here.now in
    let T = g.A.Mark.span_from in
    let s = spots T path c.args.base (expr_of c.args.of.now) in
    let p = place G c.args.word in
    on_ok_then c.put_nothing.result (λ h. walked_as G route.nothing (route.null_check T path c.args.base (expr_of c.args.of.now) c.args.word) c.args.out.now.items c.put_nothing.new.out.items
    (λ o. ap (λ (b : Bool). sites.unless b (sites.at_place p sites.checks)) (sym ((λ i. (sym (c.is_class_name-is_class.ensures o path) i || sym (c.is_never_null-is_there.ensures path) i)) ∙ c.if-is_safe.true))) h) (c.put_nothing.ensures G)

pub returns : goal.returns
returns g c path =
    let G = given g.F.Facts.decls g.F.Facts.types c.args.here.now in
    let T = g.A.Mark.span_from in
    let s = spots T path c.args.base (expr_of c.args.of.now) in
    let p = place G c.args.word in
    on_ok_then c.put_site.result (λ h. walked_as G (route.done sites.checks c.args.word) (route.null_check T path c.args.base (expr_of c.args.of.now) c.args.word) c.args.out.now.items c.put_site.new.out.items
    (λ o. ap (λ (b : Bool). sites.unless b (sites.at_place p sites.checks)) (sym ((λ i. (sym (c.is_class_name-is_class.ensures o path) i || sym (c.is_never_null-is_there.ensures path) i)) ∙ c.if-is_safe.false))) h) (c.put_site.ensures G)
