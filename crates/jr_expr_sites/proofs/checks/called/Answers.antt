use Rattle.jr_cover.specs.Sites as sites
use Rattle.jr_expr_sites.specs.StepView.{given}
use Rattle.jr_expr_sites.specs.Routes.{Walked, begins_by, spots}
use Rattle.jr_expr_sites.specs.Routes as route
use Rattle.jr_expr_sites.proofs.Walking.{on_ok_then, row_goes}
use Rattle.jr_ast.specs.View.{target_of}
use Rattle.jr_expr_sites.proofs.checks.called.Goals as goal

pub returns : goal.returns
returns g c path =
    let G = given g.F.Facts.decls g.F.Facts.types c.args.here.now in
    let T = g.A.Mark.span_from in
    let to = target_of c.args.target.now in
    on_ok_then c.put_row.result (λ h. row_goes G (route.receiver_check T path c.args.at to c.args.word) (route.done sites.calls c.args.word) c.args.out.now.items c.receiver_check.new.out.items c.put_site.new.out.items c.put_row.new.out.items (c.in_ok-receiver_check.ensures path) (c.in_ok-put_site.ensures G) h) (c.put_row.ensures G.member)
