use Rattle.jr_ast.specs.View.{expr_of}
use Rattle.jr_expr_sites.specs.StepView.{given}
use Rattle.jr_expr_sites.specs.Routes.{Walked, begins_by, spots}
use Rattle.jr_expr_sites.specs.Routes as route
use Rattle.jr_expr_sites.proofs.Walking.{on_ok_then, row_goes}
use Rattle.jr_expr_sites.proofs.checks.checked_load.Goals as goal

pub returns : goal.returns
returns g c path =
    let G = given g.F.Facts.decls g.F.Facts.types c.args.here.now in
    let T = g.A.Mark.span_from in
    let e = expr_of c.args.of.now in
    on_ok_then c.put_row.result (λ h. row_goes G (route.field_check T path c.args.base e c.args.word) (route.field_load c.args.word) c.args.out.now.items c.field_check.new.out.items c.field_load.new.out.items c.put_row.new.out.items (c.in_ok-field_check.ensures path) c.in_ok-field_load.ensures h) (c.put_row.ensures G.member)
