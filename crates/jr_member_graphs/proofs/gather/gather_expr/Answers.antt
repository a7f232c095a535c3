use Rattle.jr_ast.specs.View.{expr_of}
use Rattle.jr_expr_sites.specs.StepView.{given}
use Rattle.jr_expr_sites.proofs.Walking.{on_ok_then}
use Rattle.jr_member_graphs.proofs.Gathered as gathered
use Rattle.jr_member_graphs.proofs.gather.gather_expr.Goals as goal

pub expr-requires : goal.expr-requires
expr-requires g c = record { fits = c.requires.fits }

pub returns : goal.returns
returns g c =
    let T = g.A.Mark.span_from in
    let G = given g.F.Facts.decls g.F.Facts.types c.args.here.now in
    on_ok_then c.expr.result (λ h. gathered.exp_noted G T c.no_path-path.result.steps.items c.args.base (expr_of c.args.of.now) c.args.steps.now.items c.expr.new.out.items h) c.expr.ensures
