use Rattle.std.proofs.Common.{[], ◌∷◌, ◌++◌, sym, subst}
use Rattle.jr_ast.specs.View.{expr_of}
use Rattle.jr_expr_sites.specs.StepView.{given}
use Rattle.jr_expr_sites.specs.Routes.{Walked, begins_by, spots}
use Rattle.jr_expr_sites.specs.Routes as route
use Rattle.jr_expr_sites.proofs.Walking.{on_ok_then}
use Rattle.std.specs.Global.{Global}
use Rattle.std.specs.declared.boxed.Box.{Box}
use Rattle.std.proofs.Common.{Option}
use Rattle.jr_ast.specs.declared.exprs.Expr.{Expr}
use Rattle.jr_ast.specs.View.{target_of}
use Rattle.jr_expr_sites.proofs.Arms.{target_fits}
use Rattle.jr_expr_sites.proofs.checks.receiver_check.Goals as goal

pub null_check-requires : goal.null_check-requires
null_check-requires g c = record { fits = target_fits g.A.Mark.span_from g.A.Mark.fits_at c.args.at c.args.target.now c.in-Some.part c.deref.result.now c.in-Some.is c.deref.ensures c.requires.fits }

pub returns-in-None : goal.returns-in-None
returns-in-None g c path =
    let G = given g.F.Facts.decls g.F.Facts.types c.args.here.now in
    let T = g.A.Mark.span_from in
    on_ok_then c.put_nothing.result (λ h. subst (λ (o : Option (Box (Expr g.row.A.Denot) Global)). Walked G (route.receiver_check T path c.args.at (target_of o) c.args.word) c.args.out.now.items c.put_nothing.new.out.items) (sym c.in-None.is) h) (c.put_nothing.ensures G)

pub returns-in-Some : goal.returns-in-Some
returns-in-Some g c path =
    let G = given g.F.Facts.decls g.F.Facts.types c.args.here.now in
    let T = g.A.Mark.span_from in
    on_ok_then c.null_check.result (λ h. subst (λ (o : Option (Box (Expr g.row.A.Denot) Global)). Walked G (route.receiver_check T path c.args.at (target_of o) c.args.word) c.args.out.now.items c.null_check.new.out.items) (sym c.in-Some.is)
    (subst (λ (z : Expr g.row.A.Denot). Walked G (route.null_check T (path ++ 0 ∷ []) c.args.at (expr_of z) c.args.word) c.args.out.now.items c.null_check.new.out.items) c.deref.ensures h)) (c.null_check.ensures (path ++ 0 ∷ []))
