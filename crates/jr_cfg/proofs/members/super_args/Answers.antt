use Rattle.std.proofs.Common.{List, sym, subst}
use Rattle.jr_ast.specs.declared.exprs.Expr.{Expr}
use Rattle.jr_ast.specs.View.{exprs_of, args_of}
use Rattle.jr_bind_expr.specs.Fits.{FitsExps}
use Rattle.jr_expr_sites.specs.StepView.{given}
use Rattle.jr_expr_sites.specs.Routes.{Walked, begins_by, exps}
use Rattle.jr_cfg.specs.MemberRoutes.{FitsArgs}
use Rattle.jr_cfg.specs.MemberRoutes as route
use Rattle.jr_expr_sites.proofs.Walking.{on_ok_then}
use Rattle.jr_cfg.proofs.members.super_args.Goals as goal

pub returns-in-None : goal.returns-in-None
returns-in-None g c =
    let T = g.A.Mark.span_from in
    let G = given g.F.Facts.decls g.F.Facts.types c.args.here.now in
    let at = c.args.here.now.start in
    let old = c.args.out.now.items in
    let new = c.put_nothing.new.out.items in
    on_ok_then c.put_nothing.result (λ h. subst (λ (v : _). Walked G (route.super_args T c.args.front at (args_of v)) old new) (sym c.in-None.is) h) (c.put_nothing.ensures G)

pub exprs-requires : goal.exprs-requires
exprs-requires g c =
    let T = g.A.Mark.span_from in
    let F = g.A.Mark.fits_at in
    let at = c.args.here.now.start in
    let whole = subst (λ (v : _). FitsArgs T F at (args_of v)) c.in-Some.is c.requires.fits in
    record { fits = subst (λ (xs : List (Expr g.row.A.Denot)). FitsExps (begins_by T) F at (exprs_of xs)) (sym c.deref.ensures.value) whole }

pub returns-in-Some : goal.returns-in-Some
returns-in-Some g c =
    let T = g.A.Mark.span_from in
    let G = given g.F.Facts.decls g.F.Facts.types c.args.here.now in
    let at = c.args.here.now.start in
    let old = c.args.out.now.items in
    let new = c.exprs.new.out.items in
    let f = c.args.front in
    on_ok_then c.exprs.result (λ h. subst (λ (v : _). Walked G (route.super_args T f at (args_of v)) old new) (sym c.in-Some.is)
    (subst (λ (X : Type 0). X) (λ i. Walked G (exps T (c.top-path.ensures i) f at (exprs_of (c.deref.ensures.value i))) old new) h)) c.exprs.ensures
