use Rattle.std.proofs.Common.{[], ◌∷◌, ◌++◌, Option, ap, sym, subst, ◌∙◌, append_assoc}
use Rattle.std.specs.Prelude.{option_map}
use Rattle.jr_ast.specs.declared.exprs.Expr.{Expr}
use Rattle.jr_ast.specs.View.{expr_of}
use Rattle.jr_bind_expr.specs.Fits.{FitsMaybe}
use Rattle.jr_expr_sites.specs.Steps as step
use Rattle.jr_expr_sites.specs.Steps.{steps_of}
use Rattle.jr_expr_sites.specs.StepView.{given, steps_in}
use Rattle.jr_expr_sites.specs.Routes.{Walked, begins_by, exp}
use Rattle.jr_cfg.specs.StatementRoutes as route
use Rattle.jr_expr_sites.proofs.Walking.{on_ok_then, Seen}
use Rattle.jr_cfg.proofs.statements.returned.Goals as goal

pub returns-in-None : goal.returns-in-None
returns-in-None g c =
    let T = g.A.Mark.span_from in
    let G = given g.F.Facts.decls g.F.Facts.types c.args.here.now in
    let path = c.args.path.now.steps.items in
    on_ok_then c.put.result (λ h. subst (λ (v : Option (Expr g.row.A.Denot)). Walked G (route.returned T path c.args.at (option_map expr_of v)) c.args.out.now.items c.put.new.out.items) (sym c.in-None.is) (λ o. h)) (c.put.ensures G.member)

pub operand-requires : goal.operand-requires
operand-requires g c = record { fits = subst (λ (v : Option (Expr g.row.A.Denot)). FitsMaybe (begins_by g.A.Mark.span_from) g.A.Mark.fits_at c.args.at (option_map expr_of v)) c.in-Some.is c.requires.fits }

pub returns-in_ok-put-in-Some : goal.returns-in_ok-put-in-Some
returns-in_ok-put-in-Some g c =
    let T = g.A.Mark.span_from in
    let G = given g.F.Facts.decls g.F.Facts.types c.args.here.now in
    let path = c.args.path.now.steps.items in
    let e = expr_of c.in-Some.value in
    on_ok_then c.put_row.result (λ h. subst (λ (v : Option (Expr g.row.A.Denot)). Walked G (route.returned T path c.args.at (option_map expr_of v)) c.args.out.now.items c.put_row.new.out.items) (sym c.in-Some.is)
    (λ o. h ∙ ap (λ (l : Seen). l ++ step.row ∷ []) (c.in_ok-put-in-Some.ensures G.member ∙ ap (λ (l : Seen). l ++ step.leave ∷ []) (c.in_ok-operand-in-Some.ensures o))
    ∙ append_assoc (steps_in G.member c.args.out.now.items ++ steps_of (exp T (path ++ 0 ∷ []) c.args.at e G o)) (step.leave ∷ []) (step.row ∷ []) ∙ append_assoc (steps_in G.member c.args.out.now.items) (steps_of (exp T (path ++ 0 ∷ []) c.args.at e G o)) (step.leave ∷ step.row ∷ []))) (c.put_row.ensures G.member)
