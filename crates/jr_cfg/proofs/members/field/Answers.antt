use Rattle.std.proofs.Common.{◌≡◌, suc, length, map, Option, sym, subst, ◌∙◌}
use Rattle.std.specs.Prelude.{option_map}
use Rattle.std.proofs.lemmas.List.{length-map}
use Rattle.jr_ast.specs.declared.exprs.Expr.{Expr}
use Rattle.jr_ast.specs.View.{expr_of, modifier_of}
use Rattle.jr_bind_expr.specs.Fits.{FitsMaybe}
use Rattle.jr_expr_sites.specs.StepView.{given}
use Rattle.jr_expr_sites.specs.Routes.{Walked, begins_by}
use Rattle.jr_cfg.specs.MemberRoutes as route
use Rattle.jr_expr_sites.proofs.Walking.{on_ok_then}
use Rattle.jr_cfg.proofs.Bodies as body
use Rattle.jr_cfg.proofs.members.field.Goals as goal

pub returns-in-None : goal.returns-in-None
returns-in-None g c k is =
    let T = g.A.Mark.span_from in
    let G = given g.F.Facts.decls g.F.Facts.types c.args.here.now in
    let at = c.args.here.now.start in
    let old = c.args.out.now.items in
    let new = c.put_nothing.new.out.items in
    let word = begins_by T c.args.name.now.mark at in
    on_ok_then c.put_nothing.result (λ h. subst (λ (v : Option (Expr g.row.A.Denot)). Walked G (route.field T (map modifier_of c.args.modifiers.now) at word k (option_map expr_of v)) old new) (sym c.in-None.is) h) (c.put_nothing.ensures G)

pub initializer-requires : goal.initializer-requires
initializer-requires g c =
    let F = g.A.Mark.fits_at in
    record {
      fits = subst (λ (v : Option (Expr g.row.A.Denot)). FitsMaybe (begins_by g.A.Mark.span_from) F c.args.here.now.start (option_map expr_of v)) c.in-Some.is c.requires.fits;
      fits_name = c.requires.fits_name;
    }

pub returns-in_ok-step-in-Some : goal.returns-in_ok-step-in-Some
returns-in_ok-step-in-Some g c k is =
    let T = g.A.Mark.span_from in
    let G = given g.F.Facts.decls g.F.Facts.types c.args.here.now in
    let at = c.args.here.now.start in
    let old = c.args.out.now.items in
    let new = c.initializer.new.out.items in
    let word = begins_by T c.args.name.now.mark at in
    let mods = c.args.modifiers.now in
    let e = expr_of c.in-Some.init in
    let step : c.in_ok-step-in-Some.step ≡ suc (suc (length (map modifier_of mods))) = c.in_ok-step-in-Some.ensures ∙ body.behind_two (length mods) (length (map modifier_of mods)) (sym (length-map mods modifier_of)) in
    on_ok_then c.initializer.result (λ h. subst (λ (v : Option (Expr g.row.A.Denot)). Walked G (route.field T (map modifier_of mods) at word k (option_map expr_of v)) old new) (sym c.in-Some.is)
    (subst (λ (X : Type 0). X) (λ i. Walked G (route.initializer T (c.is_static.ensures i) (step i) at word k e) old new) h)) (c.initializer.ensures k is)
