use Rattle.std.proofs.Common.{◌≡◌, ◌+◌, [], length, map, ap, sym, subst, ◌∙◌}
use Rattle.std.proofs.lemmas.List.{length-map}
use Rattle.jr_text.specs.declared.spans.Span.{Span}
use Rattle.jr_ast.specs.View.{args_of, stmts_of, modifier_of, param_of}
use Rattle.jr_expr_sites.specs.StepView.{given}
use Rattle.jr_expr_sites.specs.Routes.{begins_by}
use Rattle.jr_cfg.specs.StatementRoutes.{NumberedAll, WalkedSo}
use Rattle.jr_cfg.specs.MemberRoutes.{call_place}
use Rattle.jr_cfg.specs.MemberRoutes as route
use Rattle.jr_expr_sites.proofs.Walking.{on_ok_then}
use Rattle.jr_cfg.proofs.Bodies as body
use Rattle.jr_cfg.proofs.members.constructor.Goals as goal

pub called_body-requires : goal.called_body-requires
called_body-requires g c = record { fits = c.requires.fits; fits_args = c.requires.fits_args }

pub span-requires : goal.span-requires
span-requires g c = c.requires.fits_name

pub returns : goal.returns
returns g c =
    let T = g.A.Mark.span_from in
    let G = given g.F.Facts.decls g.F.Facts.types c.args.here.now in
    let at = c.args.here.now.start in
    let old = c.args.out.now.items in
    let new = c.called_body.new.out.items in
    let b = stmts_of c.args.body.now in
    let mods = c.args.modifiers.now in
    let ps = c.args.params.now in
    let args = args_of c.args.args.now in
    let f = c.in_ok-front.front in
    let step : f.step ≡ route.constructor_front T (map modifier_of mods) (map param_of ps) =
    c.in_ok-front.ensures.step ∙ body.constructor_front_is T (map modifier_of mods) (map param_of ps) (length mods) (length ps) (sym (length-map mods modifier_of)) (sym (length-map ps param_of)) in
    let number : f.number ≡ length ps = c.in_ok-front.ensures.number in
    let called : c.called_at-called.result ≡ call_place args c.args.super_at (begins_by T c.args.name.now.mark at) = c.called_at-called.ensures ∙ ap (λ (z : Span). call_place args c.args.super_at z.from) c.span.ensures in
    on_ok_then c.called_body.result (λ h. subst (λ (X : Type 0). X) (λ i. WalkedSo G (NumberedAll T (number i) [] (step i + route.arguments T args) at b) (route.constructor T (step i) at (called i) args b) old new) h) c.called_body.ensures
