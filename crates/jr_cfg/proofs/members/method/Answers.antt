use Rattle.std.proofs.Common.{◌≡◌, [], length, map, ap, sym, subst, ◌∙◌}
use Rattle.std.specs.Prelude.{option_map}
use Rattle.std.proofs.lemmas.List.{length-map}
use Rattle.jr_text.specs.declared.spans.Span.{Span}
use Rattle.jr_ast.specs.View.{type_of, stmts_of, modifier_of, param_of}
use Rattle.jr_expr_sites.specs.StepView.{given}
use Rattle.jr_cfg.specs.StatementRoutes.{NumberedAll, WalkedSo}
use Rattle.jr_cfg.specs.MemberRoutes as route
use Rattle.jr_expr_sites.proofs.Walking.{on_ok_then}
use Rattle.jr_cfg.proofs.Bodies as body
use Rattle.jr_cfg.proofs.members.method.Goals as goal

pub locked_body-requires : goal.locked_body-requires
locked_body-requires g c = record { fits = c.requires.fits }

pub span-word-requires : goal.span-word-requires
span-word-requires g c = c.requires.fits_name

pub returns : goal.returns
returns g c =
    let T = g.A.Mark.span_from in
    let G = given g.F.Facts.decls g.F.Facts.types c.args.here.now in
    let at = c.args.here.now.start in
    let old = c.args.out.now.items in
    let new = c.locked_body.new.out.items in
    let b = stmts_of c.args.body.now in
    let mods = c.args.modifiers.now in
    let ps = c.args.params.now in
    let t = option_map type_of c.args.result_type.now in
    let f = c.in_ok-front.front in
    let step : f.step ≡ route.method_front T (map modifier_of mods) t (map param_of ps) =
    c.in_ok-front.ensures.step ∙ body.method_front_is T (map modifier_of mods) t (map param_of ps) c.words_of.result (length mods) (length ps) c.words_of.ensures (sym (length-map mods modifier_of)) (sym (length-map ps param_of)) in
    let number : f.number ≡ length ps = c.in_ok-front.ensures.number in
    let word = ap (λ (z : Span). z.from) c.span-word.ensures in
    on_ok_then c.locked_body.result (λ h. subst (λ (X : Type 0). X) (λ i. WalkedSo G (NumberedAll T (number i) [] (step i) at b) (route.method T (c.is_synchronized-is_locked.ensures i) (step i) at (word i) c.args.last b) old new) h) c.locked_body.ensures
