use Rattle.std.proofs.Common.{◌≡◌, ◌+◌, ℕ, [], ap, refl, subst, ◌∙◌}
use Rattle.jr_ast.specs.View.{args_of, stmts_of}
use Rattle.jr_expr_sites.specs.StepView.{given}
use Rattle.jr_cfg.specs.StatementRoutes.{NumberedAll, WalkedSo}
use Rattle.jr_cfg.specs.StatementRoutes as list
use Rattle.jr_cfg.specs.MemberRoutes as route
use Rattle.jr_expr_sites.proofs.Walking.{on_ok_then}
use Rattle.jr_cfg.proofs.Bodies as body
use Rattle.jr_cfg.proofs.members.called_body.Goals as goal

pub super_args-requires : goal.super_args-requires
super_args-requires g c = record { fits = c.requires.fits_args }

pub body_of-requires : goal.body_of-requires
body_of-requires g c = record { fits = c.requires.fits }

pub returns : goal.returns
returns g c =
    let T = g.A.Mark.span_from in
    let G = given g.F.Facts.decls g.F.Facts.types c.args.here.now in
    let at = c.args.here.now.start in
    let old = c.args.out.now.items in
    let new = c.put_row-2.new.out.items in
    let b = stmts_of c.args.body.now in
    let f = c.args.front in
    let args = args_of c.args.args.now in
    let there : c.in_ok-step.step ≡ f.step + route.arguments T args = c.in_ok-step.ensures ∙ ap (λ (n : ℕ). f.step + n) c.count_args.ensures in
    let so = λ (n : ℕ). NumberedAll T f.number [] n at b in
    let walked = subst (λ (n : ℕ). WalkedSo G (so n) (list.stmts T [] n at b) c.put_row.new.out.items c.body_of.new.out.items) there c.in_ok-body_of.ensures in
    on_ok_then c.put_row-2.result (λ h. body.constructor_goes T G (f.step + route.arguments T args) at b (so (f.step + route.arguments T args)) c.args.called f.step args refl
    old c.super_args.new.out.items c.put_site.new.out.items c.put_row.new.out.items c.body_of.new.out.items new c.in_ok-super_args.ensures (c.in_ok-put_site.ensures G) (c.in_ok-put_row.ensures G.member) walked h) (c.put_row-2.ensures G.member)
