use Rattle.std.proofs.Common.{[], Bool, sym, subst}
use Rattle.jr_ast.specs.View.{stmts_of}
use Rattle.jr_expr_sites.specs.StepView.{given}
use Rattle.jr_cfg.specs.StatementRoutes.{NumberedAll, WalkedSo}
use Rattle.jr_cfg.specs.MemberRoutes as route
use Rattle.jr_expr_sites.proofs.Walking.{on_ok_then}
use Rattle.jr_cfg.proofs.Bodies as body
use Rattle.jr_cfg.proofs.members.locked_body.Goals as goal

pub body_of-requires : goal.body_of-requires
body_of-requires g c = record { fits = c.requires.fits }

pub body_of-requires-2 : goal.body_of-requires-2
body_of-requires-2 g c = record { fits = c.requires.fits }

pub returns-then-not-is_locked : goal.returns-then-not-is_locked
returns-then-not-is_locked g c =
    let T = g.A.Mark.span_from in
    let G = given g.F.Facts.decls g.F.Facts.types c.args.here.now in
    let at = c.args.here.now.start in
    let old = c.args.out.now.items in
    let new = c.body_of.new.out.items in
    let b = stmts_of c.args.body.now in
    let f = c.args.front in
    on_ok_then c.body_of.result (λ h. subst (λ (l : Bool). WalkedSo G (NumberedAll T f.number [] f.step at b) (route.method T l f.step at c.args.word c.args.last b) old new) (sym c.if-not-is_locked.true) h) c.body_of.ensures

pub returns : goal.returns
returns g c =
    let T = g.A.Mark.span_from in
    let G = given g.F.Facts.decls g.F.Facts.types c.args.here.now in
    let at = c.args.here.now.start in
    let old = c.args.out.now.items in
    let new = c.put-2.new.out.items in
    let b = stmts_of c.args.body.now in
    let f = c.args.front in
    let so = NumberedAll T f.number [] f.step at b in
    on_ok_then c.put-2.result (λ h. subst (λ (l : Bool). WalkedSo G so (route.method T l f.step at c.args.word c.args.last b) old new) (sym c.if-not-is_locked.false)
    (body.locked_goes T G f.step at b so c.args.word c.args.last old c.put.new.out.items c.body_of-2.new.out.items new (c.in_ok-put.ensures G.member) c.in_ok-body_of.ensures h)) (c.put-2.ensures G.member)
