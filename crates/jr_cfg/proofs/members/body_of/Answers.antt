use Rattle.std.proofs.Common.{ℕ, List, subst}
use Rattle.jr_ast.specs.View.{stmts_of}
use Rattle.jr_expr_sites.specs.StepView.{given}
use Rattle.jr_cfg.specs.StatementRoutes.{NumberedAll, WalkedSo}
use Rattle.jr_cfg.specs.StatementRoutes as list
use Rattle.jr_cfg.proofs.members.body_of.Goals as goal

pub stmts-requires : goal.stmts-requires
stmts-requires g c = record { fits = c.requires.fits }

pub returns : goal.returns
returns g c o is =
    let T = g.A.Mark.span_from in
    let G = given g.F.Facts.decls g.F.Facts.types c.args.here.now in
    let at = c.args.here.now.start in
    let old = c.args.out.now.items in
    let new = c.stmts.new.out.items in
    let b = stmts_of c.args.body.now in
    let n = c.args.front.number in
    let f = c.args.front.step in
    (subst (λ (p : List ℕ). WalkedSo G (NumberedAll T n p f at b) (list.stmts T p f at b) old new) c.top-path.ensures c.in_ok-stmts.ensures.walked) o is
