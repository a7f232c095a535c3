use Rattle.std.proofs.Common.{suc, ◌+◌, refl}
use Rattle.jr_ast.specs.View.{stmts_of}
use Rattle.jr_cover.specs.Spots.{spot_stmts}
use Rattle.jr_expr_sites.specs.StepView.{given}
use Rattle.jr_expr_sites.specs.KnownFacts.{Others, known_of}
use Rattle.jr_expr_sites.specs.Routes.{begins_by, ends_by}
use Rattle.jr_expr_sites.specs.Routes as route
use Rattle.jr_piece_sites.specs.Fronts.{stmts_front}
use Rattle.jr_piece_sites.proofs.Counting as counting
use Rattle.jr_cfg.specs.StatementRoutes.{NumberedAll}
use Rattle.jr_piece_sites.specs.Pieces.{locals_up_to}
use Rattle.jr_piece_sites.proofs.Growths as growth
use Rattle.jr_piece_sites.proofs.member_fronts.put_called_body.Goals as goal

pub put_stmts-requires : goal.put_stmts-requires
put_stmts-requires g c = record { fits = c.requires.fits }

pub returns : goal.returns
returns g c =
    let T = g.A.Mark.span_from in
    let G = given g.F.Facts.decls g.F.Facts.types c.args.here.now in
    let path = c.args.path.now.steps.items in
    let old = c.args.out.now.items in
    let mid = c.put_site.new.out.items in
    let new = c.put_stmts.new.out.items in
    let at = c.args.here.now.start in
    let n = c.args.number in
    let body = stmts_of c.args.body.now in
    let so = NumberedAll T n path c.args.first at body in
    let m = λ (o : Others). stmts_front (known_of G o) (spot_stmts (begins_by T) (ends_by T) body at path c.args.first) c.args.count in
    let next = n + locals_up_to body c.args.count in
    growth.if_ok_then c.put_stmts.result (λ k p. growth.to_as G so so (λ o. 1 + m o) (λ o. suc (m o)) next next k old new (λ o h. h) (λ o. counting.one_more (m o)) refl
    (growth.after_walk G so (λ o. 1) m next k old mid new (counting.walk_grows G (route.done _ at) old mid (c.in_ok-put_site.ensures G)) p)) c.put_stmts.ensures
