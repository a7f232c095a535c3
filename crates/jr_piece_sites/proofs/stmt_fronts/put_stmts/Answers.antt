use Rattle.std.proofs.Common.{ℕ, ◌+◌, List, ap, sym, subst, ◌∙◌}
use Rattle.jr_ast.specs.declared.stmts.Stmt.{Stmt}
use Rattle.jr_ast.specs.View.{stmts_of}
use Rattle.jr_bind_expr.specs.Fits.{FitsStmts}
use Rattle.jr_cover.specs.Sites.{stmts_way}
use Rattle.jr_cover.specs.Spots.{spot_stmts}
use Rattle.jr_cover.specs.Ways.{size}
use Rattle.jr_expr_sites.specs.StepView.{given}
use Rattle.jr_expr_sites.specs.KnownFacts.{Others, known_of}
use Rattle.jr_expr_sites.specs.Routes.{begins_by, ends_by}
use Rattle.jr_cfg.specs.StatementRoutes as list
use Rattle.jr_piece_sites.specs.Fronts.{stmts_front}
use Rattle.jr_piece_sites.proofs.Counting as counting
use Rattle.jr_table.specs.Context.{locals_in_row}
use Rattle.jr_cfg.specs.StatementRoutes.{NumberedAll}
use Rattle.jr_piece_sites.specs.Pieces.{locals_up_to}
use Rattle.jr_piece_sites.proofs.Growths as growth
use Rattle.jr_piece_sites.proofs.stmt_fronts.put_stmts.Goals as goal

pub stmts-requires : goal.stmts-requires
stmts-requires g c =
    let T = g.A.Mark.span_from in
    let F = g.A.Mark.fits_at in
    record { fits = subst (λ (xs : List (Stmt g.row.A.Denot)). FitsStmts (begins_by T) F c.args.at (stmts_of xs)) (sym c.first_ones-front.ensures) (counting.first_stmts_fit (begins_by T) F c.args.at c.args.body.now c.args.count c.requires.fits) }

pub returns : goal.returns
returns g c =
    let T = g.A.Mark.span_from in
    let G = given g.F.Facts.decls g.F.Facts.types c.args.here.now in
    let path = c.args.path.now.steps.items in
    let old = c.args.out.now.items in
    let new = c.stmts.new.out.items in
    let f = c.args.first in
    let at = c.args.at in
    let n = c.args.number in
    let body = c.args.body.now in
    let front = c.first_ones-front.result.now in
    let is = c.first_ones-front.ensures in
    let some = λ (xs : List (Stmt g.row.A.Denot)) (o : Others). NumberedAll T n path f at (stmts_of xs) o in
    growth.if_ok_then c.stmts.result (λ k p. growth.to_as G (some front) (some body) (λ o. size (list.stmts T path f at (stmts_of front) G o)) (λ o. stmts_front (known_of G o) (spot_stmts (begins_by T) (ends_by T) (stmts_of body) at path f) c.args.count)
    (n + locals_in_row (stmts_of front)) (n + locals_up_to (stmts_of body) c.args.count) k old new
    (λ o h. subst (λ (xs : List (Stmt g.row.A.Denot)). some xs o) (sym is) (counting.first_numbers (begins_by T) (ends_by T) o.number at path body n f c.args.count h))
    (λ o. ap (λ (xs : List (Stmt g.row.A.Denot)). size (stmts_way (known_of G o) (spot_stmts (begins_by T) (ends_by T) (stmts_of xs) at path f))) is ∙ counting.first_stmts (known_of G o) (begins_by T) (ends_by T) at path body f c.args.count)
    (ap (λ (xs : List (Stmt g.row.A.Denot)). n + locals_in_row (stmts_of xs)) is ∙ ap (λ (j : ℕ). n + j) (counting.first_locals body c.args.count))
    (growth.passed_to G (some front) (list.stmts T path f at (stmts_of front)) (n + locals_in_row (stmts_of front)) k old new p)) c.stmts.ensures
