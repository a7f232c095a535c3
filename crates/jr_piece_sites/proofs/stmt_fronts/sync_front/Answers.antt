use Rattle.std.proofs.Common.{ℕ, pred, ◌+◌, [], ◌∷◌, ◌++◌, ap}
use Rattle.jr_ast.specs.View.{expr_of, stmts_of}
use Rattle.jr_cover.specs.Spots.{spot_stmts}
use Rattle.jr_cover.specs.Ways.{size}
use Rattle.jr_expr_sites.specs.StepView.{given}
use Rattle.jr_expr_sites.specs.KnownFacts.{Others, known_of}
use Rattle.jr_expr_sites.specs.Routes.{begins_by, ends_by}
use Rattle.jr_expr_sites.specs.Routes as route
use Rattle.jr_cfg.specs.StatementRoutes as list
use Rattle.jr_piece_sites.specs.Fronts.{behind_first, stmts_front}
use Rattle.jr_piece_sites.proofs.Counting as counting
use Rattle.jr_cfg.specs.StatementRoutes.{NumberedAll}
use Rattle.jr_piece_sites.specs.Pieces.{locals_up_to}
use Rattle.jr_piece_sites.proofs.Growths as growth
use Rattle.jr_piece_sites.proofs.stmt_fronts.sync_front.Goals as goal

pub operand-requires : goal.operand-requires
operand-requires g c = record { fits = c.requires.fits }

pub put_entry-requires : goal.put_entry-requires
put_entry-requires g c = record { fits = c.requires.fits }

pub put_stmts-requires : goal.put_stmts-requires
put_stmts-requires g c = record { fits = c.requires.fits_body }

pub returns-in-None : goal.returns-in-None
returns-in-None g c =
    let T = g.A.Mark.span_from in
    let G = given g.F.Facts.decls g.F.Facts.types c.args.here.now in
    let path = c.args.path.now.steps.items in
    let old = c.args.out.now.items in
    let at = c.args.at in
    let n = c.args.number in
    let i = c.args.part in
    let e = expr_of c.args.object.now in
    let body = stmts_of c.args.body.now in
    let so = NumberedAll T n path 1 at body in
    let a = λ (o : Others). size (route.exp T (path ++ 0 ∷ []) at e G o) in
    let b = λ (o : Others). size (list.lock_check T (path ++ 0 ∷ []) at e G o) in
    let m = λ (o : Others) (j : ℕ). stmts_front (known_of G o) (spot_stmts (begins_by T) (ends_by T) body at path 1) j in
    let whole = λ (o : Others). behind_first i (a o + (b o + (1 + m o (pred i)))) in
    let none = growth.is_zero i c.in-None.ensures in
    growth.to_as G so so (λ o. 0) whole n (n + locals_up_to body (pred i)) n old old (λ o h. h) (λ o. counting.none_first i (a o + (b o + (1 + m o (pred i)))) none) (growth.no_locals_first body n i none) (growth.not_moved G so n old)

pub returns-in_ok-put_entry-in-Some : goal.returns-in_ok-put_entry-in-Some
returns-in_ok-put_entry-in-Some g c =
    let T = g.A.Mark.span_from in
    let G = given g.F.Facts.decls g.F.Facts.types c.args.here.now in
    let path = c.args.path.now.steps.items in
    let old = c.args.out.now.items in
    let at = c.args.at in
    let n = c.args.number in
    let i = c.args.part in
    let e = expr_of c.args.object.now in
    let body = stmts_of c.args.body.now in
    let so = NumberedAll T n path 1 at body in
    let a = λ (o : Others). size (route.exp T (path ++ 0 ∷ []) at e G o) in
    let b = λ (o : Others). size (list.lock_check T (path ++ 0 ∷ []) at e G o) in
    let m = λ (o : Others) (j : ℕ). stmts_front (known_of G o) (spot_stmts (begins_by T) (ends_by T) body at path 1) j in
    let whole = λ (o : Others). behind_first i (a o + (b o + (1 + m o (pred i)))) in
    let one = c.operand.new.out.items in
    let two = c.put_entry.new.out.items in
    let new = c.put_stmts.new.out.items in
    let j = c.in-Some.count in
    growth.if_ok_then c.put_stmts.result (λ k p. growth.to_as G so so (λ o. a o + (b o + 1 + m o j)) whole (n + locals_up_to body j) (n + locals_up_to body (pred i)) k old new (λ o h. h)
    (λ o. growth.sync_sum i (a o) (b o) (m o) j c.in-Some.ensures.0 c.in-Some.ensures.1) (ap (λ (q : ℕ). n + locals_up_to body q) (growth.pred_of i j c.in-Some.ensures.0 c.in-Some.ensures.1))
    (growth.after_walk G so a (λ o. b o + 1 + m o j) (n + locals_up_to body j) k old one new (counting.walk_grows G (route.exp T (path ++ 0 ∷ []) at e) old one c.in_ok-operand-in-Some.ensures)
    (growth.after_walk G so (λ o. b o + 1) (λ o. m o j) (n + locals_up_to body j) k one two new (c.in_ok-put_entry-in-Some.ensures (path ++ 0 ∷ [])) p))) c.put_stmts.ensures
