use Rattle.std.proofs.Common.{sym, subst}
use Rattle.jr_ast.specs.View.{expr_of, stmt_of}
use Rattle.jr_expr_sites.specs.KnownFacts.{known_of}
use Rattle.jr_expr_sites.specs.Routes as route
use Rattle.jr_expr_sites.specs.StepView.{given}
use Rattle.jr_expr_sites.proofs.Walking.{on_ok_then}
use Rattle.jr_cfg.specs.StatementRoutes as list
use Rattle.jr_piece_sites.specs.declared.pieces.Piece as raw
use Rattle.jr_piece_sites.specs.Extents.{piece_size}
use Rattle.jr_piece_sites.specs.Growth.{GrowsSo}
use Rattle.jr_piece_sites.specs.Pieces.{FitsPiece, NumbersPiece, spotted}
use Rattle.jr_piece_sites.specs.PieceView.{piece_of}
use Rattle.jr_piece_sites.proofs.Counting.{stays, way_grows}
use Rattle.jr_piece_sites.proofs.site_ranges.put_found.Goals as goal

pub stmt-requires : goal.stmt-requires
stmt-requires g c =
    record { fits = subst (λ (y : raw.Piece g.row.A.Denot). FitsPiece g.A.Mark.span_from g.A.Mark.fits_at c.args.found.base (piece_of y)) c.in-Stmt.is c.requires.fits }

pub expr-requires : goal.expr-requires
expr-requires g c =
    record { fits = subst (λ (y : raw.Piece g.row.A.Denot). FitsPiece g.A.Mark.span_from g.A.Mark.fits_at c.args.found.base (piece_of y)) c.in-Expr.is c.requires.fits }

pub returns-in-Member : goal.returns-in-Member
returns-in-Member g c =
    let T = g.A.Mark.span_from in
    let G = given g.F.Facts.decls g.F.Facts.types c.args.here.now in
    let path = c.args.path.now.steps.items in
    let base = c.args.found.base in
    let old = c.args.out.now.items in
    subst (λ (y : raw.Piece g.row.A.Denot). GrowsSo G (NumbersPiece T c.args.found.number base path (piece_of y)) (λ o. piece_size (known_of G o) (spotted T base path (piece_of y))) old old) (sym c.in-Member.is) (λ o h. stays G old o)

pub returns-in_ok-stmt-in-Stmt : goal.returns-in_ok-stmt-in-Stmt
returns-in_ok-stmt-in-Stmt g c =
    let T = g.A.Mark.span_from in
    let G = given g.F.Facts.decls g.F.Facts.types c.args.here.now in
    let path = c.args.path.now.steps.items in
    let base = c.args.found.base in
    let old = c.args.out.now.items in
    let new = c.stmt.new.out.items in
    subst (λ (y : raw.Piece g.row.A.Denot). GrowsSo G (NumbersPiece T c.args.found.number base path (piece_of y)) (λ o. piece_size (known_of G o) (spotted T base path (piece_of y))) old new) (sym c.in-Stmt.is)
    (λ o h. way_grows G old new (list.stmt T path base (stmt_of c.in-Stmt.of.now) G o) (c.in_ok-stmt-in-Stmt.ensures.walked o h))

pub returns-in-Expr : goal.returns-in-Expr
returns-in-Expr g c =
    let T = g.A.Mark.span_from in
    let G = given g.F.Facts.decls g.F.Facts.types c.args.here.now in
    let path = c.args.path.now.steps.items in
    let base = c.args.found.base in
    let old = c.args.out.now.items in
    let new = c.expr.new.out.items in
    on_ok_then c.expr.result (λ h. subst (λ (y : raw.Piece g.row.A.Denot). GrowsSo G (NumbersPiece T c.args.found.number base path (piece_of y)) (λ o. piece_size (known_of G o) (spotted T base path (piece_of y))) old new) (sym c.in-Expr.is)
    (λ o q. way_grows G old new (route.exp T path base (expr_of c.in-Expr.of.now) G o) (h o))) c.expr.ensures
