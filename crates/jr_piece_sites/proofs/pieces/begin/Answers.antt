use Rattle.std.proofs.Common.{ap, sym, subst, ◌∙◌}
use Rattle.jr_text.specs.declared.spans.Span.{Span}
use Rattle.jr_ast.specs.View.{member_of, stmt_of}
use Rattle.jr_ast.proofs.Rows.{expr_mark_is, stmt_mark_is, member_mark_is}
use Rattle.jr_bind_expr.proofs.Steps.{own_fits}
use Rattle.jr_expr_sites.specs.Routes.{begins_by}
use Rattle.jr_piece_sites.specs.Pieces as pure
use Rattle.jr_piece_sites.specs.Pieces.{FitsPiece}
use Rattle.jr_piece_sites.specs.PieceView.{piece_of}
use Rattle.jr_piece_sites.proofs.Fitting.{stmt_own, member_own}
use Rattle.jr_piece_sites.proofs.pieces.begin.Goals as goal

pub span-requires : goal.span-requires
span-requires g c =
    let T = g.A.Mark.span_from in
    let F = g.A.Mark.fits_at in
    let fits = subst (λ p. FitsPiece T F c.args.base (piece_of p)) c.in-Member.is c.requires.fits in
    subst (λ (m : g.row.A.Denot). F m c.args.base) (member_mark_is c.in-Member.of.now) (member_own T F c.args.base (member_of c.in-Member.of.now) fits)

pub returns-in-Member : goal.returns-in-Member
returns-in-Member g c =
    let T = g.A.Mark.span_from in
    ap (λ (z : Span). z.from) c.span.ensures ∙ ap (λ (k : g.row.A.Denot). begins_by T k c.args.base) (sym (member_mark_is c.in-Member.of.now)) ∙ ap (λ p. begins_by T (pure.mark_of (piece_of p)) c.args.base) (sym c.in-Member.is)

pub span-requires-in-Stmt : goal.span-requires-in-Stmt
span-requires-in-Stmt g c =
    let T = g.A.Mark.span_from in
    let F = g.A.Mark.fits_at in
    let fits = subst (λ p. FitsPiece T F c.args.base (piece_of p)) c.in-Stmt.is c.requires.fits in
    subst (λ (m : g.row.A.Denot). F m c.args.base) (stmt_mark_is c.in-Stmt.of.now) (stmt_own T F c.args.base (stmt_of c.in-Stmt.of.now) fits)

pub returns-in-Stmt : goal.returns-in-Stmt
returns-in-Stmt g c =
    let T = g.A.Mark.span_from in
    ap (λ (z : Span). z.from) c.span-in-Stmt.ensures ∙ ap (λ (k : g.row.A.Denot). begins_by T k c.args.base) (sym (stmt_mark_is c.in-Stmt.of.now)) ∙ ap (λ p. begins_by T (pure.mark_of (piece_of p)) c.args.base) (sym c.in-Stmt.is)

pub span-requires-in-Expr : goal.span-requires-in-Expr
span-requires-in-Expr g c =
    let T = g.A.Mark.span_from in
    let F = g.A.Mark.fits_at in
    let fits = subst (λ p. FitsPiece T F c.args.base (piece_of p)) c.in-Expr.is c.requires.fits in
    own_fits (begins_by T) F c.args.base c.in-Expr.of.now fits

pub returns-in-Expr : goal.returns-in-Expr
returns-in-Expr g c =
    let T = g.A.Mark.span_from in
    ap (λ (z : Span). z.from) c.span-in-Expr.ensures ∙ ap (λ (k : g.row.A.Denot). begins_by T k c.args.base) (sym (expr_mark_is c.in-Expr.of.now)) ∙ ap (λ p. begins_by T (pure.mark_of (piece_of p)) c.args.base) (sym c.in-Expr.is)
