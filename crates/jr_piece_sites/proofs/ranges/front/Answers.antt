use Rattle.std.proofs.Common.{refl, ap, sym, subst, ◌∙◌}
use Rattle.jr_expr_sites.specs.StepView.{given}
use Rattle.jr_expr_sites.specs.KnownFacts.{known_of}
use Rattle.jr_expr_sites.specs.Routes.{begins_by}
use Rattle.jr_piece_sites.specs.Growth.{GrownTo}
use Rattle.jr_piece_sites.specs.Fronts.{stmt_front}
use Rattle.jr_piece_sites.proofs.Growths as growth
use Rattle.jr_ast.proofs.Rows.{member_mark_is}
use Rattle.jr_piece_sites.specs.Fronts.{member_front}
use Rattle.jr_piece_sites.specs.declared.pieces.Piece as raw
use Rattle.jr_piece_sites.specs.Fronts.{front}
use Rattle.jr_piece_sites.specs.Pieces.{FitsPiece, NumbersPiece, StartsAt, spotted, first_number}
use Rattle.jr_piece_sites.specs.PieceView.{piece_of}
use Rattle.jr_piece_sites.proofs.ranges.front.Goals as goal

pub member_front-requires : goal.member_front-requires
member_front-requires g c =
    let T = g.A.Mark.span_from in
    let F = g.A.Mark.fits_at in
    let fb = c.args.found.now.base in
    let s = subst (λ (y : raw.Piece g.row.A.Denot). StartsAt T fb c.args.here.now.start (piece_of y)) c.in-Member.is c.requires.start in
    record { fits = subst (λ (y : raw.Piece g.row.A.Denot). FitsPiece T F fb (piece_of y)) c.in-Member.is c.requires.fits; start = s ∙ ap (λ (m : g.row.A.Denot). begins_by T m fb) (member_mark_is c.in-Member.of.now) }

pub stmt_front-requires : goal.stmt_front-requires
stmt_front-requires g c =
    let T = g.A.Mark.span_from in
    let F = g.A.Mark.fits_at in
    let fb = c.args.found.now.base in
    record { fits = subst (λ (y : raw.Piece g.row.A.Denot). FitsPiece T F fb (piece_of y)) c.in-Stmt.is c.requires.fits }

pub expr_front-requires : goal.expr_front-requires
expr_front-requires g c =
    let T = g.A.Mark.span_from in
    let F = g.A.Mark.fits_at in
    let fb = c.args.found.now.base in
    record { fits = subst (λ (y : raw.Piece g.row.A.Denot). FitsPiece T F fb (piece_of y)) c.in-Expr.is c.requires.fits }

pub returns-in-Member : goal.returns-in-Member
returns-in-Member g c =
    let T = g.A.Mark.span_from in
    let G = given g.F.Facts.decls g.F.Facts.types c.args.here.now in
    let path = c.args.path.now.steps.items in
    let old = c.args.out.now.items in
    let fn = c.args.found.now.number in
    let fb = c.args.found.now.base in
    let new = c.member_front.new.out.items in
    growth.if_ok_then c.member_front.result (λ k p. subst (λ (y : raw.Piece g.row.A.Denot). GrownTo G (NumbersPiece T fn fb path (piece_of y)) (λ o. front (known_of G o) (spotted T fb path (piece_of y)) c.args.part) (first_number fn (piece_of y) c.args.part) k old new) (sym c.in-Member.is) (record { number = p.number; grown = p.grown })) c.member_front.ensures

pub returns-in-Stmt : goal.returns-in-Stmt
returns-in-Stmt g c =
    let T = g.A.Mark.span_from in
    let G = given g.F.Facts.decls g.F.Facts.types c.args.here.now in
    let path = c.args.path.now.steps.items in
    let old = c.args.out.now.items in
    let fn = c.args.found.now.number in
    let fb = c.args.found.now.base in
    let new = c.stmt_front.new.out.items in
    growth.if_ok_then c.stmt_front.result (λ k p. subst (λ (y : raw.Piece g.row.A.Denot). GrownTo G (NumbersPiece T fn fb path (piece_of y)) (λ o. front (known_of G o) (spotted T fb path (piece_of y)) c.args.part) (first_number fn (piece_of y) c.args.part) k old new) (sym c.in-Stmt.is) (record { number = p.number; grown = p.grown })) c.stmt_front.ensures

pub returns-in_ok-expr_front-in-Expr : goal.returns-in_ok-expr_front-in-Expr
returns-in_ok-expr_front-in-Expr g c =
    let T = g.A.Mark.span_from in
    let G = given g.F.Facts.decls g.F.Facts.types c.args.here.now in
    let path = c.args.path.now.steps.items in
    let old = c.args.out.now.items in
    let fn = c.args.found.now.number in
    let fb = c.args.found.now.base in
    let new = c.expr_front.new.out.items in
    subst (λ (y : raw.Piece g.row.A.Denot). GrownTo G (NumbersPiece T fn fb path (piece_of y)) (λ o. front (known_of G o) (spotted T fb path (piece_of y)) c.args.part) (first_number fn (piece_of y) c.args.part) fn old new) (sym c.in-Expr.is) (record { number = refl; grown = λ o h. c.in_ok-expr_front-in-Expr.ensures o })
