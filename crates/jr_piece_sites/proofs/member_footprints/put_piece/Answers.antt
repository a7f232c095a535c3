use Rattle.std.proofs.Common.{ℕ, ◌+◌, List, [], ◌∷◌, ◌++◌, Some, refl, sym, subst}
use Rattle.std.specs.Prelude.{IfOk}
use Rattle.jr_ast.specs.View.{stmt_of}
use Rattle.jr_expr_sites.specs.StepView.{given}
use Rattle.jr_piece_sites.specs.Pieces.{FitsPiece}
use Rattle.jr_piece_sites.specs.PieceView.{piece_of}
use Rattle.jr_table.specs.Context.{locals_in}
use Rattle.jr_cfg.specs.StatementRoutes as list
use Rattle.jr_cfg.specs.StatementRoutes.{Passed, Numbered}
use Rattle.jr_piece_sites.specs.PartSites.{PartPut}
use Rattle.jr_piece_sites.proofs.member_footprints.put_piece.Goals as goal

pub stmt-requires : goal.stmt-requires
stmt-requires g c =
    let T = g.A.Mark.span_from in
    let F = g.A.Mark.fits_at in
    record { fits = subst (λ x. FitsPiece T F c.args.at (piece_of x)) c.in-Stmt.is c.requires.fits }

pub returns-in_ok-place-in-Stmt : goal.returns-in_ok-place-in-Stmt
returns-in_ok-place-in-Stmt g c =
    let T = g.A.Mark.span_from in
    let G = given g.F.Facts.decls g.F.Facts.types c.args.here.now in
    let path = c.args.path.now.steps.items in
    let old = c.args.out.now.items in
    let new = c.stmt.new.out.items in
    let s = stmt_of c.in-Stmt.of.now in
    subst (λ x. IfOk c.stmt.result (λ n. PartPut T G c.args.number c.args.at (path ++ c.args.step ∷ []) (Some (piece_of x)) n old new)) (sym c.in-Stmt.is)
    (subst (λ (q : List ℕ). IfOk c.stmt.result (λ n. Passed G (Numbered T c.args.number q c.args.at s) (list.stmt T q c.args.at s) (c.args.number + locals_in s) n old new)) c.in_ok-place-in-Stmt.ensures c.stmt.ensures)

pub returns-in-Member : goal.returns-in-Member
returns-in-Member g c =
    let T = g.A.Mark.span_from in
    let G = given g.F.Facts.decls g.F.Facts.types c.args.here.now in
    let path = c.args.path.now.steps.items in
    let old = c.args.out.now.items in
    subst (λ x. PartPut T G c.args.number c.args.at (path ++ c.args.step ∷ []) (Some (piece_of x)) c.args.number old old) (sym c.in-Member.is) (refl, refl)

pub returns-in-Expr : goal.returns-in-Expr
returns-in-Expr g c =
    let T = g.A.Mark.span_from in
    let G = given g.F.Facts.decls g.F.Facts.types c.args.here.now in
    let path = c.args.path.now.steps.items in
    let old = c.args.out.now.items in
    subst (λ x. PartPut T G c.args.number c.args.at (path ++ c.args.step ∷ []) (Some (piece_of x)) c.args.number old old) (sym c.in-Expr.is) (refl, refl)
