use Rattle.std.proofs.Common.{List, ap, sym, ◌∙◌}
use Rattle.jr_ast.specs.declared.stmts.Stmt.{Stmt}
use Rattle.jr_ast.specs.View.{expr_of, stmt_of, stmts_of, else_of}
use Rattle.jr_piece_sites.specs.Pieces as pure
use Rattle.jr_ast.specs.View.{stmt_kind}
use Rattle.jr_ast.proofs.Rows.{stmt_kind-If, stmt_kind-Block, stmt_kind-Sync}
use Rattle.jr_piece_sites.proofs.pieces.stmt_part.Goals as goal

pub returns-in-If : goal.returns-in-If
returns-in-If g c =
    let m = c.args.of.now.mark in
    c.in_branch.ensures ∙ ap (λ (s : Stmt g.row.A.Denot). pure.in_branch (expr_of c.in-If.test) (stmt_of s) (else_of c.in-If.no) c.args.number) c.deref.ensures
    ∙ sym (ap (λ s. pure.stmt_part s c.args.number) (ap (stmt_kind m) c.in-If.is ∙ stmt_kind-If _ m c.in-If.test c.in-If.yes c.in-If.no))

pub returns-in-Block : goal.returns-in-Block
returns-in-Block g c =
    let m = c.args.of.now.mark in
    c.nth_stmt.ensures ∙ ap (λ (l : List (Stmt g.row.A.Denot)). pure.nth_stmt (stmts_of l) c.args.number) c.deref-in-Block.ensures.value
    ∙ sym (ap (λ s. pure.stmt_part s c.args.number) (ap (stmt_kind m) c.in-Block.is ∙ stmt_kind-Block _ m c.in-Block.body))

pub returns-in-Sync : goal.returns-in-Sync
returns-in-Sync g c =
    let m = c.args.of.now.mark in
    c.in_sync.ensures ∙ ap (λ (l : List (Stmt g.row.A.Denot)). pure.in_sync (expr_of c.in-Sync.object) (stmts_of l) c.args.number) c.deref-in-Sync.ensures.value
    ∙ sym (ap (λ s. pure.stmt_part s c.args.number) (ap (stmt_kind m) c.in-Sync.is ∙ stmt_kind-Sync _ m c.in-Sync.object c.in-Sync.body))
