use Rattle.std.proofs.Common.{◌∙◌, ap, sym, List}
use Rattle.jr_text.specs.declared.spans.Span.{Span}
use Rattle.jr_ast.specs.declared.stmts.Stmt.{Stmt}
use Rattle.jr_ast.specs.View.{expr_of, stmt_kind, stmts_of}
use Rattle.jr_ast.proofs.Rows.{stmt_kind-Block, stmt_kind-Sync}
use Rattle.jr_piece_search.specs.StatementSteps.{to_list, in_sync, inward}
use Rattle.jr_piece_search.proofs.statement_steps.inward_stmt.Goals as goal

pub returns-in-Block : goal.returns-in-Block
returns-in-Block c =
    let m = c.args.of.now.mark in
    ap (λ (xs : List (Stmt Span)). to_list 0 (stmts_of xs)) c.deref-in-Block.ensures.value
    ∙ sym (ap (inward c.args.span.now) (ap (stmt_kind m) c.in-Block.is ∙ stmt_kind-Block _ m c.in-Block.body))

pub returns-in-Sync : goal.returns-in-Sync
returns-in-Sync c =
    let m = c.args.of.now.mark in
    let at = c.in-Sync in
    c.in_sync.ensures ∙ ap (λ (xs : List (Stmt Span)). in_sync c.args.span.now (expr_of at.lock) (stmts_of xs)) c.deref-in-Sync.ensures.value
    ∙ sym (ap (inward c.args.span.now) (ap (stmt_kind m) at.is ∙ stmt_kind-Sync _ m at.lock at.body))
