use Rattle.std.proofs.Common.{◌≡◌, ◌+◌, List, ap, sym, subst, drop, ◌∙◌}
use Rattle.std.specs.Prelude.{IfOk}
use Rattle.jr_text.specs.declared.spans.Span.{Span}
use Rattle.jr_ast.specs.StatementTree as statement
use Rattle.jr_ast.specs.declared.stmts.Stmt.{Stmt}
use Rattle.jr_ast.specs.View.{stmts_of, stmt_kind}
use Rattle.jr_ast.proofs.Rows.{stmt_kind-Block, stmt_kind-Sync}
use Rattle.jr_cursor.specs.Searches.{in_stmt, in_stmts, in_else}
use Rattle.jr_cursor.proofs.Loops.{search_goes, search_ends}
use Rattle.jr_cursor.proofs.searches.+search_walk.Goals as goal

pub in_stmt-returns-in-Block : goal.in_stmt-returns-in-Block
unfolding in_stmt in_stmts in_else
in_stmt-returns-in-Block t c =
    let m = c.args.of.now.mark in
    subst (λ (x : statement.Stmt Span). IfOk c.in_stmts.result (λ s. s ≡ in_stmt c.args.at c.args.before x)) (sym (ap (stmt_kind m) c.in-Block.is ∙ stmt_kind-Block _ m c.in-Block.body))
    (subst (λ (xs : List (Stmt Span)). IfOk c.in_stmts.result (λ s. s ≡ in_stmts c.args.at c.args.before (stmts_of xs))) c.deref-in-Block.ensures.value c.in_stmts.ensures)

pub in_stmt-returns-in-Sync : goal.in_stmt-returns-in-Sync
unfolding in_stmt in_stmts in_else
in_stmt-returns-in-Sync t c =
    let m = c.args.of.now.mark in
    subst (λ (x : statement.Stmt Span). IfOk c.in_stmts-in-Sync.result (λ s. s ≡ in_stmt c.args.at c.args.before x)) (sym (ap (stmt_kind m) c.in-Sync.is ∙ stmt_kind-Sync _ m c.in-Sync.field-0 c.in-Sync.body))
    (subst (λ (xs : List (Stmt Span)). IfOk c.in_stmts-in-Sync.result (λ s. s ≡ in_stmts c.args.at c.args.before (stmts_of xs))) c.deref-in-Sync.ensures.value c.in_stmts-in-Sync.ensures)

pub in_stmts-loop-of-preserved : goal.in_stmts-loop-of-preserved
in_stmts-loop-of-preserved t c =
    let body = c.args.body.now in
    let i = c.loop-of.of-index in
    let x = c.of-item.result in
    ap (λ b. in_stmts c.args.at b (stmts_of (drop (i + 1) body))) c.in_ok-search.ensures
    ∙ sym (search_goes c.args.at body i x c.loop-of.search c.loop-of-test.true c.of-item.is)
    ∙ c.loop-of.invariant

pub in_stmts-returns : goal.in_stmts-returns
in_stmts-returns t c =
    sym (search_ends c.args.at c.args.body.now c.loop-of.of-index c.loop-of.search c.loop-of-test.false) ∙ c.loop-of.invariant
