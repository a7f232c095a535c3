use Rattle.std.proofs.Common.{ap, sym, ◌∙◌}
use Rattle.std.proofs.lemmas.Result.{IfOk-weaker}
use Rattle.jr_ast.specs.StatementTree as tree
use Rattle.jr_ast.specs.View.{else_of, stmt_of, stmts_of, stmt_kind, stmt_row, held_else}
use Rattle.jr_ast.specs.Remarked as maps
use Rattle.jr_ast.proofs.Rows.{stmt_kind-If, stmt_kind-Block, stmt_kind-Sync}
use Rattle.jr_ast.proofs.Sizes.{stmt_size, stmts_size, else_size}
use Rattle.jr_paths_copies.proofs.MadeOf.{with_part, one_more_made}
use Rattle.jr_ast.proofs.Sizes.{falls_further, falls_left, falls_right, falls_whole_row, falls_item, falls_held, stmts_add}
use Rattle.jr_paths_copies.proofs.Marking.{mark_agrees, none_yet, all_done, same_stmt_rows}
use Rattle.jr_paths_copies.proofs.stmt_marks.+stmt_marks.Goals as goal

pub stmt-stmt-requires : goal.stmt-stmt-requires
unfolding stmt_size stmts_size else_size stmt_kind stmt_row held_else
stmt-stmt-requires g t c =
    let whole = stmt_size (stmt_of c.args.of.now) in
    let m = c.args.of.now.mark in
    let at = c.in-If in
    λ κs o. (falls_further _ t (falls_left (λ x. stmt_size (stmt_of x)) whole (else_size (else_of at.no)) at.yes.value c.deref.result.now t c.deref.ensures (ap (λ d. stmt_size (stmt_kind m d)) at.is ∙ ap stmt_size (stmt_kind-If _ m at.condition at.yes at.no)) c.decreases), (o.0, (o.1.0, (o.1.1, c.requires))))

pub stmt-else_stmt-requires : goal.stmt-else_stmt-requires
unfolding stmt_size stmts_size else_size stmt_kind stmt_row held_else
stmt-else_stmt-requires g t c =
    let whole = stmt_size (stmt_of c.args.of.now) in
    let m = c.args.of.now.mark in
    let at = c.in-If in
    λ κs o. (falls_right (λ o. else_size (else_of o)) whole (stmt_size (stmt_of at.yes.value)) at.no at.no t (λ i. at.no) (ap (λ d. stmt_size (stmt_kind m d)) at.is ∙ ap stmt_size (stmt_kind-If _ m at.condition at.yes at.no)) c.decreases, (o.0, (o.1.0, (o.1.1, c.requires))))

pub stmt-stmt-requires-in-While : goal.stmt-stmt-requires-in-While
unfolding stmt_size stmts_size else_size stmt_kind stmt_row held_else
stmt-stmt-requires-in-While g t c =
    let whole = stmt_size (stmt_of c.args.of.now) in
    let m = c.args.of.now.mark in
    let at = c.in-While in
    λ κs o. (falls_further _ t (falls_whole_row (λ x. stmt_size (stmt_of x)) whole at.body.value c.deref-in-While.result.now t c.deref-in-While.ensures (ap (λ d. stmt_size (stmt_kind m d)) at.is) c.decreases), (o.0, (o.1.0, (o.1.1, c.requires))))

pub stmt-stmts-requires : goal.stmt-stmts-requires
unfolding stmt_size stmts_size else_size stmt_kind stmt_row held_else
stmt-stmts-requires g t c =
    let whole = stmt_size (stmt_of c.args.of.now) in
    let m = c.args.of.now.mark in
    let at = c.in-Block in
    λ κs o. (falls_whole_row (λ xs. stmts_size (stmts_of xs)) whole at.body.items c.deref-in-Block.result.now t c.deref-in-Block.ensures.value (ap (λ d. stmt_size (stmt_kind m d)) at.is ∙ ap stmt_size (stmt_kind-Block _ m at.body)) c.decreases, (o.0, (o.1.0, (o.1.1, c.requires))))

pub stmt-stmts-requires-in-Sync : goal.stmt-stmts-requires-in-Sync
unfolding stmt_size stmts_size else_size stmt_kind stmt_row held_else
stmt-stmts-requires-in-Sync g t c =
    let whole = stmt_size (stmt_of c.args.of.now) in
    let m = c.args.of.now.mark in
    let at = c.in-Sync in
    λ κs o. (falls_whole_row (λ xs. stmts_size (stmts_of xs)) whole at.body.items c.deref-in-Sync.result.now t c.deref-in-Sync.ensures.value (ap (λ d. stmt_size (stmt_kind m d)) at.is ∙ ap stmt_size (stmt_kind-Sync _ m at.lock at.body)) c.decreases, (o.0, (o.1.0, (o.1.1, c.requires))))

pub stmt-returns-in-Local : goal.stmt-returns-in-Local
unfolding maps.map_stmt maps.map_stmts maps.map_else stmt_kind stmt_row held_else
stmt-returns-in-Local g t c =
    let at = c.in-Local in
    let m = c.args.of.now.mark in
    IfOk-weaker c.local.result _ _ (λ x made. with_part c.ty-of_type.result made c.ty-of_type.ensures (λ kind' made1 kind. with_part c.word-name.result made1 c.word-name.ensures (λ name' made2 name. with_part c.expr.result made2 c.expr.ensures (λ init' is init. λ h k agree.
    let mark = mark_agrees agree c.mark_by-mark.ensures in
    ap (maps.map_stmt h) is ∙ (λ i. tree.local (mark i) at.is_final (kind h k agree i) (name h k agree i) (init h k agree i)) ∙ sym (ap (λ d. maps.map_stmt k (stmt_kind m d)) at.is))))) c.local.ensures

pub stmt-returns-in-Eval : goal.stmt-returns-in-Eval
unfolding maps.map_stmt maps.map_stmts maps.map_else stmt_kind stmt_row held_else
stmt-returns-in-Eval g t c =
    let at = c.in-Eval in
    let m = c.args.of.now.mark in
    IfOk-weaker c.eval.result _ _ (λ x made. with_part c.expr-in-Eval.result made c.expr-in-Eval.ensures (λ value' is value. λ h k agree.
    let mark = mark_agrees agree c.mark_by-mark.ensures in
    ap (maps.map_stmt h) is ∙ (λ i. tree.eval (mark i) (value h k agree i)) ∙ sym (ap (λ d. maps.map_stmt k (stmt_kind m d)) at.is))) c.eval.ensures

pub stmt-returns-in-If : goal.stmt-returns-in-If
unfolding maps.map_stmt maps.map_stmts maps.map_else stmt_kind stmt_row held_else
stmt-returns-in-If g t c =
    let at = c.in-If in
    let m = c.args.of.now.mark in
    IfOk-weaker c.conditional.result _ _ (λ x made. with_part c.expr-condition.result made c.expr-condition.ensures (λ condition' made1 condition. with_part c.stmt.result made1 c.stmt.ensures (λ yes' made2 yes. with_part c.else_stmt.result made2 c.else_stmt.ensures (λ no' is no. λ h k agree.
    let mark = mark_agrees agree c.mark_by-mark.ensures in
    ap (maps.map_stmt h) is ∙ (λ i. tree.branch (mark i) (condition h k agree i) ((yes h k agree ∙ ap (λ y. maps.map_stmt k (stmt_of y)) c.deref.ensures) i) (no h k agree i)) ∙ sym (ap (λ d. maps.map_stmt k (stmt_kind m d)) at.is ∙ ap (maps.map_stmt k) (stmt_kind-If _ m at.condition at.yes at.no)))))) c.conditional.ensures

pub stmt-returns-in-While : goal.stmt-returns-in-While
unfolding maps.map_stmt maps.map_stmts maps.map_else stmt_kind stmt_row held_else
stmt-returns-in-While g t c =
    let at = c.in-While in
    let m = c.args.of.now.mark in
    IfOk-weaker c.while_loop.result _ _ (λ x made. with_part c.expr-in-While.result made c.expr-in-While.ensures (λ condition' made1 condition. with_part c.stmt-in-While.result made1 c.stmt-in-While.ensures (λ body' is body. λ h k agree.
    let mark = mark_agrees agree c.mark_by-mark.ensures in
    ap (maps.map_stmt h) is ∙ (λ i. tree.loop (mark i) (condition h k agree i) ((body h k agree ∙ ap (λ y. maps.map_stmt k (stmt_of y)) c.deref-in-While.ensures) i)) ∙ sym (ap (λ d. maps.map_stmt k (stmt_kind m d)) at.is)))) c.while_loop.ensures

pub stmt-returns-in-Return : goal.stmt-returns-in-Return
unfolding maps.map_stmt maps.map_stmts maps.map_else stmt_kind stmt_row held_else
stmt-returns-in-Return g t c =
    let at = c.in-Return in
    let m = c.args.of.now.mark in
    IfOk-weaker c.return_stmt.result _ _ (λ x made. with_part c.maybe_expr.result made c.maybe_expr.ensures (λ value' is value. λ h k agree.
    let mark = mark_agrees agree c.mark_by-mark.ensures in
    ap (maps.map_stmt h) is ∙ (λ i. tree.return (mark i) (value h k agree i)) ∙ sym (ap (λ d. maps.map_stmt k (stmt_kind m d)) at.is))) c.return_stmt.ensures

pub stmt-returns-in-Block : goal.stmt-returns-in-Block
unfolding maps.map_stmt maps.map_stmts maps.map_else stmt_kind stmt_row held_else
stmt-returns-in-Block g t c =
    let at = c.in-Block in
    let m = c.args.of.now.mark in
    IfOk-weaker c.block.result _ _ (λ x made. with_part c.stmts.result made c.stmts.ensures (λ body' is body. λ h k agree.
    let mark = mark_agrees agree c.mark_by-mark.ensures in
    ap (maps.map_stmt h) is ∙ (λ i. tree.block (mark i) ((body h k agree ∙ ap (λ xs. maps.map_stmts k (stmts_of xs)) c.deref-in-Block.ensures.value) i)) ∙ sym (ap (λ d. maps.map_stmt k (stmt_kind m d)) at.is ∙ ap (maps.map_stmt k) (stmt_kind-Block _ m at.body)))) c.block.ensures

pub stmt-returns-in-Sync : goal.stmt-returns-in-Sync
unfolding maps.map_stmt maps.map_stmts maps.map_else stmt_kind stmt_row held_else
stmt-returns-in-Sync g t c =
    let at = c.in-Sync in
    let m = c.args.of.now.mark in
    IfOk-weaker c.sync.result _ _ (λ x made. with_part c.expr-in-Sync.result made c.expr-in-Sync.ensures (λ lock' made1 lock. with_part c.stmts-in-Sync.result made1 c.stmts-in-Sync.ensures (λ body' is body. λ h k agree.
    let mark = mark_agrees agree c.mark_by-mark.ensures in
    ap (maps.map_stmt h) is ∙ (λ i. tree.sync (mark i) (lock h k agree i) ((body h k agree ∙ ap (λ xs. maps.map_stmts k (stmts_of xs)) c.deref-in-Sync.ensures.value) i)) ∙ sym (ap (λ d. maps.map_stmt k (stmt_kind m d)) at.is ∙ ap (maps.map_stmt k) (stmt_kind-Sync _ m at.lock at.body))))) c.sync.ensures

pub stmt-returns-in-Empty : goal.stmt-returns-in-Empty
unfolding maps.map_stmt maps.map_stmts maps.map_else stmt_kind stmt_row held_else
stmt-returns-in-Empty g t c =
    let at = c.in-Empty in
    let m = c.args.of.now.mark in
    IfOk-weaker c.empty.result _ _ (λ x is h k agree.
    let mark = mark_agrees agree c.mark_by-mark.ensures in
    ap (maps.map_stmt h) is ∙ (λ i. tree.empty (mark i)) ∙ sym (ap (λ d. maps.map_stmt k (stmt_kind m d)) at.is)) c.empty.ensures

pub else_stmt-stmt-requires : goal.else_stmt-stmt-requires
unfolding stmt_size stmts_size else_size
else_stmt-stmt-requires g t c =
    let same_size = ap (λ x. stmt_size (stmt_of x)) c.deref.ensures ∙ sym (ap (λ o. else_size (else_of o)) c.in-Some.is) in
    λ κs o. (falls_held _ (else_size (else_of c.args.of.now)) t same_size c.decreases, (o.0, (o.1.0, (o.1.1, c.requires))))

pub else_stmt-returns-in-None : goal.else_stmt-returns-in-None
unfolding maps.map_stmt maps.map_stmts maps.map_else
else_stmt-returns-in-None g t c = λ h k agree. sym (ap (λ o. maps.map_else k (else_of o)) c.in-None.is)

pub else_stmt-returns-in_ok-copy-in-Some : goal.else_stmt-returns-in_ok-copy-in-Some
unfolding maps.map_stmt maps.map_stmts maps.map_else
else_stmt-returns-in_ok-copy-in-Some g t c = λ h k agree.
    ap tree.otherwise (c.in_ok-copy-in-Some.ensures h k agree ∙ ap (λ x. maps.map_stmt k (stmt_of x)) c.deref.ensures) ∙ sym (ap (λ o. maps.map_else k (else_of o)) c.in-Some.is)

pub stmts-loop-part-init : goal.stmts-loop-part-init
stmts-loop-part-init g t c = λ h k agree. none_yet (λ x. maps.map_stmt h (stmt_of x)) (λ x. maps.map_stmt k (stmt_of x)) c.new-copies.result.items c.args.parts.now c.new-copies.ensures.items

pub stmts-stmt-requires : goal.stmts-stmt-requires
stmts-stmt-requires g t c =
    λ κs o. (falls_item (λ x. stmt_size (stmt_of x)) (λ xs. stmts_size (stmts_of xs)) stmts_add c.args.parts.now c.loop-part.part-index c.part-item.result t c.loop-part-test.true c.part-item.is c.decreases, (o.0, (o.1.0, (o.1.1, c.requires))))

pub stmts-loop-part-preserved : goal.stmts-loop-part-preserved
stmts-loop-part-preserved g t c = λ h k agree.
    one_more_made (λ x. maps.map_stmt h (stmt_of x)) (λ x. maps.map_stmt k (stmt_of x)) c.loop-part.copies.items _ c.args.parts.now c.loop-part.part-index c.part-item.result c.stmt.result
    c.loop-part-test.true c.part-item.is c.in_ok-push_made.ensures (c.loop-part.invariant h k agree) (IfOk-weaker c.stmt.result _ _ (λ x copied. copied h k agree) c.stmt.ensures)

pub stmts-returns : goal.stmts-returns
stmts-returns g t c = λ h k agree.
    same_stmt_rows h k c.loop-part.copies.items c.args.parts.now (all_done (λ x. maps.map_stmt h (stmt_of x)) (λ x. maps.map_stmt k (stmt_of x)) _ _ c.loop-part.part-index c.loop-part-test.false (c.loop-part.invariant h k agree))
