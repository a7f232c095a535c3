use Rattle.std.proofs.Common.{◌++◌, refl, sym, ap, ◌∙◌}
use Rattle.std.specs.Prelude.{codes}
use Rattle.std.proofs.lemmas.Result.{on_ok_weaker}
use Rattle.jr_print.specs.ExpressionText.{printed}
use Rattle.jr_print.specs.StatementText.{printed_variable, printed_stmt, printed_else, printed_stmts}
use Rattle.jr_print.proofs.Puts.{put_one, put_two, put_three, put_four, put_item, put_all, braced, locked, local_text, if_text}
use Rattle.jr_ast.specs.View.{type_of, word_of, expr_of, stmt_of, stmts_of, else_of, stmt_kind, stmt_row, held_else}
use Rattle.jr_ast.proofs.Rows.{stmt_kind-If, stmt_kind-Block, stmt_kind-Sync}
use Rattle.jr_ast.proofs.Sizes.{stmt_size, stmts_size, else_size, stmts_add}
use Rattle.jr_print.proofs.Measures.{less, less_one, less_two, falls_left, falls_right, falls_only, falls_held, falls_same, falls_item}
use Rattle.jr_print.proofs.stmts.+stmt_texts.Goals as goal

pub stmt-stmt-requires : goal.stmt-stmt-requires
unfolding stmt_size stmts_size else_size stmt_kind stmt_row held_else
stmt-stmt-requires g t c =
    let whole = stmt_size (stmt_of c.args.of.now) in
    let m = c.args.of.now.mark in
    let at = c.in-If in
    λ κs o. (less _ t (falls_left (λ x. stmt_size (stmt_of x)) whole (else_size (else_of at.no)) at.yes.value c.deref.result.now t c.deref.ensures (ap (λ d. stmt_size (stmt_kind m d)) at.is ∙ ap stmt_size (stmt_kind-If _ m at.condition at.yes at.no)) c.decreases), o)

pub stmt-otherwise-requires : goal.stmt-otherwise-requires
unfolding stmt_size stmts_size else_size stmt_kind stmt_row held_else
stmt-otherwise-requires g t c =
    let whole = stmt_size (stmt_of c.args.of.now) in
    let m = c.args.of.now.mark in
    let at = c.in-If in
    λ κs o. (less_one _ t (falls_right (λ x. else_size (else_of x)) whole (stmt_size (stmt_of at.yes.value)) at.no at.no t (λ i. at.no) (ap (λ d. stmt_size (stmt_kind m d)) at.is ∙ ap stmt_size (stmt_kind-If _ m at.condition at.yes at.no)) c.decreases), o)

pub stmt-stmt-requires-in-While : goal.stmt-stmt-requires-in-While
unfolding stmt_size stmts_size else_size stmt_kind stmt_row held_else
stmt-stmt-requires-in-While g t c =
    let whole = stmt_size (stmt_of c.args.of.now) in
    let m = c.args.of.now.mark in
    let at = c.in-While in
    λ κs o. (less _ t (falls_only (λ x. stmt_size (stmt_of x)) whole at.body.value c.deref-in-While.result.now t c.deref-in-While.ensures (ap (λ d. stmt_size (stmt_kind m d)) at.is) c.decreases), o)

pub stmt-block-requires : goal.stmt-block-requires
unfolding stmt_size stmts_size else_size stmt_kind stmt_row held_else
stmt-block-requires g t c =
    let whole = stmt_size (stmt_of c.args.of.now) in
    let m = c.args.of.now.mark in
    let at = c.in-Block in
    λ κs o. (less_two _ t (falls_only (λ xs. stmts_size (stmts_of xs)) whole at.body.items c.deref-in-Block.result.now t c.deref-in-Block.ensures.value (ap (λ d. stmt_size (stmt_kind m d)) at.is ∙ ap stmt_size (stmt_kind-Block _ m at.body)) c.decreases), o)

pub stmt-block-requires-in-Sync : goal.stmt-block-requires-in-Sync
unfolding stmt_size stmts_size else_size stmt_kind stmt_row held_else
stmt-block-requires-in-Sync g t c =
    let whole = stmt_size (stmt_of c.args.of.now) in
    let m = c.args.of.now.mark in
    let at = c.in-Sync in
    λ κs o. (less_two _ t (falls_only (λ xs. stmts_size (stmts_of xs)) whole at.body.items c.deref-in-Sync.result.now t c.deref-in-Sync.ensures.value (ap (λ d. stmt_size (stmt_kind m d)) at.is ∙ ap stmt_size (stmt_kind-Sync _ m at.lock at.body)) c.decreases), o)

pub otherwise-stmt-requires : goal.otherwise-stmt-requires
unfolding stmt_size stmts_size else_size
otherwise-stmt-requires g t c =
    let same_size = ap (λ x. stmt_size (stmt_of x)) c.deref.ensures ∙ sym (ap (λ o. else_size (else_of o)) c.in-Some.is) in
    λ κs o. (falls_held _ (else_size (else_of c.args.of.now)) t same_size c.decreases, o)

pub block-stmts-requires : goal.block-stmts-requires
block-stmts-requires g t c = λ κs o. (falls_same 1 _ (stmts_size (stmts_of c.args.body.now)) t refl c.decreases, o)

pub stmts-stmt-requires : goal.stmts-stmt-requires
stmts-stmt-requires g t c =
    λ κs o. (falls_item (λ x. stmt_size (stmt_of x)) (λ xs. stmts_size (stmts_of xs)) stmts_add c.args.parts.now c.loop-part.part-index c.part-item.result t c.loop-part-test.true c.part-item.is c.decreases, o)

pub block-returns : goal.block-returns
block-returns g t c =
    on_ok_weaker c.put-2.result (λ e. put_three _ _ _ _ _ _ _ _ c.in_ok-put.ensures c.in_ok-stmts.ensures e (braced (printed_stmts (stmts_of c.args.body.now)))) c.put-2.ensures

pub stmt-returns-in-Block : goal.stmt-returns-in-Block
unfolding stmt_kind stmt_row held_else
stmt-returns-in-Block g t c =
    let at = c.in-Block in
    let m = c.args.of.now.mark in
    let view = ap (λ d. printed_stmt (stmt_kind m d)) at.is ∙ ap printed_stmt (stmt_kind-Block _ m at.body) in
    on_ok_weaker c.block.result (λ e. put_one _ _ _ _ e (ap (λ ss. codes "{" ++ printed_stmts (stmts_of ss) ++ codes " }") c.deref-in-Block.ensures.value ∙ sym view)) c.block.ensures

pub stmt-returns-in_ok-expr_then-in-Sync : goal.stmt-returns-in_ok-expr_then-in-Sync
unfolding stmt_kind stmt_row held_else
stmt-returns-in_ok-expr_then-in-Sync g t c =
    let at = c.in-Sync in
    let m = c.args.of.now.mark in
    let view = ap (λ d. printed_stmt (stmt_kind m d)) at.is ∙ ap printed_stmt (stmt_kind-Sync _ m at.lock at.body) in
    let text = ap (λ ss. codes "synchronized (" ++ ((printed (expr_of at.lock) ++ codes ") ") ++ (codes "{" ++ printed_stmts (stmts_of ss) ++ codes " }"))) c.deref-in-Sync.ensures.value in
    on_ok_weaker c.block-in-Sync.result (λ e. put_three _ _ _ _ _ _ _ _ c.in_ok-put-in-Sync.ensures c.in_ok-expr_then-in-Sync.ensures e (text ∙ locked (printed (expr_of at.lock)) (printed_stmts (stmts_of at.body.items)) ∙ sym view)) c.block-in-Sync.ensures

pub stmts-loop-part-preserved : goal.stmts-loop-part-preserved
stmts-loop-part-preserved g t c =
    put_item (λ xs. printed_stmts (stmts_of xs)) (λ x. codes " " ++ printed_stmt (stmt_of x)) (λ x xs. refl) _ _ _ c.args.parts.now c.loop-part.part-index c.part-item.result
    c.loop-part-test.true c.part-item.is (put_two _ _ _ _ _ _ c.in_ok-put.ensures c.in_ok-stmt.ensures refl) c.loop-part.invariant

pub stmts-returns : goal.stmts-returns
stmts-returns g t c =
    put_all (λ xs. printed_stmts (stmts_of xs)) (λ x. codes " " ++ printed_stmt (stmt_of x)) (λ x xs. refl) _ _ c.args.parts.now c.loop-part.part-index c.loop-part-test.false refl c.loop-part.invariant

pub stmt-returns-in-Eval : goal.stmt-returns-in-Eval
unfolding stmt_kind stmt_row held_else
stmt-returns-in-Eval g t c =
    let at = c.in-Eval in
    let m = c.args.of.now.mark in
    let view = ap (λ d. printed_stmt (stmt_kind m d)) at.is in
    on_ok_weaker c.expr_then-in-Eval.result (λ e. put_one _ _ _ _ e (sym view)) c.expr_then-in-Eval.ensures

pub stmt-returns-in-Return : goal.stmt-returns-in-Return
unfolding stmt_kind stmt_row held_else
stmt-returns-in-Return g t c =
    let at = c.in-Return in
    let m = c.args.of.now.mark in
    let view = ap (λ d. printed_stmt (stmt_kind m d)) at.is in
    on_ok_weaker c.return_stmt.result (λ e. put_one _ _ _ _ e (sym view)) c.return_stmt.ensures

pub stmt-returns-in-Empty : goal.stmt-returns-in-Empty
unfolding stmt_kind stmt_row held_else
stmt-returns-in-Empty g t c =
    let at = c.in-Empty in
    let m = c.args.of.now.mark in
    let view = ap (λ d. printed_stmt (stmt_kind m d)) at.is in
    on_ok_weaker c.put-in-Empty.result (λ e. put_one _ _ _ _ e (sym view)) c.put-in-Empty.ensures

pub stmt-returns-in_ok-put-in-Local : goal.stmt-returns-in_ok-put-in-Local
unfolding stmt_kind stmt_row held_else
stmt-returns-in_ok-put-in-Local g t c =
    let at = c.in-Local in
    let m = c.args.of.now.mark in
    let view = ap (λ d. printed_stmt (stmt_kind m d)) at.is in
    let text = local_text (printed_variable at.is_final (type_of at.ty) (word_of at.name)) (printed (expr_of at.init)) in
    on_ok_weaker c.expr_then.result (λ e. put_three _ _ _ _ _ _ _ _ c.in_ok-variable-in-Local.ensures c.in_ok-put-in-Local.ensures e (text ∙ sym view)) c.expr_then.ensures

pub stmt-returns-in_ok-stmt-in-If : goal.stmt-returns-in_ok-stmt-in-If
unfolding stmt_kind stmt_row held_else
stmt-returns-in_ok-stmt-in-If g t c =
    let at = c.in-If in
    let m = c.args.of.now.mark in
    let view = ap (λ d. printed_stmt (stmt_kind m d)) at.is ∙ ap printed_stmt (stmt_kind-If _ m at.condition at.yes at.no) in
    let condition = printed (expr_of at.condition) in
    let other = printed_else (else_of at.no) in
    let text = ap (λ s. codes "if (" ++ ((condition ++ codes ") ") ++ (printed_stmt (stmt_of s) ++ other))) c.deref.ensures ∙ if_text condition (printed_stmt (stmt_of at.yes.value)) other in
    on_ok_weaker c.otherwise.result (λ e. put_four _ _ _ _ _ _ _ _ _ _ c.in_ok-put-in-If.ensures c.in_ok-expr_then-in-If.ensures c.in_ok-stmt-in-If.ensures e (text ∙ sym view)) c.otherwise.ensures

pub stmt-returns-in_ok-expr_then-in-While : goal.stmt-returns-in_ok-expr_then-in-While
unfolding stmt_kind stmt_row held_else
stmt-returns-in_ok-expr_then-in-While g t c =
    let at = c.in-While in
    let m = c.args.of.now.mark in
    let view = ap (λ d. printed_stmt (stmt_kind m d)) at.is in
    let text = ap (λ s. codes "while (" ++ ((printed (expr_of at.condition) ++ codes ") ") ++ printed_stmt (stmt_of s))) c.deref-in-While.ensures in
    on_ok_weaker c.stmt-in-While.result (λ e. put_three _ _ _ _ _ _ _ _ c.in_ok-put-in-While.ensures c.in_ok-expr_then-in-While.ensures e (text ∙ sym view)) c.stmt-in-While.ensures

pub otherwise-returns-in_ok-put-in-Some : goal.otherwise-returns-in_ok-put-in-Some
otherwise-returns-in_ok-put-in-Some g t c =
    let text = ap (λ s. codes " else " ++ printed_stmt (stmt_of s)) c.deref.ensures in
    on_ok_weaker c.stmt.result (λ e. put_two _ _ _ _ _ _ c.in_ok-put-in-Some.ensures e (text ∙ sym (ap (λ o. printed_else (else_of o)) c.in-Some.is))) c.stmt.ensures
