use Rattle.std.proofs.Common.{◌≡◌, ◌+◌, List, ap, sym, drop, take, length, ◌∙◌}
use Rattle.std.proofs.lemmas.Result.{on_ok_weaker}
use Rattle.jr_ast.specs.declared.stmts.Stmt.{Stmt}
use Rattle.jr_ast.specs.View.{stmt_of, stmts_of, else_of, stmt_kind, stmt_row, held_else}
use Rattle.jr_ast.proofs.Rows.{stmt_kind-If, stmt_kind-Block, stmt_kind-Sync}
use Rattle.jr_ast.proofs.Sizes.{stmt_size, stmts_size, else_size}
use Rattle.jr_bind_parts.proofs.Bodies.{falls_first, falls_only, falls_list, falls_held}
use Rattle.jr_rename.specs.Walks.{asked_of, walk_of, restored, in_stmt, in_stmts, in_else}
use Rattle.jr_rename.proofs.Loops.{stmts_go, stmts_end, cut}
use Rattle.jr_rename.proofs.Measures.{falls_second, falls_within, falls_block, falls_item}
use Rattle.jr_rename.proofs.walks.+clash_walk.Goals as goal

pub in_stmt-within-requires : goal.in_stmt-within-requires
unfolding stmt_size stmts_size else_size stmt_kind stmt_row held_else
in_stmt-within-requires g t c =
    let m = c.args.of.now.mark in
    let size = ap (λ (x : Stmt g.row.A.Denot). stmt_size (stmt_of x)) c.deref.ensures in
    let w = ap stmt_size (ap (stmt_kind m) c.in-If.is ∙ stmt_kind-If _ m c.in-If.field-0 c.in-If.yes c.in-If.no) in
    λ κs o. (falls_first _ _ _ _ t size w c.decreases, o)

pub in_stmt-within-requires-in-While : goal.in_stmt-within-requires-in-While
unfolding stmt_size stmts_size else_size stmt_kind stmt_row held_else
in_stmt-within-requires-in-While g t c =
    let m = c.args.of.now.mark in
    let size = ap (λ (x : Stmt g.row.A.Denot). stmt_size (stmt_of x)) c.deref-in-While.ensures in
    let w = ap stmt_size (ap (stmt_kind m) c.in-While.is) in
    λ κs o. (falls_only _ _ _ t size w c.decreases, o)

pub in_stmt-in_else-requires : goal.in_stmt-in_else-requires
unfolding stmt_size stmts_size else_size stmt_kind stmt_row held_else
in_stmt-in_else-requires g t c =
    let m = c.args.of.now.mark in
    let w = ap stmt_size (ap (stmt_kind m) c.in-If.is ∙ stmt_kind-If _ m c.in-If.field-0 c.in-If.yes c.in-If.no) in
    λ κs o. (falls_second _ _ _ t w c.decreases, o)

pub in_stmt-in_block-requires : goal.in_stmt-in_block-requires
unfolding stmt_size stmts_size else_size stmt_kind stmt_row held_else
in_stmt-in_block-requires g t c =
    let m = c.args.of.now.mark in
    let size = ap (λ (xs : List (Stmt g.row.A.Denot)). stmts_size (stmts_of xs)) c.deref-in-Block.ensures.value in
    let w = ap stmt_size (ap (stmt_kind m) c.in-Block.is ∙ stmt_kind-Block _ m c.in-Block.body) in
    λ κs o. (falls_list _ _ _ t size w c.decreases, o)

pub in_stmt-in_block-requires-in-Sync : goal.in_stmt-in_block-requires-in-Sync
unfolding stmt_size stmts_size else_size stmt_kind stmt_row held_else
in_stmt-in_block-requires-in-Sync g t c =
    let m = c.args.of.now.mark in
    let size = ap (λ (xs : List (Stmt g.row.A.Denot)). stmts_size (stmts_of xs)) c.deref-in-Sync.ensures.value in
    let w = ap stmt_size (ap (stmt_kind m) c.in-Sync.is ∙ stmt_kind-Sync _ m c.in-Sync.field-0 c.in-Sync.body) in
    λ κs o. (falls_list _ _ _ t size w c.decreases, o)

pub within-in_stmt-requires : goal.within-in_stmt-requires
within-in_stmt-requires g t c = λ κs o. (falls_within _ t c.decreases, o)

pub in_else-within-requires : goal.in_else-within-requires
unfolding stmt_size stmts_size else_size
in_else-within-requires g t c =
    let size = ap (λ (x : Stmt g.row.A.Denot). stmt_size (stmt_of x)) c.deref.ensures ∙ sym (ap (λ o. else_size (else_of o)) c.in-Some.is) in
    λ κs o. (falls_held _ _ t size c.decreases, o)

pub in_block-in_stmts-requires : goal.in_block-in_stmts-requires
in_block-in_stmts-requires g t c = λ κs o. (falls_block _ t c.decreases, o)

pub in_stmts-in_stmt-requires : goal.in_stmts-in_stmt-requires
in_stmts-in_stmt-requires g t c = λ κs o. (falls_item c.args.body.now c.loop-of.of-index c.of-item.result t c.loop-of-test.true c.of-item.is c.decreases, o)

pub in_stmt-returns-in-Block : goal.in_stmt-returns-in-Block
unfolding in_stmt in_stmts in_else
in_stmt-returns-in-Block g t c =
    let m = c.args.of.now.mark in
    let a = asked_of c.args.asked.now in
    let w = walk_of c.args.walk.now in
    on_ok_weaker c.in_block.result (λ e. e
    ∙ ap (λ xs. restored w (in_stmts a w (stmts_of xs))) c.deref-in-Block.ensures.value
    ∙ sym (ap (λ k. in_stmt a w (stmt_kind m k)) c.in-Block.is ∙ ap (in_stmt a w) (stmt_kind-Block _ m c.in-Block.body))) c.in_block.ensures

pub in_stmt-returns-in-Sync : goal.in_stmt-returns-in-Sync
unfolding in_stmt in_stmts in_else
in_stmt-returns-in-Sync g t c =
    let m = c.args.of.now.mark in
    let a = asked_of c.args.asked.now in
    let w = walk_of c.args.walk.now in
    on_ok_weaker c.in_block-in-Sync.result (λ e. e
    ∙ ap (λ xs. restored w (in_stmts a w (stmts_of xs))) c.deref-in-Sync.ensures.value
    ∙ sym (ap (λ k. in_stmt a w (stmt_kind m k)) c.in-Sync.is ∙ ap (in_stmt a w) (stmt_kind-Sync _ m c.in-Sync.field-0 c.in-Sync.body))) c.in_block-in-Sync.ensures

pub in_stmts-loop-of-preserved : goal.in_stmts-loop-of-preserved
in_stmts-loop-of-preserved g t c =
    let a = asked_of c.args.asked.now in
    let body = c.args.body.now in
    let i = c.loop-of.of-index in
    ap (λ w. in_stmts a w (stmts_of (drop (i + 1) body))) c.in_ok-in_stmt.ensures
    ∙ sym (stmts_go a (walk_of c.loop-of.walk) body i c.of-item.result c.loop-of-test.true c.of-item.is)
    ∙ c.loop-of.invariant

pub in_stmts-returns : goal.in_stmts-returns
in_stmts-returns g t c =
    sym (stmts_end (asked_of c.args.asked.now) (walk_of c.loop-of.walk) c.args.body.now c.loop-of.of-index c.loop-of-test.false) ∙ c.loop-of.invariant

pub within-returns : goal.within-returns
within-returns g t c =
    let old = c.args.walk.now in
    let behind = c.in_stmt.new.walk in
    let depth : c.len-depth.result ≡ length old.scope.items = c.len-depth.ensures ∙ old.scope.ok.0 in
    cut old behind c.truncate.new.self (c.truncate.ensures.items ∙ ap (λ n. take n behind.scope.items) depth)
    ∙ ap (restored (walk_of old)) c.in_ok-in_stmt.ensures

pub in_block-returns : goal.in_block-returns
in_block-returns g t c =
    let old = c.args.walk.now in
    let behind = c.in_stmts.new.walk in
    let depth : c.len-depth.result ≡ length old.scope.items = c.len-depth.ensures ∙ old.scope.ok.0 in
    cut old behind c.truncate.new.self (c.truncate.ensures.items ∙ ap (λ n. take n behind.scope.items) depth)
    ∙ ap (restored (walk_of old)) c.in_ok-in_stmts.ensures
