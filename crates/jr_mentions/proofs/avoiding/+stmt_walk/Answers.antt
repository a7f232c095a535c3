use Rattle.std.proofs.Common.{sym, ap, ◌∙◌}
use Rattle.std.specs.Prelude.{◌&&◌}
use Rattle.jr_ast.specs.View.{stmt_of, stmts_of, else_of, stmt_kind, stmt_row, held_else}
use Rattle.jr_ast.proofs.Rows.{stmt_kind-If, stmt_kind-Block, stmt_kind-Sync}
use Rattle.jr_ast.proofs.Sizes.{stmt_size, stmts_size, else_size, stmts_add}
use Rattle.jr_mentions.specs.ApartView.{names_in}
use Rattle.jr_mentions.specs.AvoidTests.{avoids_stmt, avoids_else, avoids_stmts}
use Rattle.jr_mentions.proofs.TestLoops.{all_fails, all_goes, all_ends}
use Rattle.jr_mentions.proofs.TreeLoops.{stmt_test, stmts_test, no_stmts, more_stmts}
use Rattle.jr_mentions.proofs.TreeMeasures.{less, falls_left, falls_right, falls_only, falls_held, falls_item}
use Rattle.jr_mentions.proofs.avoiding.+stmt_walk.Goals as goal

pub spares_stmt-spares_stmt-requires : goal.spares_stmt-spares_stmt-requires
unfolding stmt_size stmts_size else_size stmt_kind stmt_row held_else
spares_stmt-spares_stmt-requires g t c =
    let whole = stmt_size (stmt_of c.args.of.now) in
    let m = c.args.of.now.mark in
    let at = c.in-If in
    λ κs o. (less _ t (falls_left (λ x. stmt_size (stmt_of x)) whole (else_size (else_of at.no)) at.yes.value c.deref.result.now t c.deref.ensures (ap (λ d. stmt_size (stmt_kind m d)) at.is ∙ ap stmt_size (stmt_kind-If _ m at.test at.yes at.no)) c.decreases), o)

pub spares_stmt-spares_else-requires : goal.spares_stmt-spares_else-requires
unfolding stmt_size stmts_size else_size stmt_kind stmt_row held_else
spares_stmt-spares_else-requires g t c =
    let whole = stmt_size (stmt_of c.args.of.now) in
    let m = c.args.of.now.mark in
    let at = c.in-If in
    λ κs o. (falls_right (λ x. else_size (else_of x)) whole (stmt_size (stmt_of at.yes.value)) at.no at.no t (λ i. at.no) (ap (λ d. stmt_size (stmt_kind m d)) at.is ∙ ap stmt_size (stmt_kind-If _ m at.test at.yes at.no)) c.decreases, o)

pub spares_stmt-spares_stmt-requires-in-While : goal.spares_stmt-spares_stmt-requires-in-While
unfolding stmt_size stmts_size else_size stmt_kind stmt_row held_else
spares_stmt-spares_stmt-requires-in-While g t c =
    let whole = stmt_size (stmt_of c.args.of.now) in
    let m = c.args.of.now.mark in
    let at = c.in-While in
    λ κs o. (less _ t (falls_only (λ x. stmt_size (stmt_of x)) whole at.body.value c.deref-in-While.result.now t c.deref-in-While.ensures (ap (λ d. stmt_size (stmt_kind m d)) at.is) c.decreases), o)

pub spares_stmt-spares_stmts-requires : goal.spares_stmt-spares_stmts-requires
unfolding stmt_size stmts_size else_size stmt_kind stmt_row held_else
spares_stmt-spares_stmts-requires g t c =
    let whole = stmt_size (stmt_of c.args.of.now) in
    let m = c.args.of.now.mark in
    let at = c.in-Block in
    λ κs o. (falls_only (λ xs. stmts_size (stmts_of xs)) whole at.body.items c.deref-in-Block.result.now t c.deref-in-Block.ensures.value (ap (λ d. stmt_size (stmt_kind m d)) at.is ∙ ap stmt_size (stmt_kind-Block _ m at.body)) c.decreases, o)

pub spares_stmt-spares_stmts-requires-in-Sync : goal.spares_stmt-spares_stmts-requires-in-Sync
unfolding stmt_size stmts_size else_size stmt_kind stmt_row held_else
spares_stmt-spares_stmts-requires-in-Sync g t c =
    let whole = stmt_size (stmt_of c.args.of.now) in
    let m = c.args.of.now.mark in
    let at = c.in-Sync in
    λ κs o. (falls_only (λ xs. stmts_size (stmts_of xs)) whole at.body.items c.deref-in-Sync.result.now t c.deref-in-Sync.ensures.value (ap (λ d. stmt_size (stmt_kind m d)) at.is ∙ ap stmt_size (stmt_kind-Sync _ m at.lock at.body)) c.decreases, o)

pub spares_else-spares_stmt-requires : goal.spares_else-spares_stmt-requires
unfolding stmt_size stmts_size else_size
spares_else-spares_stmt-requires g t c =
    let same_size = ap (λ x. stmt_size (stmt_of x)) c.deref.ensures ∙ sym (ap (λ o. else_size (else_of o)) c.in-Some.is) in
    λ κs o. (falls_held _ (else_size (else_of c.args.of.now)) t same_size c.decreases, o)

pub spares_stmts-spares_stmt-requires : goal.spares_stmts-spares_stmt-requires
spares_stmts-spares_stmt-requires g t c =
    λ κs o. (falls_item (λ x. stmt_size (stmt_of x)) (λ xs. stmts_size (stmts_of xs)) stmts_add c.args.body.now c.loop-of.of-index c.of-item.result t c.loop-of-test.true c.of-item.is c.decreases, o)

pub spares_stmts-returns-then-not-spares_stmt : goal.spares_stmts-returns-then-not-spares_stmt
spares_stmts-returns-then-not-spares_stmt g t c =
    let A = g.row.A.Denot in
    let names = names_in c.args.apart.now in
    all_fails (stmt_test A names) (stmts_test A names) (no_stmts A names) (more_stmts A names) c.args.body.now c.loop-of.of-index c.of-item.result c.spares_stmt.result c.loop-of-test.true c.of-item.is c.spares_stmt.ensures c.if-not-spares_stmt.true c.loop-of.invariant

pub spares_stmts-loop-of-preserved : goal.spares_stmts-loop-of-preserved
spares_stmts-loop-of-preserved g t c =
    let A = g.row.A.Denot in
    let names = names_in c.args.apart.now in
    all_goes (stmt_test A names) (stmts_test A names) (no_stmts A names) (more_stmts A names) c.args.body.now c.loop-of.of-index c.of-item.result c.spares_stmt.result c.loop-of-test.true c.of-item.is c.spares_stmt.ensures c.if-not-spares_stmt.false c.loop-of.invariant

pub spares_stmts-returns : goal.spares_stmts-returns
spares_stmts-returns g t c =
    let A = g.row.A.Denot in
    let names = names_in c.args.apart.now in
    all_ends (stmt_test A names) (stmts_test A names) (no_stmts A names) (more_stmts A names) c.args.body.now c.loop-of.of-index c.loop-of-test.false c.loop-of.invariant

pub spares_stmt-returns-in-If : goal.spares_stmt-returns-in-If
unfolding avoids_stmt avoids_else avoids_stmts
spares_stmt-returns-in-If g t c =
    let at = c.in-If in
    let m = c.args.of.now.mark in
    let names = names_in c.args.apart.now in
    let view = ap (λ d. avoids_stmt names (stmt_kind m d)) at.is ∙ ap (avoids_stmt names) (stmt_kind-If _ m at.test at.yes at.no) in
    (λ i. c.spares_expr-in-If.ensures i && (c.spares_stmt.ensures ∙ ap (λ x. avoids_stmt names (stmt_of x)) c.deref.ensures) i && c.spares_else.ensures i)
    ∙ sym view

pub spares_stmt-returns-in-Block : goal.spares_stmt-returns-in-Block
unfolding avoids_stmt avoids_else avoids_stmts
spares_stmt-returns-in-Block g t c =
    let at = c.in-Block in
    let m = c.args.of.now.mark in
    let names = names_in c.args.apart.now in
    let view = ap (λ d. avoids_stmt names (stmt_kind m d)) at.is ∙ ap (avoids_stmt names) (stmt_kind-Block _ m at.body) in
    (c.spares_stmts.ensures ∙ ap (λ es. avoids_stmts names (stmts_of es)) c.deref-in-Block.ensures.value)
    ∙ sym view

pub spares_stmt-returns-in-Sync : goal.spares_stmt-returns-in-Sync
unfolding avoids_stmt avoids_else avoids_stmts
spares_stmt-returns-in-Sync g t c =
    let at = c.in-Sync in
    let m = c.args.of.now.mark in
    let names = names_in c.args.apart.now in
    let view = ap (λ d. avoids_stmt names (stmt_kind m d)) at.is ∙ ap (avoids_stmt names) (stmt_kind-Sync _ m at.lock at.body) in
    (λ i. c.spares_expr-in-Sync.ensures i && (c.spares_stmts-in-Sync.ensures ∙ ap (λ es. avoids_stmts names (stmts_of es)) c.deref-in-Sync.ensures.value) i)
    ∙ sym view
