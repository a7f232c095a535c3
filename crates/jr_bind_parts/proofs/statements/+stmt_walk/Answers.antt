use Rattle.std.proofs.Common.{◌≡◌, ◌++◌, ℕ, None, List, ap, sym, refl, subst, ◌∙◌, take, length, arith}
use Rattle.std.proofs.lemmas.Result.{IfOk-weaker}
use Rattle.std.proofs.lemmas.List.{append-nil}
use Rattle.std.specs.Prelude.{option_map}
use Rattle.jr_text.specs.declared.spans.Span.{Span}
use Rattle.jr_ast.specs.StatementTree as statement
use Rattle.jr_ast.specs.declared.stmts.Stmt.{Stmt}
use Rattle.jr_ast.specs.View.{word_of, type_of, expr_of, stmt_of, stmts_of, else_of, stmt_kind, stmt_row, held_else}
use Rattle.jr_ast.proofs.Rows.{stmt_kind-If, stmt_kind-Block, stmt_kind-Sync}
use Rattle.jr_ast.proofs.Sizes.{stmt_size, stmts_size, else_size}
use Rattle.jr_scopes.specs.Tracked.{locals_of}
use Rattle.jr_bind_parts.specs.declared.completing.Behind.{Behind}
use Rattle.jr_bind_expr.specs.Places.{context_of}
use Rattle.jr_bind_expr.specs.Fits.{FitsType, FitsExp, FitsMaybe, FitsStmt, FitsElse, FitsStmts}
use Rattle.jr_bind_parts.specs.Flow.{reached, unreached, behind_branches, behind_loop, StmtPasses, InnerPasses, ElsePasses, BodyPasses, ItemPasses}
use Rattle.jr_bind_parts.proofs.Passing.{empty_passes, eval_passes, return_passes, local_passes, loop_passes, branch_passes, block_passes, sync_passes, none_passes, some_passes, inner_passes, item_passes}
use Rattle.jr_bind_parts.proofs.Bodies.{own_fits_stmt, shown_fits_stmt, shown_fits_body, left_fits_stmt, falls_first, falls_second, falls_only, falls_list, falls_held, falls_item, Going, going_start, item_goes, list_ends}
use Rattle.jr_expr_types.specs.Trees.{flat, flats}
use Rattle.jr_expr_types.specs.TypedTrees.{stmt_parts, stmt_tree}
use Rattle.jr_bind_parts.specs.TypedFlow.{else_slots, body_slots}
use Rattle.jr_bind_expr.proofs.TypedParts.{start as start_of, close, within}
use Rattle.jr_bind_parts.proofs.TypedPassing.{eval_slots, return_slots, loop_slots, branch_slots, block_slots, sync_slots, next_body, body_ends}
use Rattle.jr_bind_parts.proofs.statements.+stmt_walk.Goals as goal

pub stmt-span-at-requires : goal.stmt-span-at-requires
stmt-span-at-requires g t c = own_fits_stmt (λ (m : g.row.A.Denot) (b : ℕ). (g.A.Mark.span_from m b).from) g.A.Mark.fits_at c.args.base c.args.of.now c.requires.fits

pub stmt-local-requires-clause-fits : goal.stmt-local-requires-clause-fits
unfolding stmt_size stmts_size else_size stmt_kind stmt_row held_else FitsStmt FitsElse FitsStmts
stmt-local-requires-clause-fits g t c =
    let B = λ (m : g.row.A.Denot) (b : ℕ). (g.A.Mark.span_from m b).from in
    let F = g.A.Mark.fits_at in
    let base = c.args.base in
    let m = c.args.of.now.mark in
    let start = ap (λ (z : Span). z.from) c.span-at.ensures in
    let f = subst (λ (x : statement.Stmt g.row.A.Denot). FitsStmt B F base x) (ap (stmt_kind m) c.in-Local.is) c.requires.fits in
    subst (λ (a : ℕ). FitsType B F a (type_of c.in-Local.ty)) (sym start) f.1

pub stmt-local-requires-clause-fits_name : goal.stmt-local-requires-clause-fits_name
unfolding stmt_size stmts_size else_size stmt_kind stmt_row held_else FitsStmt FitsElse FitsStmts
stmt-local-requires-clause-fits_name g t c =
    let B = λ (m : g.row.A.Denot) (b : ℕ). (g.A.Mark.span_from m b).from in
    let F = g.A.Mark.fits_at in
    let base = c.args.base in
    let m = c.args.of.now.mark in
    let start = ap (λ (z : Span). z.from) c.span-at.ensures in
    let f = subst (λ (x : statement.Stmt g.row.A.Denot). FitsStmt B F base x) (ap (stmt_kind m) c.in-Local.is) c.requires.fits in
    subst (λ (a : ℕ). F c.in-Local.name.mark a) (sym start) f.2

pub stmt-local-requires-clause-fits_init : goal.stmt-local-requires-clause-fits_init
unfolding stmt_size stmts_size else_size stmt_kind stmt_row held_else FitsStmt FitsElse FitsStmts
stmt-local-requires-clause-fits_init g t c =
    let B = λ (m : g.row.A.Denot) (b : ℕ). (g.A.Mark.span_from m b).from in
    let F = g.A.Mark.fits_at in
    let base = c.args.base in
    let m = c.args.of.now.mark in
    let start = ap (λ (z : Span). z.from) c.span-at.ensures in
    let f = subst (λ (x : statement.Stmt g.row.A.Denot). FitsStmt B F base x) (ap (stmt_kind m) c.in-Local.is) c.requires.fits in
    subst (λ (a : ℕ). FitsExp B F a (expr_of c.in-Local.init)) (sym start) f.3

pub stmt-eval-requires-clause-fits : goal.stmt-eval-requires-clause-fits
unfolding stmt_size stmts_size else_size stmt_kind stmt_row held_else FitsStmt FitsElse FitsStmts
stmt-eval-requires-clause-fits g t c =
    let B = λ (m : g.row.A.Denot) (b : ℕ). (g.A.Mark.span_from m b).from in
    let F = g.A.Mark.fits_at in
    let base = c.args.base in
    let m = c.args.of.now.mark in
    let start = ap (λ (z : Span). z.from) c.span-at.ensures in
    let f = subst (λ (x : statement.Stmt g.row.A.Denot). FitsStmt B F base x) (ap (stmt_kind m) c.in-Eval.is) c.requires.fits in
    subst (λ (a : ℕ). FitsExp B F a (expr_of c.in-Eval.value)) (sym start) f.1

pub stmt-condition-requires-clause-fits : goal.stmt-condition-requires-clause-fits
unfolding stmt_size stmts_size else_size stmt_kind stmt_row held_else FitsStmt FitsElse FitsStmts
stmt-condition-requires-clause-fits g t c =
    let B = λ (m : g.row.A.Denot) (b : ℕ). (g.A.Mark.span_from m b).from in
    let F = g.A.Mark.fits_at in
    let base = c.args.base in
    let m = c.args.of.now.mark in
    let start = ap (λ (z : Span). z.from) c.span-at.ensures in
    let f = subst (λ (x : statement.Stmt g.row.A.Denot). FitsStmt B F base x) (ap (stmt_kind m) c.in-If.is ∙ stmt_kind-If _ m c.in-If.test c.in-If.yes c.in-If.no) c.requires.fits in
    subst (λ (a : ℕ). FitsExp B F a (expr_of c.in-If.test)) (sym start) f.1

pub stmt-loop_condition-requires-clause-fits : goal.stmt-loop_condition-requires-clause-fits
unfolding stmt_size stmts_size else_size stmt_kind stmt_row held_else FitsStmt FitsElse FitsStmts
stmt-loop_condition-requires-clause-fits g t c =
    let B = λ (m : g.row.A.Denot) (b : ℕ). (g.A.Mark.span_from m b).from in
    let F = g.A.Mark.fits_at in
    let base = c.args.base in
    let m = c.args.of.now.mark in
    let start = ap (λ (z : Span). z.from) c.span-at.ensures in
    let f = subst (λ (x : statement.Stmt g.row.A.Denot). FitsStmt B F base x) (ap (stmt_kind m) c.in-While.is) c.requires.fits in
    subst (λ (a : ℕ). FitsExp B F a (expr_of c.in-While.test)) (sym start) f.1

pub stmt-lock-requires-clause-fits : goal.stmt-lock-requires-clause-fits
unfolding stmt_size stmts_size else_size stmt_kind stmt_row held_else FitsStmt FitsElse FitsStmts
stmt-lock-requires-clause-fits g t c =
    let B = λ (m : g.row.A.Denot) (b : ℕ). (g.A.Mark.span_from m b).from in
    let F = g.A.Mark.fits_at in
    let base = c.args.base in
    let m = c.args.of.now.mark in
    let start = ap (λ (z : Span). z.from) c.span-at.ensures in
    let f = subst (λ (x : statement.Stmt g.row.A.Denot). FitsStmt B F base x) (ap (stmt_kind m) c.in-Sync.is ∙ stmt_kind-Sync _ m c.in-Sync.object c.in-Sync.body) c.requires.fits in
    subst (λ (a : ℕ). FitsExp B F a (expr_of c.in-Sync.object)) (sym start) f.1

pub stmt-return_value-requires-clause-fits : goal.stmt-return_value-requires-clause-fits
unfolding stmt_size stmts_size else_size stmt_kind stmt_row held_else FitsStmt FitsElse FitsStmts
stmt-return_value-requires-clause-fits g t c =
    let B = λ (m : g.row.A.Denot) (b : ℕ). (g.A.Mark.span_from m b).from in
    let F = g.A.Mark.fits_at in
    let base = c.args.base in
    let m = c.args.of.now.mark in
    let start = ap (λ (z : Span). z.from) c.span-at.ensures in
    let f = subst (λ (x : statement.Stmt g.row.A.Denot). FitsStmt B F base x) (ap (stmt_kind m) c.in-Return.is) c.requires.fits in
    subst (λ (a : ℕ). FitsMaybe B F a (option_map expr_of c.in-Return.value)) (sym start) f.1

pub stmt-inner-requires : goal.stmt-inner-requires
unfolding stmt_size stmts_size else_size stmt_kind stmt_row held_else FitsStmt FitsElse FitsStmts
stmt-inner-requires g t c =
    let B = λ (m : g.row.A.Denot) (b : ℕ). (g.A.Mark.span_from m b).from in
    let F = g.A.Mark.fits_at in
    let base = c.args.base in
    let m = c.args.of.now.mark in
    let start = ap (λ (z : Span). z.from) c.span-at.ensures in
    let f = subst (λ (x : statement.Stmt g.row.A.Denot). FitsStmt B F base x) (ap (stmt_kind m) c.in-If.is ∙ stmt_kind-If _ m c.in-If.test c.in-If.yes c.in-If.no) c.requires.fits in
    let size = ap (λ (x : Stmt g.row.A.Denot). stmt_size (stmt_of x)) c.deref.ensures in
    let w = ap stmt_size (ap (stmt_kind m) c.in-If.is ∙ stmt_kind-If _ m c.in-If.test c.in-If.yes c.in-If.no) in
    λ κs o. (falls_first _ _ _ _ t size w c.decreases, (o, (c.requires.knows, shown_fits_stmt B F _ _ _ _ start c.deref.ensures f.2)))

pub stmt-inner-requires-in-While : goal.stmt-inner-requires-in-While
unfolding stmt_size stmts_size else_size stmt_kind stmt_row held_else FitsStmt FitsElse FitsStmts
stmt-inner-requires-in-While g t c =
    let B = λ (m : g.row.A.Denot) (b : ℕ). (g.A.Mark.span_from m b).from in
    let F = g.A.Mark.fits_at in
    let base = c.args.base in
    let m = c.args.of.now.mark in
    let start = ap (λ (z : Span). z.from) c.span-at.ensures in
    let f = subst (λ (x : statement.Stmt g.row.A.Denot). FitsStmt B F base x) (ap (stmt_kind m) c.in-While.is) c.requires.fits in
    let size = ap (λ (x : Stmt g.row.A.Denot). stmt_size (stmt_of x)) c.deref-in-While.ensures in
    let w = ap stmt_size (ap (stmt_kind m) c.in-While.is) in
    λ κs o. (falls_only _ _ _ t size w c.decreases, (o, (c.requires.knows, shown_fits_stmt B F _ _ _ _ start c.deref-in-While.ensures f.2)))

pub stmt-otherwise-requires : goal.stmt-otherwise-requires
unfolding stmt_size stmts_size else_size stmt_kind stmt_row held_else FitsStmt FitsElse FitsStmts
stmt-otherwise-requires g t c =
    let B = λ (m : g.row.A.Denot) (b : ℕ). (g.A.Mark.span_from m b).from in
    let F = g.A.Mark.fits_at in
    let base = c.args.base in
    let m = c.args.of.now.mark in
    let start = ap (λ (z : Span). z.from) c.span-at.ensures in
    let f = subst (λ (x : statement.Stmt g.row.A.Denot). FitsStmt B F base x) (ap (stmt_kind m) c.in-If.is ∙ stmt_kind-If _ m c.in-If.test c.in-If.yes c.in-If.no) c.requires.fits in
    let w = ap stmt_size (ap (stmt_kind m) c.in-If.is ∙ stmt_kind-If _ m c.in-If.test c.in-If.yes c.in-If.no) in
    λ κs o. (falls_second _ _ _ _ t refl w c.decreases, (o, (c.in_ok-yes-in-If.ensures.passes.knows, subst (λ (a : ℕ). FitsElse B F a (else_of c.in-If.no)) (sym start) f.3)))

pub stmt-stmts-requires : goal.stmt-stmts-requires
unfolding stmt_size stmts_size else_size stmt_kind stmt_row held_else FitsStmt FitsElse FitsStmts
stmt-stmts-requires g t c =
    let B = λ (m : g.row.A.Denot) (b : ℕ). (g.A.Mark.span_from m b).from in
    let F = g.A.Mark.fits_at in
    let base = c.args.base in
    let m = c.args.of.now.mark in
    let start = ap (λ (z : Span). z.from) c.span-at.ensures in
    let f = subst (λ (x : statement.Stmt g.row.A.Denot). FitsStmt B F base x) (ap (stmt_kind m) c.in-Block.is ∙ stmt_kind-Block _ m c.in-Block.body) c.requires.fits in
    let size = ap (λ (xs : List (Stmt g.row.A.Denot)). stmts_size (stmts_of xs)) c.deref-in-Block.ensures.value in
    let w = ap stmt_size (ap (stmt_kind m) c.in-Block.is ∙ stmt_kind-Block _ m c.in-Block.body) in
    λ κs o. (falls_list _ _ _ t size w c.decreases, (o, (c.requires.knows, shown_fits_body B F _ _ _ _ start c.deref-in-Block.ensures.value f.1)))

pub stmt-stmts-requires-in-Sync : goal.stmt-stmts-requires-in-Sync
unfolding stmt_size stmts_size else_size stmt_kind stmt_row held_else FitsStmt FitsElse FitsStmts
stmt-stmts-requires-in-Sync g t c =
    let B = λ (m : g.row.A.Denot) (b : ℕ). (g.A.Mark.span_from m b).from in
    let F = g.A.Mark.fits_at in
    let base = c.args.base in
    let m = c.args.of.now.mark in
    let start = ap (λ (z : Span). z.from) c.span-at.ensures in
    let f = subst (λ (x : statement.Stmt g.row.A.Denot). FitsStmt B F base x) (ap (stmt_kind m) c.in-Sync.is ∙ stmt_kind-Sync _ m c.in-Sync.object c.in-Sync.body) c.requires.fits in
    let size = ap (λ (xs : List (Stmt g.row.A.Denot)). stmts_size (stmts_of xs)) c.deref-in-Sync.ensures.value in
    let w = ap stmt_size (ap (stmt_kind m) c.in-Sync.is ∙ stmt_kind-Sync _ m c.in-Sync.object c.in-Sync.body) in
    λ κs o. (falls_list _ _ _ t size w c.decreases, (o, (c.requires.knows, shown_fits_body B F _ _ _ _ start c.deref-in-Sync.ensures.value f.2)))

pub stmt-returns-in-Local-clause-passes : goal.stmt-returns-in-Local-clause-passes
unfolding stmt_kind stmt_row held_else
stmt-returns-in-Local-clause-passes g t c =
    let B = λ (m : g.row.A.Denot) (b : ℕ). (g.A.Mark.span_from m b).from in
    let rows = c.args.table.now in
    let p = c.args.place.now in
    let n = c.args.number in
    let base = c.args.base in
    let m = c.args.of.now.mark in
    let start = ap (λ (z : Span). z.from) c.span-at.ensures in
    let old = c.args.log.now.items in
    IfOk-weaker c.local.result _ _ (λ b h. subst (λ (x : statement.Stmt g.row.A.Denot). StmtPasses B rows n p base x old b c.local.new.place c.local.new.log.items) (sym (ap (stmt_kind m) c.in-Local.is))
    (local_passes B rows n p c.requires.knows base c.span-at.result.from m start c.in-Local.is_final (type_of c.in-Local.ty) (word_of c.in-Local.name) (expr_of c.in-Local.init) b _ old _ h)) c.local.ensures.passes

pub stmt-returns-in_ok-eval-in-Eval-clause-passes : goal.stmt-returns-in_ok-eval-in-Eval-clause-passes
unfolding stmt_kind stmt_row held_else
stmt-returns-in_ok-eval-in-Eval-clause-passes g t c =
    let B = λ (m : g.row.A.Denot) (b : ℕ). (g.A.Mark.span_from m b).from in
    let rows = c.args.table.now in
    let p = c.args.place.now in
    let n = c.args.number in
    let base = c.args.base in
    let m = c.args.of.now.mark in
    let start = ap (λ (z : Span). z.from) c.span-at.ensures in
    let old = c.args.log.now.items in
    subst (λ (b : Behind). StmtPasses B rows n p base (stmt_of c.args.of.now) old b p c.eval.new.log.items) (sym c.reachable_from.ensures)
    (subst (λ (x : statement.Stmt g.row.A.Denot). StmtPasses B rows n p base x old (reached n) p c.eval.new.log.items) (sym (ap (stmt_kind m) c.in-Eval.is)) (eval_passes B rows n p c.requires.knows base c.span-at.result.from m start (expr_of c.in-Eval.value) old _ c.in_ok-eval-in-Eval.ensures.notes))

pub stmt-returns-in_ok-return_value-in-Return-clause-passes : goal.stmt-returns-in_ok-return_value-in-Return-clause-passes
unfolding stmt_kind stmt_row held_else
stmt-returns-in_ok-return_value-in-Return-clause-passes g t c =
    let B = λ (m : g.row.A.Denot) (b : ℕ). (g.A.Mark.span_from m b).from in
    let rows = c.args.table.now in
    let p = c.args.place.now in
    let n = c.args.number in
    let base = c.args.base in
    let m = c.args.of.now.mark in
    let start = ap (λ (z : Span). z.from) c.span-at.ensures in
    let old = c.args.log.now.items in
    subst (λ (b : Behind). StmtPasses B rows n p base (stmt_of c.args.of.now) old b p c.return_value.new.log.items) (sym c.unreachable_from.ensures)
    (subst (λ (x : statement.Stmt g.row.A.Denot). StmtPasses B rows n p base x old (unreached n) p c.return_value.new.log.items) (sym (ap (stmt_kind m) c.in-Return.is)) (return_passes B rows n p c.requires.knows base c.span-at.result.from m start (option_map expr_of c.in-Return.value) old _ c.in_ok-return_value-in-Return.ensures.notes))

pub stmt-returns-in-Empty-clause-passes : goal.stmt-returns-in-Empty-clause-passes
unfolding stmt_kind stmt_row held_else
stmt-returns-in-Empty-clause-passes g t c =
    let B = λ (m : g.row.A.Denot) (b : ℕ). (g.A.Mark.span_from m b).from in
    let rows = c.args.table.now in
    let p = c.args.place.now in
    let n = c.args.number in
    let base = c.args.base in
    let m = c.args.of.now.mark in
    let start = ap (λ (z : Span). z.from) c.span-at.ensures in
    let old = c.args.log.now.items in
    subst (λ (b : Behind). StmtPasses B rows n p base (stmt_of c.args.of.now) old b p old) (sym c.reachable_from-in-Empty.ensures)
    (subst (λ (x : statement.Stmt g.row.A.Denot). StmtPasses B rows n p base x old (reached n) p old) (sym (ap (stmt_kind m) c.in-Empty.is)) (empty_passes B rows n p c.requires.knows base c.span-at.result.from m start old))

pub stmt-returns-in_ok-no-in-If-clause-passes : goal.stmt-returns-in_ok-no-in-If-clause-passes
unfolding stmt_kind stmt_row held_else
stmt-returns-in_ok-no-in-If-clause-passes g t c =
    let B = λ (m : g.row.A.Denot) (b : ℕ). (g.A.Mark.span_from m b).from in
    let rows = c.args.table.now in
    let p = c.args.place.now in
    let n = c.args.number in
    let base = c.args.base in
    let m = c.args.of.now.mark in
    let start = ap (λ (z : Span). z.from) c.span-at.ensures in
    let old = c.args.log.now.items in
    let shown = subst (λ (x : Stmt g.row.A.Denot). InnerPasses B rows n p c.span-at.result.from (stmt_of x) c.condition.new.log.items c.in_ok-yes-in-If.yes c.inner.new.place c.inner.new.log.items) c.deref.ensures c.in_ok-yes-in-If.ensures.passes in
    subst (λ (b : Behind). StmtPasses B rows n p base (stmt_of c.args.of.now) old b c.otherwise.new.place c.otherwise.new.log.items) (sym c.behind_branches.ensures)
    (subst (λ (x : statement.Stmt g.row.A.Denot). StmtPasses B rows n p base x old (behind_branches c.in_ok-yes-in-If.yes c.in_ok-no-in-If.no) c.otherwise.new.place c.otherwise.new.log.items) (sym (ap (stmt_kind m) c.in-If.is ∙ stmt_kind-If _ m c.in-If.test c.in-If.yes c.in-If.no)) (branch_passes B rows n p c.requires.knows base c.span-at.result.from m start (expr_of c.in-If.test) (stmt_of c.in-If.yes.value) (else_of c.in-If.no) c.in_ok-yes-in-If.yes c.in_ok-no-in-If.no c.inner.new.place c.otherwise.new.place old c.condition.new.log.items c.inner.new.log.items c.otherwise.new.log.items c.in_ok-condition-in-If.ensures.notes shown c.in_ok-no-in-If.ensures.passes))

pub stmt-returns-in_ok-body-in-While-clause-passes : goal.stmt-returns-in_ok-body-in-While-clause-passes
unfolding stmt_kind stmt_row held_else
stmt-returns-in_ok-body-in-While-clause-passes g t c =
    let B = λ (m : g.row.A.Denot) (b : ℕ). (g.A.Mark.span_from m b).from in
    let rows = c.args.table.now in
    let p = c.args.place.now in
    let n = c.args.number in
    let base = c.args.base in
    let m = c.args.of.now.mark in
    let start = ap (λ (z : Span). z.from) c.span-at.ensures in
    let old = c.args.log.now.items in
    let shown = subst (λ (x : Stmt g.row.A.Denot). InnerPasses B rows n p c.span-at.result.from (stmt_of x) c.loop_condition.new.log.items c.in_ok-body-in-While.body c.inner-in-While.new.place c.inner-in-While.new.log.items) c.deref-in-While.ensures c.in_ok-body-in-While.ensures.passes in
    subst (λ (b : Behind). StmtPasses B rows n p base (stmt_of c.args.of.now) old b c.inner-in-While.new.place c.inner-in-While.new.log.items) (sym c.behind_loop.ensures)
    (subst (λ (x : statement.Stmt g.row.A.Denot). StmtPasses B rows n p base x old (behind_loop c.in_ok-body-in-While.body c.is_true.result) c.inner-in-While.new.place c.inner-in-While.new.log.items) (sym (ap (stmt_kind m) c.in-While.is)) (loop_passes B rows n p c.requires.knows base c.span-at.result.from m start (expr_of c.in-While.test) (stmt_of c.in-While.body.value) c.in_ok-body-in-While.body c.inner-in-While.new.place c.is_true.result old c.loop_condition.new.log.items c.inner-in-While.new.log.items c.in_ok-loop_condition-in-While.ensures.notes shown c.is_true.ensures))

pub stmt-returns-in-Block-clause-passes : goal.stmt-returns-in-Block-clause-passes
unfolding stmt_kind stmt_row held_else
stmt-returns-in-Block-clause-passes g t c =
    let B = λ (m : g.row.A.Denot) (b : ℕ). (g.A.Mark.span_from m b).from in
    let rows = c.args.table.now in
    let p = c.args.place.now in
    let n = c.args.number in
    let base = c.args.base in
    let m = c.args.of.now.mark in
    let start = ap (λ (z : Span). z.from) c.span-at.ensures in
    let old = c.args.log.now.items in
    IfOk-weaker c.stmts.result _ _ (λ b h. subst (λ (x : statement.Stmt g.row.A.Denot). StmtPasses B rows n p base x old b c.stmts.new.place c.stmts.new.log.items) (sym (ap (stmt_kind m) c.in-Block.is ∙ stmt_kind-Block _ m c.in-Block.body))
    (block_passes B rows n p c.requires.knows base c.span-at.result.from m start (stmts_of c.in-Block.body.items) b _ old _ (subst (λ (xs : List (Stmt g.row.A.Denot)). BodyPasses B rows n p c.span-at.result.from (stmts_of xs) old b c.stmts.new.place c.stmts.new.log.items) c.deref-in-Block.ensures.value h))) c.stmts.ensures.passes

pub stmt-returns-in_ok-lock-in-Sync-clause-passes : goal.stmt-returns-in_ok-lock-in-Sync-clause-passes
unfolding stmt_kind stmt_row held_else
stmt-returns-in_ok-lock-in-Sync-clause-passes g t c =
    let B = λ (m : g.row.A.Denot) (b : ℕ). (g.A.Mark.span_from m b).from in
    let rows = c.args.table.now in
    let p = c.args.place.now in
    let n = c.args.number in
    let base = c.args.base in
    let m = c.args.of.now.mark in
    let start = ap (λ (z : Span). z.from) c.span-at.ensures in
    let old = c.args.log.now.items in
    IfOk-weaker c.stmts-in-Sync.result _ _ (λ b h. subst (λ (x : statement.Stmt g.row.A.Denot). StmtPasses B rows n p base x old b c.stmts-in-Sync.new.place c.stmts-in-Sync.new.log.items) (sym (ap (stmt_kind m) c.in-Sync.is ∙ stmt_kind-Sync _ m c.in-Sync.object c.in-Sync.body))
    (sync_passes B rows n p c.requires.knows base c.span-at.result.from m start (expr_of c.in-Sync.object) (stmts_of c.in-Sync.body.items) b _ old _ _ c.in_ok-lock-in-Sync.ensures.notes (subst (λ (xs : List (Stmt g.row.A.Denot)). BodyPasses B rows n p c.span-at.result.from (stmts_of xs) c.lock.new.log.items b c.stmts-in-Sync.new.place c.stmts-in-Sync.new.log.items) c.deref-in-Sync.ensures.value h))) c.stmts-in-Sync.ensures.passes

pub inner-stmt-requires : goal.inner-stmt-requires
inner-stmt-requires g t c = λ κs o. (omega (arith, c.decreases), (o, (c.requires.knows, c.requires.fits)))

pub inner-truncate-requires : goal.inner-truncate-requires
inner-truncate-requires g t c = c.in_ok-behind.ensures.passes.knows.tracked

pub inner-returns-clause-passes : goal.inner-returns-clause-passes
inner-returns-clause-passes g t c =
    let B = λ (m : g.row.A.Denot) (b : ℕ). (g.A.Mark.span_from m b).from in
    let rows = c.args.table.now in
    let p = c.args.place.now in
    let old = c.args.log.now.items in
    let depth : c.len-depth.result ≡ length (locals_of p.locals) = c.len-depth.ensures in
    inner_passes B rows c.args.number p c.args.base (stmt_of c.args.of.now) old c.in_ok-behind.behind c.stmt.new.place c.stmt.new.log.items c.len-depth.result c.truncate.new.self depth c.in_ok-truncate.ensures.locals c.in_ok-truncate.ensures.tracked c.in_ok-behind.ensures.passes

pub otherwise-inner-requires : goal.otherwise-inner-requires
unfolding stmt_size stmts_size else_size stmt_kind stmt_row held_else FitsStmt FitsElse FitsStmts
otherwise-inner-requires g t c =
    let B = λ (m : g.row.A.Denot) (b : ℕ). (g.A.Mark.span_from m b).from in
    let F = g.A.Mark.fits_at in
    let f = subst (λ (o : _). FitsElse B F c.args.at (else_of o)) c.in-Some.is c.requires.fits in
    let size = ap (λ (x : Stmt g.row.A.Denot). stmt_size (stmt_of x)) c.deref.ensures ∙ sym (ap (λ o. else_size (else_of o)) c.in-Some.is) in
    λ κs o. (falls_held _ _ t size c.decreases, (o, (c.requires.knows, shown_fits_stmt B F _ _ _ _ refl c.deref.ensures f)))

pub otherwise-returns-in-None-clause-passes : goal.otherwise-returns-in-None-clause-passes
unfolding stmt_kind stmt_row held_else
otherwise-returns-in-None-clause-passes g t c =
    let B = λ (m : g.row.A.Denot) (b : ℕ). (g.A.Mark.span_from m b).from in
    let rows = c.args.table.now in
    let p = c.args.place.now in
    let old = c.args.log.now.items in
    subst (λ (b : Behind). ElsePasses B rows c.args.number p c.args.at (else_of c.args.of.now) old b p old) (sym c.reachable_from.ensures)
    (subst (λ o. ElsePasses B rows c.args.number p c.args.at (else_of o) old (reached c.args.number) p old) (sym c.in-None.is) (none_passes B rows c.args.number p c.requires.knows c.args.at old))

pub otherwise-returns-in-Some-clause-passes : goal.otherwise-returns-in-Some-clause-passes
unfolding stmt_kind stmt_row held_else
otherwise-returns-in-Some-clause-passes g t c =
    let B = λ (m : g.row.A.Denot) (b : ℕ). (g.A.Mark.span_from m b).from in
    let rows = c.args.table.now in
    let p = c.args.place.now in
    let old = c.args.log.now.items in
    IfOk-weaker c.inner.result _ _ (λ b h. subst (λ o. ElsePasses B rows c.args.number p c.args.at (else_of o) old b c.inner.new.place c.inner.new.log.items) (sym c.in-Some.is)
    (some_passes B rows c.args.number p c.args.at (stmt_of c.in-Some.of.value) old b _ _ (subst (λ (x : Stmt g.row.A.Denot). InnerPasses B rows c.args.number p c.args.at (stmt_of x) old b c.inner.new.place c.inner.new.log.items) c.deref.ensures h))) c.inner.ensures.passes

pub item-span-begin-requires : goal.item-span-begin-requires
item-span-begin-requires g t c = own_fits_stmt (λ (m : g.row.A.Denot) (b : ℕ). (g.A.Mark.span_from m b).from) g.A.Mark.fits_at c.args.at c.args.of.now c.requires.fits

pub item-stmt-requires : goal.item-stmt-requires
item-stmt-requires g t c = λ κs o. (omega (arith, c.decreases), (o, (c.requires.knows, c.requires.fits)))

pub item-returns-clause-passes : goal.item-returns-clause-passes
item-returns-clause-passes g t c =
    let B = λ (m : g.row.A.Denot) (b : ℕ). (g.A.Mark.span_from m b).from in
    let rows = c.args.table.now in
    let p = c.args.place.now in
    let old = c.args.log.now.items in
    subst (λ (b : Behind). ItemPasses B rows c.args.before.number p c.args.at c.args.before.completes (stmt_of c.args.of.now) old b c.stmt.new.place c.stmt.new.log.items) (sym c.behind_both.ensures)
    (item_passes B rows c.args.before p c.args.at c.args.of.now c.span-begin.result.from (ap (λ (z : Span). z.from) c.span-begin.ensures) old c.put_unless.new.log.items c.stmt.new.log.items c.in_ok-behind.behind c.stmt.new.place c.in_ok-put_unless.ensures c.in_ok-behind.ensures.passes)

pub stmts-loop-of-init : goal.stmts-loop-of-init
stmts-loop-of-init g t c =
    let B = λ (m : g.row.A.Denot) (b : ℕ). (g.A.Mark.span_from m b).from in
    let rows = c.args.table.now in
    let p = c.args.place.now in
    let old = c.args.log.now.items in
    let depth : c.len-depth.result ≡ length (locals_of p.locals) = c.len-depth.ensures in
    record {
      depth = depth;
      own = refl;
      fits = c.requires.fits;
      slots = ap (λ (b : Behind). c.args.types.now ++ body_slots rows b.number (context_of p) (stmts_of c.args.body.now)) c.reachable_from-behind.ensures;
      going = subst (λ (b : Behind). Going B rows c.args.number p c.args.at (stmts_of c.args.body.now) old b p old (stmts_of c.args.body.now)) (sym c.reachable_from-behind.ensures) (going_start B rows c.args.number p c.args.at (stmts_of c.args.body.now) old c.requires.knows);
    }

pub stmts-item-requires : goal.stmts-item-requires
stmts-item-requires g t c =
    let B = λ (m : g.row.A.Denot) (b : ℕ). (g.A.Mark.span_from m b).from in
    let F = g.A.Mark.fits_at in
    let i = c.loop-of.of-index in
    let body = c.args.body.now in
    let x = c.of-item.result in
    let lt = c.loop-of-test.true in
    let is = c.of-item.is in
    let inv = c.loop-of.invariant in
    λ κs o. (falls_item body i x t lt is c.decreases, (o, (inv.going.knows, (left_fits_stmt B F c.args.at body i x lt is inv.fits).0)))

pub stmts-loop-of-preserved : goal.stmts-loop-of-preserved
stmts-loop-of-preserved g t c =
    let B = λ (m : g.row.A.Denot) (b : ℕ). (g.A.Mark.span_from m b).from in
    let F = g.A.Mark.fits_at in
    let rows = c.args.table.now in
    let p = c.args.place.now in
    let old = c.args.log.now.items in
    let i = c.loop-of.of-index in
    let body = c.args.body.now in
    let x = c.of-item.result in
    let lt = c.loop-of-test.true in
    let is = c.of-item.is in
    let inv = c.loop-of.invariant in
    record {
      depth = inv.depth;
      own = inv.own;
      fits = (left_fits_stmt B F c.args.at body i x lt is inv.fits).1;
      slots = next_body rows body i x lt is c.loop-of.behind.number c.in_ok-behind.behind.number (context_of c.loop-of.place) (context_of c.item.new.place) _ c.loop-of.types c.item.new.types c.in_ok-behind.ensures.passes.number_is c.in_ok-behind.ensures.passes.context c.in_ok-behind.ensures.slots inv.slots;
      going = item_goes B rows c.args.number p c.args.at body old i x lt is c.loop-of.behind c.in_ok-behind.behind c.loop-of.place c.item.new.place c.loop-of.log.items c.item.new.log.items inv.going c.in_ok-behind.ensures.passes;
    }

pub stmts-truncate-requires : goal.stmts-truncate-requires
stmts-truncate-requires g t c = c.loop-of.invariant.going.knows.tracked

pub stmts-returns-clause-passes : goal.stmts-returns-clause-passes
stmts-returns-clause-passes g t c =
    let B = λ (m : g.row.A.Denot) (b : ℕ). (g.A.Mark.span_from m b).from in
    let rows = c.args.table.now in
    let p = c.args.place.now in
    let old = c.args.log.now.items in
    let inv = c.loop-of.invariant in
    list_ends B rows c.args.number p c.args.at c.args.body.now old c.loop-of.of-index c.loop-of-test.false c.loop-of.behind c.loop-of.place c.loop-of.log.items inv.going c.truncate.new.self (c.in_ok-truncate.ensures.locals ∙ ap (λ (d : ℕ). take d (locals_of c.loop-of.place.locals)) inv.depth) c.in_ok-truncate.ensures.tracked

pub stmt-returns-in-Local-clause-slots : goal.stmt-returns-in-Local-clause-slots
unfolding stmt_kind stmt_row held_else stmt_parts
stmt-returns-in-Local-clause-slots g t c =
    let rows = c.args.table.now in
    let n = c.args.number in
    let ctx = context_of c.args.place.now in
    let m = c.args.of.now.mark in
    let front = c.args.types.now in
    let shape = ap (λ x. front ++ flats (stmt_parts rows n ctx x)) (ap (stmt_kind m) c.in-Local.is) in
    IfOk-weaker c.local.result _ _ (λ b h. h ∙ sym shape) c.local.ensures.slots

pub stmt-returns-in_ok-eval-in-Eval-clause-slots : goal.stmt-returns-in_ok-eval-in-Eval-clause-slots
unfolding stmt_kind stmt_row held_else
stmt-returns-in_ok-eval-in-Eval-clause-slots g t c =
    let rows = c.args.table.now in
    let n = c.args.number in
    let ctx = context_of c.args.place.now in
    let m = c.args.of.now.mark in
    let front = c.args.types.now in
    let shape = ap (λ x. front ++ flats (stmt_parts rows n ctx x)) (ap (stmt_kind m) c.in-Eval.is) in
    eval_slots rows n ctx front m (expr_of c.in-Eval.value) _ c.in_ok-eval-in-Eval.ensures.slots ∙ sym shape

pub stmt-returns-in_ok-return_value-in-Return-clause-slots : goal.stmt-returns-in_ok-return_value-in-Return-clause-slots
unfolding stmt_kind stmt_row held_else
stmt-returns-in_ok-return_value-in-Return-clause-slots g t c =
    let rows = c.args.table.now in
    let n = c.args.number in
    let ctx = context_of c.args.place.now in
    let m = c.args.of.now.mark in
    let front = c.args.types.now in
    let shape = ap (λ x. front ++ flats (stmt_parts rows n ctx x)) (ap (stmt_kind m) c.in-Return.is) in
    return_slots rows n ctx front m (option_map expr_of c.in-Return.value) _ c.in_ok-return_value-in-Return.ensures.slots ∙ sym shape

pub stmt-returns-in-Empty-clause-slots : goal.stmt-returns-in-Empty-clause-slots
unfolding stmt_kind stmt_row held_else stmt_parts
stmt-returns-in-Empty-clause-slots g t c =
    let rows = c.args.table.now in
    let n = c.args.number in
    let ctx = context_of c.args.place.now in
    let m = c.args.of.now.mark in
    let front = c.args.types.now in
    let shape = ap (λ x. front ++ flats (stmt_parts rows n ctx x)) (ap (stmt_kind m) c.in-Empty.is) in
    start_of front ∙ sym shape

pub stmt-returns-in_ok-no-in-If-clause-slots : goal.stmt-returns-in_ok-no-in-If-clause-slots
unfolding stmt_kind stmt_row held_else
stmt-returns-in_ok-no-in-If-clause-slots g t c =
    let B = λ (m : g.row.A.Denot) (b : ℕ). (g.A.Mark.span_from m b).from in
    let rows = c.args.table.now in
    let n = c.args.number in
    let ctx = context_of c.args.place.now in
    let m = c.args.of.now.mark in
    let front = c.args.types.now in
    let shape = ap (λ x. front ++ flats (stmt_parts rows n ctx x)) (ap (stmt_kind m) c.in-If.is ∙ stmt_kind-If _ m c.in-If.test c.in-If.yes c.in-If.no) in
    let mid = c.condition.new.types in
    let passes = subst (λ (x : Stmt g.row.A.Denot). InnerPasses B rows n c.args.place.now c.span-at.result.from (stmt_of x) c.condition.new.log.items c.in_ok-yes-in-If.yes c.inner.new.place c.inner.new.log.items) c.deref.ensures c.in_ok-yes-in-If.ensures.passes in
    let yes_slots = c.in_ok-yes-in-If.ensures.slots ∙ ap (λ (x : Stmt g.row.A.Denot). mid ++ flat (stmt_tree rows n ctx (stmt_of x))) c.deref.ensures in
    branch_slots rows n ctx front m (expr_of c.in-If.test) (stmt_of c.in-If.yes.value) (else_of c.in-If.no) c.in_ok-yes-in-If.yes.number (context_of c.inner.new.place) mid c.inner.new.types _ c.in_ok-condition-in-If.ensures.slots yes_slots passes.number_is passes.context c.in_ok-no-in-If.ensures.slots ∙ sym shape

pub stmt-returns-in_ok-body-in-While-clause-slots : goal.stmt-returns-in_ok-body-in-While-clause-slots
unfolding stmt_kind stmt_row held_else
stmt-returns-in_ok-body-in-While-clause-slots g t c =
    let rows = c.args.table.now in
    let n = c.args.number in
    let ctx = context_of c.args.place.now in
    let m = c.args.of.now.mark in
    let front = c.args.types.now in
    let shape = ap (λ x. front ++ flats (stmt_parts rows n ctx x)) (ap (stmt_kind m) c.in-While.is) in
    let mid = c.loop_condition.new.types in
    let more = c.in_ok-body-in-While.ensures.slots ∙ ap (λ (x : Stmt g.row.A.Denot). mid ++ flat (stmt_tree rows n ctx (stmt_of x))) c.deref-in-While.ensures in
    loop_slots rows n ctx front m (expr_of c.in-While.test) (stmt_of c.in-While.body.value) mid _ c.in_ok-loop_condition-in-While.ensures.slots more ∙ sym shape

pub stmt-returns-in-Block-clause-slots : goal.stmt-returns-in-Block-clause-slots
unfolding stmt_kind stmt_row held_else
stmt-returns-in-Block-clause-slots g t c =
    let rows = c.args.table.now in
    let n = c.args.number in
    let ctx = context_of c.args.place.now in
    let m = c.args.of.now.mark in
    let front = c.args.types.now in
    let shape = ap (λ x. front ++ flats (stmt_parts rows n ctx x)) (ap (stmt_kind m) c.in-Block.is ∙ stmt_kind-Block _ m c.in-Block.body) in
    IfOk-weaker c.stmts.result _ _ (λ b h. block_slots rows n ctx front m (stmts_of c.in-Block.body.items) _ (h ∙ ap (λ (xs : List (Stmt g.row.A.Denot)). front ++ body_slots rows n ctx (stmts_of xs)) c.deref-in-Block.ensures.value) ∙ sym shape) c.stmts.ensures.slots

pub stmt-returns-in_ok-lock-in-Sync-clause-slots : goal.stmt-returns-in_ok-lock-in-Sync-clause-slots
unfolding stmt_kind stmt_row held_else
stmt-returns-in_ok-lock-in-Sync-clause-slots g t c =
    let rows = c.args.table.now in
    let n = c.args.number in
    let ctx = context_of c.args.place.now in
    let m = c.args.of.now.mark in
    let front = c.args.types.now in
    let shape = ap (λ x. front ++ flats (stmt_parts rows n ctx x)) (ap (stmt_kind m) c.in-Sync.is ∙ stmt_kind-Sync _ m c.in-Sync.object c.in-Sync.body) in
    let mid = c.lock.new.types in
    IfOk-weaker c.stmts-in-Sync.result _ _ (λ b h. sync_slots rows n ctx front m (expr_of c.in-Sync.object) (stmts_of c.in-Sync.body.items) mid _ c.in_ok-lock-in-Sync.ensures.slots (h ∙ ap (λ (xs : List (Stmt g.row.A.Denot)). mid ++ body_slots rows n ctx (stmts_of xs)) c.deref-in-Sync.ensures.value) ∙ sym shape) c.stmts-in-Sync.ensures.slots

pub inner-close_stmt-requires : goal.inner-close_stmt-requires
inner-close_stmt-requires g t c =
    let rows = c.args.table.now in
    let ctx = context_of c.args.place.now in
    let front = c.args.types.now in
    within front (stmt_parts rows c.args.number ctx (stmt_of c.args.of.now)) _ _ c.in_ok-behind.ensures.slots c.count-before.ensures

pub inner-returns-clause-slots : goal.inner-returns-clause-slots
inner-returns-clause-slots g t c =
    let rows = c.args.table.now in
    let ctx = context_of c.args.place.now in
    let front = c.args.types.now in
    close front (stmt_parts rows c.args.number ctx (stmt_of c.args.of.now)) None _ _ _ _ c.in_ok-behind.ensures.slots c.count-before.ensures refl (c.in_ok-close_stmt.ensures rows c.args.number ctx)

pub item-close_stmt-requires : goal.item-close_stmt-requires
item-close_stmt-requires g t c =
    let rows = c.args.table.now in
    let ctx = context_of c.args.place.now in
    let front = c.args.types.now in
    within front (stmt_parts rows c.args.before.number ctx (stmt_of c.args.of.now)) _ _ c.in_ok-behind.ensures.slots c.count-begun.ensures

pub item-returns-clause-slots : goal.item-returns-clause-slots
item-returns-clause-slots g t c =
    let rows = c.args.table.now in
    let ctx = context_of c.args.place.now in
    let front = c.args.types.now in
    close front (stmt_parts rows c.args.before.number ctx (stmt_of c.args.of.now)) None _ _ _ _ c.in_ok-behind.ensures.slots c.count-begun.ensures refl (c.in_ok-close_stmt.ensures rows c.args.before.number ctx)

pub otherwise-returns-in-None-clause-slots : goal.otherwise-returns-in-None-clause-slots
unfolding stmt_kind stmt_row held_else
otherwise-returns-in-None-clause-slots g t c =
    let rows = c.args.table.now in
    let n = c.args.number in
    let ctx = context_of c.args.place.now in
    let front = c.args.types.now in
    sym (append-nil front) ∙ sym (ap (λ o. front ++ else_slots rows n ctx (else_of o)) c.in-None.is)

pub otherwise-returns-in-Some-clause-slots : goal.otherwise-returns-in-Some-clause-slots
unfolding stmt_kind stmt_row held_else
otherwise-returns-in-Some-clause-slots g t c =
    let rows = c.args.table.now in
    let n = c.args.number in
    let ctx = context_of c.args.place.now in
    let front = c.args.types.now in
    IfOk-weaker c.inner.result _ _ (λ b h. h ∙ ap (λ (x : Stmt g.row.A.Denot). front ++ flat (stmt_tree rows n ctx (stmt_of x))) c.deref.ensures ∙ sym (ap (λ o. front ++ else_slots rows n ctx (else_of o)) c.in-Some.is)) c.inner.ensures.slots

pub stmts-returns-clause-slots : goal.stmts-returns-clause-slots
stmts-returns-clause-slots g t c =
    let rows = c.args.table.now in
    body_ends rows c.args.body.now c.loop-of.of-index c.loop-of-test.false _ _ _ _ c.loop-of.invariant.slots
