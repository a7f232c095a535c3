use Rattle.std.proofs.Common.{◌≡◌, ◌∙◌, ap, sym, subst, refl, List, Option, arith}
use Rattle.std.specs.Prelude.{slice_get}
use Rattle.std.specs.Global.{Global}
use Rattle.std.specs.declared.boxed.Box.{Box}
use Rattle.jr_text.specs.declared.spans.Span.{Span}
use Rattle.jr_ast.specs.declared.stmts.Stmt.{Stmt}
use Rattle.jr_ast.specs.StatementTree as statement
use Rattle.jr_ast.specs.View.{expr_of, stmt_of, stmts_of, else_of, stmt_kind, stmt_row, held_else}
use Rattle.jr_ast.proofs.Rows.{stmt_kind-If, stmt_kind-Block, stmt_kind-Sync}
use Rattle.jr_ast.proofs.Sizes.{stmt_size, stmts_size, else_size}
use Rattle.jr_grammar.specs.Layout.{itself}
use Rattle.jr_pieces.specs.Returns.{returns_in, returns_in_list}
use Rattle.jr_piece_search.specs.declared.returns.End as raw
use Rattle.jr_piece_search.specs.Ends.{EndsSo, BranchesEndSo, first_in, nothing, found, last}
use Rattle.jr_piece_search.specs.EndView.{end_of}
use Rattle.jr_piece_search.proofs.Ending as ends
use Rattle.jr_piece_search.proofs.returns.+return_walk.Goals as goal

pub head-in_branches-requires : goal.head-in_branches-requires
unfolding stmt_size stmts_size else_size stmt_kind stmt_row held_else
head-in_branches-requires t c =
    let m = c.args.of.now.mark in
    (ends.falls_both _ _ _ _ t (ap (λ (x : Stmt Span). stmt_size (stmt_of x)) c.deref.ensures) (ap stmt_size (ap (stmt_kind m) c.in-If.is ∙ stmt_kind-If _ m c.in-If.field-0 c.in-If.yes c.in-If.no)) c.decreases, tt)

pub head-first_return-requires : goal.head-first_return-requires
unfolding stmt_size stmts_size else_size stmt_kind stmt_row held_else
head-first_return-requires t c =
    let m = c.args.of.now.mark in
    (ends.falls_one _ _ _ t (ap (λ (x : List (Stmt Span)). stmts_size (stmts_of x)) c.deref-in-Block.ensures.value) (ap stmt_size (ap (stmt_kind m) c.in-Block.is ∙ stmt_kind-Block _ m c.in-Block.body)) c.decreases, tt)

pub head-first_return-requires-in-Sync : goal.head-first_return-requires-in-Sync
unfolding stmt_size stmts_size else_size stmt_kind stmt_row held_else
head-first_return-requires-in-Sync t c =
    let m = c.args.of.now.mark in
    (ends.falls_one _ _ _ t (ap (λ (x : List (Stmt Span)). stmts_size (stmts_of x)) c.deref-in-Sync.ensures.value) (ap stmt_size (ap (stmt_kind m) c.in-Sync.is ∙ stmt_kind-Sync _ m c.in-Sync.field-0 c.in-Sync.body)) c.decreases, tt)

pub head-returns-in-Local : goal.head-returns-in-Local
unfolding stmt_kind stmt_row held_else
head-returns-in-Local t c = subst (λ (x : statement.Stmt Span). EndsSo x nothing) (sym (ap (stmt_kind c.args.of.now.mark) c.in-Local.is)) (λ base. refl)

pub head-returns-in-Eval : goal.head-returns-in-Eval
unfolding stmt_kind stmt_row held_else
head-returns-in-Eval t c = subst (λ (x : statement.Stmt Span). EndsSo x nothing) (sym (ap (stmt_kind c.args.of.now.mark) c.in-Eval.is)) (λ base. refl)

pub head-returns-in-If : goal.head-returns-in-If
head-returns-in-If t c =
    let m = c.args.of.now.mark in
    let at = c.in-If in
    subst (λ (x : statement.Stmt Span). EndsSo x (end_of c.in_branches.result)) (sym (ap (stmt_kind m) at.is ∙ stmt_kind-If _ m at.field-0 at.yes at.no))
    (subst (λ (y : Stmt Span). EndsSo (statement.branch m (expr_of at.field-0) (stmt_of y) (else_of at.no)) (end_of c.in_branches.result)) c.deref.ensures (c.in_branches.ensures m (expr_of at.field-0)))

pub head-returns-in-While : goal.head-returns-in-While
unfolding stmt_kind stmt_row held_else
head-returns-in-While t c =
    let m = c.args.of.now.mark in
    let at = c.in-While in
    subst (λ (x : statement.Stmt Span). EndsSo x (last (stmt_of c.deref-in-While.result.now))) (sym (ap (stmt_kind m) at.is))
    (ends.loop_ends m (expr_of at.field-0) (stmt_of at.body.value) (stmt_of c.deref-in-While.result.now) (ap stmt_of c.deref-in-While.ensures))

pub head-returns-in-Return : goal.head-returns-in-Return
unfolding stmt_kind stmt_row held_else
head-returns-in-Return t c = subst (λ (x : statement.Stmt Span). EndsSo x (found c.args.of.now.mark)) (sym (ap (stmt_kind c.args.of.now.mark) c.in-Return.is)) (λ base. refl)

pub head-returns-in-Block : goal.head-returns-in-Block
head-returns-in-Block t c =
    let m = c.args.of.now.mark in
    let at = c.in-Block in
    subst (λ (x : statement.Stmt Span). EndsSo x (end_of c.as_end.result)) (sym (ap (stmt_kind m) at.is ∙ stmt_kind-Block _ m at.body))
    (c.as_end.ensures (statement.block m (stmts_of at.body.items)) (λ base. subst (λ (xs : List (Stmt Span)). slice_get (returns_in_list itself m.from (stmts_of xs)) 0 ≡ c.first_return.result) c.deref-in-Block.ensures.value (c.first_return.ensures m.from)))

pub head-returns-in-Sync : goal.head-returns-in-Sync
head-returns-in-Sync t c =
    let m = c.args.of.now.mark in
    let at = c.in-Sync in
    subst (λ (x : statement.Stmt Span). EndsSo x (end_of c.as_end-in-Sync.result)) (sym (ap (stmt_kind m) at.is ∙ stmt_kind-Sync _ m at.field-0 at.body))
    (c.as_end-in-Sync.ensures (statement.sync m (expr_of at.field-0) (stmts_of at.body.items)) (λ base. subst (λ (xs : List (Stmt Span)). slice_get (returns_in_list itself m.from (stmts_of xs)) 0 ≡ c.first_return-in-Sync.result) c.deref-in-Sync.ensures.value (c.first_return-in-Sync.ensures m.from)))

pub in_branches-in_stmt-requires : goal.in_branches-in_stmt-requires
unfolding stmt_size stmts_size else_size
in_branches-in_stmt-requires t c = (omega (arith, c.decreases), tt)

pub in_branches-returns-in-None : goal.in_branches-returns-in-None
in_branches-returns-in-None t c =
    subst (λ (o : Option (Box (Stmt Span) Global)). BranchesEndSo (stmt_of c.args.yes.now) (else_of o) (last (stmt_of c.args.yes.now))) (sym c.in-None.is) (λ m e. ends.then_ends m e (stmt_of c.args.yes.now) (stmt_of c.args.yes.now) refl)

pub in_branches-returns-in-Some-in_stmt : goal.in_branches-returns-in-Some-in_stmt
in_branches-returns-in-Some-in_stmt t c = λ m e. ends.branch_found m e (stmt_of c.args.yes.now) (else_of c.args.no.now) c.in-Some-in_stmt.span
    (subst (λ (o : Option Span). first_in (λ base. returns_in itself base (stmt_of c.args.yes.now)) o) c.in-Some-in_stmt.is c.in_stmt.ensures)

pub in_branches-returns-in-None-in_stmt : goal.in_branches-returns-in-None-in_stmt
in_branches-returns-in-None-in_stmt t c =
    let none = subst (λ (o : Option Span). first_in (λ base. returns_in itself base (stmt_of c.args.yes.now)) o) c.in-None-in_stmt.is c.in_stmt.ensures in
    subst (λ (o : Option (Box (Stmt Span) Global)). BranchesEndSo (stmt_of c.args.yes.now) (else_of o) (last (stmt_of c.deref.result.now))) (sym c.in-Some.is)
    (λ m e. ends.else_ends m e (stmt_of c.args.yes.now) (stmt_of c.in-Some.no.value) (stmt_of c.deref.result.now) (ap stmt_of c.deref.ensures) none)

pub in_stmt-head-requires : goal.in_stmt-head-requires
in_stmt-head-requires t c =
    let s = c.loop-span.invariant.size in
    (omega (arith, s, c.decreases), tt)

pub in_stmt-loop-span-init : goal.in_stmt-loop-span-init
in_stmt-loop-span-init t c = record { size = omega arith; first = λ base other. ap (λ (xs : List Span). slice_get xs 0) (ends.alike (stmt_of c.args.of.now) base other) }

pub in_stmt-returns-in-Found : goal.in_stmt-returns-in-Found
in_stmt-returns-in-Found t c =
    let l = c.loop-span in
    let h = subst (λ (x : raw.End). EndsSo (stmt_of l.of.now) (end_of x)) c.in-Found.is c.head.ensures in
    λ base. l.invariant.first base base ∙ h base

pub in_stmt-returns-in-Nothing : goal.in_stmt-returns-in-Nothing
in_stmt-returns-in-Nothing t c =
    let l = c.loop-span in
    let h = subst (λ (x : raw.End). EndsSo (stmt_of l.of.now) (end_of x)) c.in-Nothing.is c.head.ensures in
    λ base. l.invariant.first base base ∙ h base

pub in_stmt-loop-span-smaller : goal.in_stmt-loop-span-smaller
in_stmt-loop-span-smaller t c =
    let l = c.loop-span in
    let h = subst (λ (x : raw.End). EndsSo (stmt_of l.of.now) (end_of x)) c.in-Last.is c.head.ensures in
    ends.last_smaller (stmt_of c.in-Last.last.now) (stmt_of l.of.now) h.1

pub in_stmt-loop-span-preserved : goal.in_stmt-loop-span-preserved
in_stmt-loop-span-preserved t c =
    let l = c.loop-span in
    let h = subst (λ (x : raw.End). EndsSo (stmt_of l.of.now) (end_of x)) c.in-Last.is c.head.ensures in
    let s = ends.last_smaller (stmt_of c.in-Last.last.now) (stmt_of l.of.now) h.1 in
    let k = l.invariant.size in
    record { size = omega (arith, s, k); first = λ base other. l.invariant.first base base ∙ h.0 base other }

pub first_return-in_stmt-requires : goal.first_return-in_stmt-requires
first_return-in_stmt-requires t c =
    (ends.falls_item c.args.list.now c.loop-of.of-index c.of-item.result t c.loop-of-test.true c.of-item.is c.decreases, tt)

pub first_return-loop-of-init : goal.first_return-loop-of-init
first_return-loop-of-init t c = λ base other. ap (λ (xs : List Span). slice_get xs 0) (ends.list_alike (stmts_of c.args.list.now) base other)

pub first_return-loop-of-preserved : goal.first_return-loop-of-preserved
first_return-loop-of-preserved t c =
    let l = c.loop-of in
    let none = subst (λ (o : Option Span). first_in (λ base. returns_in itself base (stmt_of c.of-item.result)) o) c.in-None.is c.in_stmt.ensures in
    λ base other. l.invariant base base ∙ ends.item_passes c.args.list.now l.of-index c.of-item.result c.loop-of-test.true c.of-item.is none base other

pub first_return-returns-in-Some : goal.first_return-returns-in-Some
first_return-returns-in-Some t c =
    let l = c.loop-of in
    let some = subst (λ (o : Option Span). first_in (λ base. returns_in itself base (stmt_of c.of-item.result)) o) c.in-Some.is c.in_stmt.ensures in
    λ base. l.invariant base base ∙ ends.item_found c.args.list.now l.of-index c.of-item.result c.in-Some.span c.loop-of-test.true c.of-item.is some base

pub first_return-returns : goal.first_return-returns
first_return-returns t c =
    let l = c.loop-of in
    λ base. l.invariant base base ∙ ends.row_ends c.args.list.now l.of-index c.loop-of-test.false base
