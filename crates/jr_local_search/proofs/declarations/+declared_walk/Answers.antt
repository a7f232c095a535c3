use Rattle.std.proofs.Common.{◌≡◌, ◌∙◌, ◌+◌, ◌∷◌, [], ℕ, ap, sym, subst, refl, List, Option, Some, None, option_map, drop, arith}
use Rattle.std.proofs.lemmas.Result.{IfOk-weaker}
use Rattle.std.specs.Global.{Global}
use Rattle.std.specs.declared.boxed.Box.{Box}
use Rattle.jr_text.specs.declared.spans.Span.{Span}
use Rattle.jr_ast.specs.declared.stmts.Stmt.{Stmt}
use Rattle.jr_ast.specs.StatementTree as statement
use Rattle.jr_ast.specs.View.{expr_of, type_of, word_of, stmt_of, stmts_of, else_of, stmt_kind, stmt_row, held_else}
use Rattle.jr_ast.proofs.Rows.{stmt_kind-If, stmt_kind-Block, stmt_kind-Sync}
use Rattle.jr_ast.proofs.Sizes.{stmt_size, stmts_size, else_size}
use Rattle.jr_table.specs.Context.{locals_in, locals_in_row}
use Rattle.jr_piece_search.proofs.Ending as ends
use Rattle.jr_local_search.specs.declared.declarations.Walk as raw
use Rattle.jr_local_search.specs.Declarations.{Declaration, declarations, declarations_in, first_wanted}
use Rattle.jr_local_search.specs.Walking.{Walk, met, passed, at_last, Walks, HeadWalks, BranchesWalk, wanted_of, walk_of, declaration_of}
use Rattle.jr_local_search.proofs.Walks as walks
use Rattle.jr_local_search.proofs.declarations.+declared_walk.Goals as goal

pub head-in_branches-requires : goal.head-in_branches-requires
unfolding stmt_size stmts_size else_size stmt_kind stmt_row held_else
head-in_branches-requires t c =
    let m = c.args.of.now.mark in
    (ends.falls_both _ _ _ _ t (ap (λ (x : Stmt Span). stmt_size (stmt_of x)) c.deref.ensures) (ap stmt_size (ap (stmt_kind m) c.in-If.is ∙ stmt_kind-If _ m c.in-If.field-0 c.in-If.yes c.in-If.no)) c.decreases, tt)

pub head-in_list-requires : goal.head-in_list-requires
unfolding stmt_size stmts_size else_size stmt_kind stmt_row held_else
head-in_list-requires t c =
    let m = c.args.of.now.mark in
    (ends.falls_one _ _ _ t (ap (λ (x : List (Stmt Span)). stmts_size (stmts_of x)) c.deref-in-Block.ensures.value) (ap stmt_size (ap (stmt_kind m) c.in-Block.is ∙ stmt_kind-Block _ m c.in-Block.body)) c.decreases, tt)

pub head-in_list-requires-in-Sync : goal.head-in_list-requires-in-Sync
unfolding stmt_size stmts_size else_size stmt_kind stmt_row held_else
head-in_list-requires-in-Sync t c =
    let m = c.args.of.now.mark in
    (ends.falls_one _ _ _ t (ap (λ (x : List (Stmt Span)). stmts_size (stmts_of x)) c.deref-in-Sync.ensures.value) (ap stmt_size (ap (stmt_kind m) c.in-Sync.is ∙ stmt_kind-Sync _ m c.in-Sync.field-0 c.in-Sync.body)) c.decreases, tt)

pub head-returns-in-Local : goal.head-returns-in-Local
unfolding stmt_kind stmt_row held_else
head-returns-in-Local t c =
    let m = c.args.of.now.mark in
    let w = wanted_of c.args.wanted in
    let n = c.args.next in
    let here = option_map (λ l. stmts_of l.now) c.args.here in
    let i = word_of c.in-Local.name in
    IfOk-weaker c.declared.result (λ r. Walks w ((record { number = n; name = i.text; list = here }) ∷ []) (n + 1) (walk_of r)) (λ r. HeadWalks w here n (stmt_of c.args.of.now) (walk_of r))
    (λ r. walks.local_walks w here n _ _ _ i _ (stmt_of c.args.of.now) (ap (stmt_kind m) c.in-Local.is) (walk_of r)) c.declared.ensures

pub head-returns-in-Eval : goal.head-returns-in-Eval
unfolding stmt_kind stmt_row held_else
head-returns-in-Eval t c = walks.eval_walks (wanted_of c.args.wanted) (option_map (λ l. stmts_of l.now) c.args.here) c.args.next _ _ (stmt_of c.args.of.now) (ap (stmt_kind c.args.of.now.mark) c.in-Eval.is)

pub head-returns-in-Return : goal.head-returns-in-Return
unfolding stmt_kind stmt_row held_else
head-returns-in-Return t c = walks.return_walks (wanted_of c.args.wanted) (option_map (λ l. stmts_of l.now) c.args.here) c.args.next _ _ (stmt_of c.args.of.now) (ap (stmt_kind c.args.of.now.mark) c.in-Return.is)

pub head-returns-in-Empty : goal.head-returns-in-Empty
unfolding stmt_kind stmt_row held_else
head-returns-in-Empty t c = walks.empty_walks (wanted_of c.args.wanted) (option_map (λ l. stmts_of l.now) c.args.here) c.args.next _ (stmt_of c.args.of.now) (ap (stmt_kind c.args.of.now.mark) c.in-Empty.is)

pub head-returns-in-While : goal.head-returns-in-While
unfolding stmt_kind stmt_row held_else
head-returns-in-While t c =
    let m = c.args.of.now.mark in
    let at = c.in-While in
    subst (λ (x : statement.Stmt Span). HeadWalks (wanted_of c.args.wanted) (option_map (λ l. stmts_of l.now) c.args.here) c.args.next x (at_last c.args.next (stmt_of c.deref-in-While.result.now))) (sym (ap (stmt_kind m) at.is))
    (walks.loop_walks (wanted_of c.args.wanted) (option_map (λ l. stmts_of l.now) c.args.here) c.args.next m (expr_of at.field-0) (stmt_of at.body.value) (stmt_of c.deref-in-While.result.now) (ap stmt_of c.deref-in-While.ensures))

pub head-returns-in-If : goal.head-returns-in-If
head-returns-in-If t c =
    let m = c.args.of.now.mark in
    let at = c.in-If in
    let w = wanted_of c.args.wanted in
    let here = option_map (λ l. stmts_of l.now) c.args.here in
    let is : stmt_of c.args.of.now ≡ statement.branch m (expr_of at.field-0) (stmt_of c.deref.result.now) (else_of at.no) = ap (stmt_kind m) at.is ∙ stmt_kind-If _ m at.field-0 at.yes at.no ∙ ap (λ (y : Stmt Span). statement.branch m (expr_of at.field-0) (stmt_of y) (else_of at.no)) (sym c.deref.ensures) in
    IfOk-weaker c.in_branches.result (λ r. BranchesWalk w c.args.next (stmt_of c.deref.result.now) (else_of at.no) (walk_of r)) (λ r. HeadWalks w here c.args.next (stmt_of c.args.of.now) (walk_of r))
    (λ r h. subst (λ (x : statement.Stmt Span). HeadWalks w here c.args.next x (walk_of r)) (sym is) (h here m (expr_of at.field-0))) c.in_branches.ensures

pub head-returns-in-Block : goal.head-returns-in-Block
head-returns-in-Block t c =
    let m = c.args.of.now.mark in
    let at = c.in-Block in
    let w = wanted_of c.args.wanted in
    let n = c.args.next in
    let here = option_map (λ l. stmts_of l.now) c.args.here in
    let b = stmts_of c.deref-in-Block.result.now in
    let is : stmt_of c.args.of.now ≡ statement.block m b = ap (stmt_kind m) at.is ∙ stmt_kind-Block _ m at.body ∙ ap (λ (y : List (Stmt Span)). statement.block m (stmts_of y)) (sym c.deref-in-Block.ensures.value) in
    IfOk-weaker c.in_list.result (λ r. Walks w (declarations_in n b) (n + locals_in_row b) (walk_of r)) (λ r. HeadWalks w here n (stmt_of c.args.of.now) (walk_of r))
    (λ r h. subst (λ (x : statement.Stmt Span). HeadWalks w here n x (walk_of r)) (sym is) (walks.block_walks w here n m b (walk_of r) h)) c.in_list.ensures

pub head-returns-in-Sync : goal.head-returns-in-Sync
head-returns-in-Sync t c =
    let m = c.args.of.now.mark in
    let at = c.in-Sync in
    let w = wanted_of c.args.wanted in
    let n = c.args.next in
    let here = option_map (λ l. stmts_of l.now) c.args.here in
    let b = stmts_of c.deref-in-Sync.result.now in
    let is : stmt_of c.args.of.now ≡ statement.sync m (expr_of at.field-0) b = ap (stmt_kind m) at.is ∙ stmt_kind-Sync _ m at.field-0 at.body ∙ ap (λ (y : List (Stmt Span)). statement.sync m (expr_of at.field-0) (stmts_of y)) (sym c.deref-in-Sync.ensures.value) in
    IfOk-weaker c.in_list-in-Sync.result (λ r. Walks w (declarations_in n b) (n + locals_in_row b) (walk_of r)) (λ r. HeadWalks w here n (stmt_of c.args.of.now) (walk_of r))
    (λ r h. subst (λ (x : statement.Stmt Span). HeadWalks w here n x (walk_of r)) (sym is) (walks.sync_walks w here n m (expr_of at.field-0) b (walk_of r) h)) c.in_list-in-Sync.ensures

pub in_branches-in_stmt-requires : goal.in_branches-in_stmt-requires
unfolding stmt_size stmts_size else_size
in_branches-in_stmt-requires t c = (omega (arith, c.decreases), tt)

pub in_branches-returns-in-None : goal.in_branches-returns-in-None
in_branches-returns-in-None t c =
    let s = stmt_of c.args.yes.now in
    subst (λ (o : Option (Box (Stmt Span) Global)). BranchesWalk (wanted_of c.args.wanted) c.args.next s (else_of o) (at_last c.args.next s)) (sym c.in-None.is) (walks.then_walks (wanted_of c.args.wanted) c.args.next s)

pub in_branches-returns-in-Met : goal.in_branches-returns-in-Met
in_branches-returns-in-Met t c =
    let w = wanted_of c.args.wanted in
    let n = c.args.next in
    let s = stmt_of c.args.yes.now in
    let h = subst (λ (r : raw.Walk). Walks w (declarations None n s) (n + locals_in s) (walk_of r)) c.in-Met.is c.in_ok-walk-in-Some.ensures in
    walks.branch_met w n s (else_of c.args.no.now) (declaration_of c.in-Met.declaration) h

pub in_branches-returns-in-Behind : goal.in_branches-returns-in-Behind
in_branches-returns-in-Behind t c =
    let w = wanted_of c.args.wanted in
    let n = c.args.next in
    let s = stmt_of c.args.yes.now in
    let h = subst (λ (r : raw.Walk). Walks w (declarations None n s) (n + locals_in s) (walk_of r)) c.in-Behind.is c.in_ok-walk-in-Some.ensures in
    subst (λ (o : Option (Box (Stmt Span) Global)). BranchesWalk w n s (else_of o) (at_last c.in-Behind.next (stmt_of c.deref.result.now))) (sym c.in-Some.is)
    (walks.else_walks w n s (stmt_of c.in-Some.no.value) (stmt_of c.deref.result.now) c.in-Behind.next h.0 h.1 (ap stmt_of c.deref.ensures))

pub in_branches-returns-in-Last : goal.in_branches-returns-in-Last
in_branches-returns-in-Last t c =
    let w = wanted_of c.args.wanted in
    let n = c.args.next in
    let s = stmt_of c.args.yes.now in
    absurd (subst (λ (r : raw.Walk). Walks w (declarations None n s) (n + locals_in s) (walk_of r)) c.in-Last.is c.in_ok-walk-in-Some.ensures)

pub in_stmt-head-requires : goal.in_stmt-head-requires
in_stmt-head-requires t c =
    let s = c.loop-walk.invariant.size in
    (omega (arith, s, c.decreases), tt)

pub in_stmt-loop-walk-init : goal.in_stmt-loop-walk-init
in_stmt-loop-walk-init t c = record { size = omega arith; first = refl; count = refl }

pub in_stmt-returns-in-Met : goal.in_stmt-returns-in-Met
in_stmt-returns-in-Met t c =
    let l = c.loop-walk in
    let h = subst (λ (r : raw.Walk). HeadWalks (wanted_of c.args.wanted) (option_map (λ x. stmts_of x.now) l.here) l.next (stmt_of l.of.now) (walk_of r)) c.in-Met.is c.in_ok-walk.ensures in
    l.invariant.first ∙ h

pub in_stmt-returns-in-Behind : goal.in_stmt-returns-in-Behind
in_stmt-returns-in-Behind t c =
    let l = c.loop-walk in
    let h = subst (λ (r : raw.Walk). HeadWalks (wanted_of c.args.wanted) (option_map (λ x. stmts_of x.now) l.here) l.next (stmt_of l.of.now) (walk_of r)) c.in-Behind.is c.in_ok-walk.ensures in
    (l.invariant.first ∙ h.0, h.1 ∙ sym l.invariant.count)

pub in_stmt-loop-walk-smaller : goal.in_stmt-loop-walk-smaller
in_stmt-loop-walk-smaller t c =
    let l = c.loop-walk in
    let h = subst (λ (r : raw.Walk). HeadWalks (wanted_of c.args.wanted) (option_map (λ x. stmts_of x.now) l.here) l.next (stmt_of l.of.now) (walk_of r)) c.in-Last.is c.in_ok-walk.ensures in
    ends.last_smaller (stmt_of c.in-Last.last.now) (stmt_of l.of.now) h.2

pub in_stmt-loop-walk-preserved : goal.in_stmt-loop-walk-preserved
in_stmt-loop-walk-preserved t c =
    let l = c.loop-walk in
    let h = subst (λ (r : raw.Walk). HeadWalks (wanted_of c.args.wanted) (option_map (λ x. stmts_of x.now) l.here) l.next (stmt_of l.of.now) (walk_of r)) c.in-Last.is c.in_ok-walk.ensures in
    let s = ends.last_smaller (stmt_of c.in-Last.last.now) (stmt_of l.of.now) h.2 in
    let k = l.invariant.size in
    record { size = omega (arith, s, k); first = l.invariant.first ∙ h.0; count = l.invariant.count ∙ h.1 }

pub in_list-in_stmt-requires : goal.in_list-in_stmt-requires
in_list-in_stmt-requires t c =
    (ends.falls_item c.args.list.now c.loop-of.of-index c.of-item.result t c.loop-of-test.true c.of-item.is c.decreases, tt)

pub in_list-loop-of-init : goal.in_list-loop-of-init
in_list-loop-of-init t c = record { at = refl; first = refl; count = refl }

pub in_list-returns-in-Met : goal.in_list-returns-in-Met
in_list-returns-in-Met t c =
    let l = c.loop-of in
    let w = wanted_of c.args.wanted in
    let xs = c.args.list.now in
    let x = c.of-item.result in
    let list : c.behind.result.now ≡ drop l.of-index xs = c.behind.ensures ∙ ap (λ (n : ℕ). drop n xs) l.invariant.at in
    let h = subst (λ (r : raw.Walk). Walks w (declarations (Some (stmts_of c.behind.result.now)) l.next (stmt_of x)) (l.next + locals_in (stmt_of x)) (walk_of r)) c.in-Met.is c.in_ok-walk.ensures in
    let own : first_wanted w (declarations (Some (stmts_of (drop l.of-index xs))) l.next (stmt_of x)) ≡ Some (declaration_of c.in-Met.declaration) = ap (λ (z : List (Stmt Span)). first_wanted w (declarations (Some (stmts_of z)) l.next (stmt_of x))) (sym list) ∙ h in
    l.invariant.first ∙ walks.item_met w xs l.of-index x l.next (declaration_of c.in-Met.declaration) c.loop-of-test.true c.of-item.is own

pub in_list-loop-of-preserved : goal.in_list-loop-of-preserved
in_list-loop-of-preserved t c =
    let l = c.loop-of in
    let w = wanted_of c.args.wanted in
    let xs = c.args.list.now in
    let x = c.of-item.result in
    let k = c.in-Behind.number in
    let list : c.behind.result.now ≡ drop l.of-index xs = c.behind.ensures ∙ ap (λ (n : ℕ). drop n xs) l.invariant.at in
    let h = subst (λ (r : raw.Walk). Walks w (declarations (Some (stmts_of c.behind.result.now)) l.next (stmt_of x)) (l.next + locals_in (stmt_of x)) (walk_of r)) c.in-Behind.is c.in_ok-walk.ensures in
    let own : first_wanted w (declarations (Some (stmts_of (drop l.of-index xs))) l.next (stmt_of x)) ≡ None = ap (λ (z : List (Stmt Span)). first_wanted w (declarations (Some (stmts_of z)) l.next (stmt_of x))) (sym list) ∙ h.0 in
    record {
      at = ap (λ (n : ℕ). n + 1) l.invariant.at;
      first = l.invariant.first ∙ walks.item_passed w xs l.of-index x l.next k c.loop-of-test.true c.of-item.is own h.1;
      count = l.invariant.count ∙ walks.item_counted xs l.of-index x l.next k c.loop-of-test.true c.of-item.is h.1;
    }

pub in_list-returns-in-Last : goal.in_list-returns-in-Last
in_list-returns-in-Last t c =
    let l = c.loop-of in
    let w = wanted_of c.args.wanted in
    let x = c.of-item.result in
    absurd (subst (λ (r : raw.Walk). Walks w (declarations (Some (stmts_of c.behind.result.now)) l.next (stmt_of x)) (l.next + locals_in (stmt_of x)) (walk_of r)) c.in-Last.is c.in_ok-walk.ensures)

pub in_list-returns : goal.in_list-returns
in_list-returns t c =
    let l = c.loop-of in
    let w = wanted_of c.args.wanted in
    let xs = c.args.list.now in
    (l.invariant.first ∙ walks.list_ends w xs l.of-index l.next c.loop-of-test.false, sym (l.invariant.count ∙ walks.list_counted xs l.of-index l.next c.loop-of-test.false))
