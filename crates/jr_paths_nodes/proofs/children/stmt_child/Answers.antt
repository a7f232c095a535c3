use Rattle.std.proofs.Common.{◌∷◌, [], ap, sym, ◌∙◌}
use Rattle.std.specs.List.{slice_get}
use Rattle.jr_ast.specs.Nodes as pure
use Rattle.jr_ast.specs.declared.stmts.StmtKind.TheViews.{If}
use Rattle.jr_ast.specs.View.{stmt_of, stmts_of, expr_of, stmt_kind}
use Rattle.jr_ast.proofs.Rows.{stmt_kind-Block, stmt_kind-Sync}
use Rattle.jr_paths_nodes.proofs.children.stmt_child.Goals as goal

pub returns-in-Block : goal.returns-in-Block
unfolding pure.stmt_children
returns-in-Block g c =
    let m = c.args.stmt.now.mark in
    c.only_stmts.ensures
    ∙ ap (λ l. slice_get l c.args.number)
    (ap (λ xs. pure.stmts (stmts_of xs)) c.deref-in-Block.ensures.value ∙ sym (ap pure.stmt_children (ap (stmt_kind m) c.in-Block.is ∙ stmt_kind-Block _ m c.in-Block.body)))

pub returns-in-Sync : goal.returns-in-Sync
unfolding pure.stmt_children
returns-in-Sync g c =
    let m = c.args.stmt.now.mark in
    let lock = pure.exp (expr_of c.in-Sync.lock) in
    c.then_stmts.ensures
    ∙ ap (λ l. slice_get (lock ∷ l) c.args.number) (ap (λ xs. pure.stmts (stmts_of xs)) c.deref-in-Sync.ensures.value)
    ∙ sym (ap (λ s. slice_get (pure.stmt_children s) c.args.number) (ap (stmt_kind m) c.in-Sync.is ∙ stmt_kind-Sync _ m c.in-Sync.lock c.in-Sync.body))

pub returns-in-Some : goal.returns-in-Some
unfolding pure.stmt_children stmt_kind
returns-in-Some g c =
    let m = c.args.stmt.now.mark in
    let at = c.in-If in
    c.three-in-Some.ensures
    ∙ (λ i. slice_get (pure.exp (expr_of at.condition) ∷ (pure.stmt (stmt_of (c.deref-in-Some.ensures i)) ∷ (pure.stmt (stmt_of (c.deref-in-Some-2.ensures i)) ∷ []))) c.args.number)
    ∙ sym (ap (λ k. slice_get (pure.stmt_children (stmt_kind m k)) c.args.number) (at.is ∙ ap (λ o. If at.condition at.yes o) c.in-Some.is))
