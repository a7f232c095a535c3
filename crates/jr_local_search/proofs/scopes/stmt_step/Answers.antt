use Rattle.std.proofs.Common.{◌≡◌, ◌∙◌, ap, sym, subst, List}
use Rattle.std.proofs.lemmas.Result.{IfOk-weaker}
use Rattle.jr_ast.specs.declared.stmts.Stmt.{Stmt}
use Rattle.jr_ast.specs.StatementTree as statement
use Rattle.jr_ast.specs.View.{expr_of, stmt_of, stmts_of, else_of, stmt_kind, stmt_row, held_else}
use Rattle.jr_ast.proofs.Rows.{stmt_kind-If, stmt_kind-Block, stmt_kind-Sync}
use Rattle.jr_local_search.specs.Descending.{at_of, place_of, pick as chosen, within, stmt_step as pure}
use Rattle.jr_local_search.proofs.scopes.stmt_step.Goals as goal

pub returns-in-If : goal.returns-in-If
returns-in-If c =
    let m = c.args.of.now.mark in
    let at = c.in-If in
    let is : stmt_of c.args.of.now ≡ statement.branch m (expr_of at.field-0) (stmt_of c.deref.result.now) (else_of at.no) = ap (stmt_kind m) at.is ∙ stmt_kind-If _ m at.field-0 at.yes at.no ∙ ap (λ (y : Stmt _). statement.branch m (expr_of at.field-0) (stmt_of y) (else_of at.no)) (sym c.deref.ensures) in
    let name = c.args.name.now in
    IfOk-weaker c.branch_step.result (λ r. place_of r ≡ pure name (at_of c.args.at) c.args.next (statement.branch m (expr_of at.field-0) (stmt_of c.deref.result.now) (else_of at.no)) c.args.wanted)
    (λ r. place_of r ≡ pure name (at_of c.args.at) c.args.next (stmt_of c.args.of.now) c.args.wanted)
    (λ r h. h ∙ ap (λ (s : statement.Stmt _). pure name (at_of c.args.at) c.args.next s c.args.wanted) (sym is)) (c.branch_step.ensures name m (expr_of at.field-0))

pub returns-in-While : goal.returns-in-While
unfolding stmt_kind stmt_row held_else
returns-in-While c =
    let m = c.args.of.now.mark in
    let at = c.in-While in
    let name = c.args.name.now in
    c.body_step.ensures name m (expr_of at.field-0) ∙ ap (λ (y : Stmt _). pure name (at_of c.args.at) c.args.next (statement.loop m (expr_of at.field-0) (stmt_of y)) c.args.wanted) c.deref-in-While.ensures
    ∙ ap (λ (s : statement.Stmt _). pure name (at_of c.args.at) c.args.next s c.args.wanted) (sym (ap (stmt_kind m) at.is))

pub returns-in-Block : goal.returns-in-Block
returns-in-Block c =
    let m = c.args.of.now.mark in
    let at = c.in-Block in
    let name = c.args.name.now in
    let b = stmts_of c.deref-in-Block.result.now in
    let is : stmt_of c.args.of.now ≡ statement.block m b = ap (stmt_kind m) at.is ∙ stmt_kind-Block _ m at.body ∙ ap (λ (y : List (Stmt _)). statement.block m (stmts_of y)) (sym c.deref-in-Block.ensures.value) in
    IfOk-weaker c.pick_within.result (λ r. place_of r ≡ pure name (at_of c.args.at) c.args.next (statement.block m b) c.args.wanted)
    (λ r. place_of r ≡ pure name (at_of c.args.at) c.args.next (stmt_of c.args.of.now) c.args.wanted)
    (λ r h. h ∙ ap (λ (s : statement.Stmt _). pure name (at_of c.args.at) c.args.next s c.args.wanted) (sym is)) c.pick_within.ensures

pub returns-in-Sync : goal.returns-in-Sync
returns-in-Sync c =
    let m = c.args.of.now.mark in
    let at = c.in-Sync in
    let name = c.args.name.now in
    let b = stmts_of c.deref-in-Sync.result.now in
    let is : stmt_of c.args.of.now ≡ statement.sync m (expr_of at.field-0) b = ap (stmt_kind m) at.is ∙ stmt_kind-Sync _ m at.field-0 at.body ∙ ap (λ (y : List (Stmt _)). statement.sync m (expr_of at.field-0) (stmts_of y)) (sym c.deref-in-Sync.ensures.value) in
    IfOk-weaker c.locked_step.result (λ r. place_of r ≡ pure name (at_of c.args.at) c.args.next (statement.sync m (expr_of at.field-0) b) c.args.wanted)
    (λ r. place_of r ≡ pure name (at_of c.args.at) c.args.next (stmt_of c.args.of.now) c.args.wanted)
    (λ r h. h ∙ ap (λ (s : statement.Stmt _). pure name (at_of c.args.at) c.args.next s c.args.wanted) (sym is)) (c.locked_step.ensures m (expr_of at.field-0))
