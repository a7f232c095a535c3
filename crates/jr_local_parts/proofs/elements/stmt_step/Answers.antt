use Rattle.std.proofs.Common.{◌≡◌, ◌∙◌, ap, sym, List}
use Rattle.std.proofs.lemmas.Result.{IfOk-weaker}
use Rattle.jr_text.specs.declared.spans.Span.{Span}
use Rattle.jr_ast.specs.declared.stmts.Stmt.{Stmt}
use Rattle.jr_ast.specs.StatementTree as statement
use Rattle.jr_ast.specs.View.{expr_of, stmt_of, stmts_of, else_of, stmt_kind, stmt_row, held_else}
use Rattle.jr_ast.proofs.Rows.{stmt_kind-If, stmt_kind-Block, stmt_kind-Sync}
use Rattle.jr_new_bodies.specs.Known.{context_of}
use Rattle.jr_local_parts.specs.Descending.{stmt_step as pure}
use Rattle.jr_local_parts.proofs.Goings.{stays}
use Rattle.jr_local_parts.proofs.elements.stmt_step.Goals as goal

pub returns-in-Local : goal.returns-in-Local
unfolding stmt_kind stmt_row held_else
returns-in-Local c =
    let h = c.args.here.now in
    let x = context_of h in
    record { goes = stays h c.requires; is = ap (λ (s : statement.Stmt Span). pure x c.args.next s c.args.wanted) (sym (ap (stmt_kind c.args.of.now.mark) c.in-Local.is)) }

pub returns-in-Eval : goal.returns-in-Eval
unfolding stmt_kind stmt_row held_else
returns-in-Eval c =
    let h = c.args.here.now in
    let x = context_of h in
    record { goes = stays h c.requires; is = ap (λ (s : statement.Stmt Span). pure x c.args.next s c.args.wanted) (sym (ap (stmt_kind c.args.of.now.mark) c.in-Eval.is)) }

pub returns-in-Return : goal.returns-in-Return
unfolding stmt_kind stmt_row held_else
returns-in-Return c =
    let h = c.args.here.now in
    let x = context_of h in
    record { goes = stays h c.requires; is = ap (λ (s : statement.Stmt Span). pure x c.args.next s c.args.wanted) (sym (ap (stmt_kind c.args.of.now.mark) c.in-Return.is)) }

pub returns-in-Empty : goal.returns-in-Empty
unfolding stmt_kind stmt_row held_else
returns-in-Empty c =
    let h = c.args.here.now in
    let x = context_of h in
    record { goes = stays h c.requires; is = ap (λ (s : statement.Stmt Span). pure x c.args.next s c.args.wanted) (sym (ap (stmt_kind c.args.of.now.mark) c.in-Empty.is)) }

pub returns-in-If : goal.returns-in-If
returns-in-If c =
    let h = c.args.here.now in
    let x = context_of h in
    let m = c.args.of.now.mark in
    let at = c.in-If in
    let is : stmt_of c.args.of.now ≡ statement.branch m (expr_of at.field-0) (stmt_of c.deref.result.now) (else_of at.no) = ap (stmt_kind m) at.is ∙ stmt_kind-If _ m at.field-0 at.yes at.no ∙ ap (λ (y : Stmt _). statement.branch m (expr_of at.field-0) (stmt_of y) (else_of at.no)) (sym c.deref.ensures) in
    IfOk-weaker c.branch_step.result _ _ (λ r e. record { goes = stays h c.requires; is = e ∙ ap (λ (s : statement.Stmt Span). pure x c.args.next s c.args.wanted) (sym is) }) (c.branch_step.ensures x)

pub returns-in-While : goal.returns-in-While
unfolding stmt_kind stmt_row held_else
returns-in-While c =
    let h = c.args.here.now in
    let x = context_of h in
    let m = c.args.of.now.mark in
    let at = c.in-While in
    record {
      goes = stays h c.requires;
      is = c.turning_step.ensures x ∙ ap (λ (y : Stmt _). pure x c.args.next (statement.loop m (expr_of at.field-0) (stmt_of y)) c.args.wanted) c.deref-in-While.ensures
          ∙ ap (λ (s : statement.Stmt Span). pure x c.args.next s c.args.wanted) (sym (ap (stmt_kind m) at.is));
    }

pub returns-in-Block : goal.returns-in-Block
returns-in-Block c =
    let x = context_of c.args.here.now in
    let m = c.args.of.now.mark in
    let at = c.in-Block in
    let b = stmts_of c.deref-in-Block.result.now in
    let is : stmt_of c.args.of.now ≡ statement.block m b = ap (stmt_kind m) at.is ∙ stmt_kind-Block _ m at.body ∙ ap (λ (y : List (Stmt _)). statement.block m (stmts_of y)) (sym c.deref-in-Block.ensures.value) in
    IfOk-weaker c.pick.result _ _ (λ r h. record { goes = h.goes; is = h.is ∙ ap (λ (s : statement.Stmt Span). pure x c.args.next s c.args.wanted) (sym is) }) c.pick.ensures

pub returns-in-Sync : goal.returns-in-Sync
returns-in-Sync c =
    let x = context_of c.args.here.now in
    let m = c.args.of.now.mark in
    let at = c.in-Sync in
    let b = stmts_of c.deref-in-Sync.result.now in
    let is : stmt_of c.args.of.now ≡ statement.sync m (expr_of at.field-0) b = ap (stmt_kind m) at.is ∙ stmt_kind-Sync _ m at.field-0 at.body ∙ ap (λ (y : List (Stmt _)). statement.sync m (expr_of at.field-0) (stmts_of y)) (sym c.deref-in-Sync.ensures.value) in
    IfOk-weaker c.locked_step.result _ _ (λ r h. record { goes = h.goes; is = h.is ∙ ap (λ (s : statement.Stmt Span). pure x c.args.next s c.args.wanted) (sym is) }) c.locked_step.ensures
