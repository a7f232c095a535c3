use Rattle.std.proofs.Common.{ℕ, ◌+◌, ◌∙◌, ap, sym}
use Rattle.std.proofs.lemmas.Result.{IfOk-weaker}
use Rattle.std.specs.Prelude.{option_map}
use Rattle.jr_ast.specs.View.{expr_of, stmts_of, else_of, stmt_kind, stmt_row, held_else}
use Rattle.jr_ast.proofs.Rows.{stmt_kind-If, stmt_kind-Block, stmt_kind-Sync}
use Rattle.jr_expr_types.specs.Trees.{count}
use Rattle.jr_expr_types.specs.TypedTrees.{stmt_parts}
use Rattle.jr_bind_parts.proofs.TypedPassing.{return_counted, branch_counted, block_counted, sync_counted, body_length}
use Rattle.jr_bind_parts.proofs.stmt_nodes.part_count.Goals as goal

pub returns-in-If : goal.returns-in-If
unfolding stmt_kind stmt_row held_else
returns-in-If g c = λ rows n ctx.
    let m = c.args.of.now.mark in
    let shape = ap (λ x. count (stmt_parts rows n ctx x)) (ap (stmt_kind m) c.in-If.is ∙ stmt_kind-If _ m c.in-If.field-0 c.in-If.field-1 c.in-If.no) in
    branch_counted rows n ctx m _ _ (else_of c.in-If.no) _ c.branch_parts.ensures ∙ sym shape

pub returns-in-Return : goal.returns-in-Return
unfolding stmt_kind stmt_row held_else
returns-in-Return g c = λ rows n ctx.
    let m = c.args.of.now.mark in
    let shape = ap (λ x. count (stmt_parts rows n ctx x)) (ap (stmt_kind m) c.in-Return.is) in
    return_counted rows n ctx m (option_map expr_of c.in-Return.value) _ c.maybe_parts.ensures ∙ sym shape

pub returns-in-Block : goal.returns-in-Block
unfolding stmt_kind stmt_row held_else
returns-in-Block g c = λ rows n ctx.
    let m = c.args.of.now.mark in
    let shape = ap (λ x. count (stmt_parts rows n ctx x)) (ap (stmt_kind m) c.in-Block.is ∙ stmt_kind-Block _ m c.in-Block.body) in
    block_counted rows n ctx m (stmts_of c.in-Block.body.items) _ (c.len.ensures ∙ c.in-Block.body.ok.0 ∙ body_length c.in-Block.body.items) ∙ sym shape

pub returns-in-Sync : goal.returns-in-Sync
unfolding stmt_kind stmt_row held_else
returns-in-Sync g c = λ rows n ctx.
    let m = c.args.of.now.mark in
    let shape = ap (λ x. count (stmt_parts rows n ctx x)) (ap (stmt_kind m) c.in-Sync.is ∙ stmt_kind-Sync _ m _ c.in-Sync.body) in
    IfOk-weaker c.more_parts.result _ _ (λ k h. sync_counted rows n ctx m _ (stmts_of c.in-Sync.body.items) k (h ∙ ap (λ (x : ℕ). x + 1) (c.len-in-Sync.ensures ∙ c.in-Sync.body.ok.0 ∙ body_length c.in-Sync.body.items)) ∙ sym shape) c.more_parts.ensures
