use Rattle.std.proofs.Common.{List, sym, ap, ◌∙◌}
use Rattle.jr_text.specs.declared.spans.Span.{Span}
use Rattle.jr_ast.specs.declared.stmts.Stmt.{Stmt}
use Rattle.jr_ast.specs.StatementTree as statement
use Rattle.jr_ast.specs.View.{stmt_kind, stmts_of}
use Rattle.jr_ast.proofs.Rows.{stmt_kind-Block}
use Rattle.jr_reading_tests.proofs.parts.block_of.Goals as goal

pub returns-in-Block : goal.returns-in-Block
returns-in-Block c =
    let m = c.args.of.now.mark in
    ap (stmt_kind m) c.in-Block.is ∙ stmt_kind-Block _ m c.in-Block.body ∙ ap (λ (l : List (Stmt Span)). statement.block m (stmts_of l)) (sym c.as_slice.ensures.value)
