use Rattle.std.proofs.Common.{ap, sym}
use Rattle.jr_text.specs.declared.spans.Span.{Span}
use Rattle.jr_grammar.specs.Layout.{itself}
use Rattle.jr_ast.proofs.Rows.{stmt_mark_is}
use Rattle.jr_pieces.specs.Finding.{is_behind}
use Rattle.jr_piece_search.proofs.statement_steps.passes_stmt.Goals as goal

pub returns : goal.returns
returns c = ap (λ (m : Span). is_behind itself c.args.span.now m) (sym (stmt_mark_is c.args.part.now))
