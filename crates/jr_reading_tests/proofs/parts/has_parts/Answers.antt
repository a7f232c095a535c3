use Rattle.std.proofs.Common.{Some, option_map, sym, ap, ◌∙◌}
use Rattle.jr_text.specs.declared.spans.Span.{Span}
use Rattle.jr_ast.specs.StatementTree as statement
use Rattle.jr_ast.specs.View.{member_of, stmt_of}
use Rattle.jr_piece_sites.proofs.Reaching.{in_block}
use Rattle.jr_reading_tests.proofs.parts.has_parts.Goals as goal

pub returns-in-Some : goal.returns-in-Some
returns-in-Some c t =
    let h = c.holds.ensures t in
    let at = sym c.stmt_at.ensures ∙ ap (option_map (λ x. stmt_of x.now)) c.in-Some.is ∙ ap (λ (s : statement.Stmt Span). Some s) h.1 in
    in_block (member_of c.args.of.now) c.requires c.args.list.now.steps.items _ h.0 c.args.from c.args.to at h.2 h.3
