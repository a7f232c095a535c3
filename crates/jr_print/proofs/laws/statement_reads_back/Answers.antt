use Rattle.std.proofs.Common.{[], false, refl, sym, ◌∙◌}
use Rattle.std.proofs.lemmas.List.{append-nil}
use Rattle.jr_grammar.specs.StatementSpelling.{stmt_toks}
use Rattle.jr_print.specs.StatementText.{printed_stmt}
use Rattle.jr_print.proofs.StatementParts.{stmt_parts}
use Rattle.jr_print.proofs.StatementJoined.{stmt-join, stmt-tokens}
use Rattle.jr_print.proofs.StatementApart.{stmt_apart}
use Rattle.jr_print.proofs.Lexed.{parts_lex}
use Rattle.jr_print.proofs.laws.statement_reads_back.Goals as goal

pub returns : goal.returns
returns g c = λ stmt grammar.
    let found = parts_lex c.pieces_lex.ensures (stmt_parts stmt []) (printed_stmt stmt) (stmt_toks stmt) (stmt_apart stmt grammar.shaped [] tt) (stmt-join stmt [] ∙ append-nil (printed_stmt stmt)) (stmt-tokens stmt [] ∙ append-nil (stmt_toks stmt)) grammar.lexical in
    record { items = found.items; lexes = found.lexes; is = record { shaped = grammar.shaped; spells = sym found.tokens_are } }
