use Rattle.std.proofs.Common.{[], false, refl, sym, ◌∙◌}
use Rattle.std.proofs.lemmas.List.{append-nil}
use Rattle.jr_grammar.specs.Spelling.{toks}
use Rattle.jr_print.specs.ExpressionText.{printed}
use Rattle.jr_print.proofs.ExpressionParts.{parts}
use Rattle.jr_print.proofs.ExpressionJoined.{parts-join, parts-tokens}
use Rattle.jr_print.proofs.ExpressionApart.{apart}
use Rattle.jr_print.proofs.Lexed.{parts_lex}
use Rattle.jr_print.proofs.laws.expression_reads_back.Goals as goal

pub returns : goal.returns
returns g c = λ tree grammar.
    let found = parts_lex c.pieces_lex.ensures (parts tree []) (printed tree) (toks tree) (apart false tree grammar.shaped [] tt refl) (parts-join tree [] ∙ append-nil (printed tree)) (parts-tokens tree [] ∙ append-nil (toks tree)) grammar.lexical in
    record { items = found.items; lexes = found.lexes; is = record { shaped = grammar.shaped; spells = sym found.tokens_are } }
