use Rattle.std.proofs.Common.{[], false, refl, sym, ◌∙◌}
use Rattle.std.proofs.lemmas.List.{append-nil}
use Rattle.jr_grammar.specs.MemberSpelling.{member_toks}
use Rattle.jr_print.specs.MemberText.{printed_member}
use Rattle.jr_print.proofs.MemberParts.{member_parts}
use Rattle.jr_print.proofs.MemberJoined.{member-join, member-tokens}
use Rattle.jr_print.proofs.MemberApart.{member_apart}
use Rattle.jr_print.proofs.Lexed.{parts_lex}
use Rattle.jr_print.proofs.laws.member_reads_back.Goals as goal

pub returns : goal.returns
returns g c = λ nested name member grammar.
    let found = parts_lex c.pieces_lex.ensures (member_parts member []) (printed_member member) (member_toks member) (member_apart nested name member grammar.shaped [] tt) (member-join member [] ∙ append-nil (printed_member member)) (member-tokens member [] ∙ append-nil (member_toks member)) grammar.lexical in
    record { items = found.items; lexes = found.lexes; is = record { shaped = grammar.shaped; spells = sym found.tokens_are } }
