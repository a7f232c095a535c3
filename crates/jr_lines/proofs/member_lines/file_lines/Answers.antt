use Rattle.std.proofs.Common.{◌≡◌, sym, ap, ◌∙◌, map}
use Rattle.std.proofs.lemmas.Result.{IfOk-weaker}
use Rattle.jr_lines.specs.Lines.{line_text}
use Rattle.jr_lines.specs.LineView.{lines_of}
use Rattle.jr_lines.specs.MemberLines.{IsLineOf}
use Rattle.jr_lines.proofs.MemberSums.{lines_apart, lines_as}
use Rattle.jr_lines.proofs.member_lines.file_lines.Goals as goal

pub in_order-requires : goal.in_order-requires
in_order-requires c = lines_apart c.args.text.now c.args.tokens.now c.args.file c.items_are_placed.ensures.items c.requires.lexes c.args.members.now c.requires.once _ c.in_ok-lines.ensures

pub returns : goal.returns
returns c = IfOk-weaker c.texts_of.result _ _ (λ v h. (_, lines_as _ _ _ c.in_ok-lines.ensures c.in_ok-in_order.ensures, h ∙ ap (λ ls. map line_text (lines_of ls)) c.as_slice.ensures.value)) c.texts_of.ensures
