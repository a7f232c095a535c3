use Rattle.std.proofs.Common.{string_bytes}
use Rattle.std.proofs.lemmas.Result.{IfOk-weaker}
use Rattle.jr_top.proofs.OneFile.{as_line, as_text}
use Rattle.jr_top.proofs.answers.answer_to.Goals as goal

pub returns-in-Refused : goal.returns-in-Refused
returns-in-Refused c = IfOk-weaker c.line_answer.result _ _ (λ answer h. as_line c.args.session.now c.args.file.now c.args.reply.now _ c.in-Refused.is answer.refused (string_bytes answer.output) h) c.line_answer.ensures

pub returns-in_default : goal.returns-in_default
returns-in_default c = IfOk-weaker c.text_answer.result _ _ (λ answer h. as_text c.args.session.now c.args.file.now c.args.reply.now c.in_default.not-Refused answer.refused (string_bytes answer.output) h) c.text_answer.ensures
