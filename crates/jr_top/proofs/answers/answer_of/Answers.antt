use Rattle.std.proofs.Common.{sym, subst, string_bytes}
use Rattle.std.specs.Prelude.{IfOk}
use Rattle.std.proofs.lemmas.Result.{IfOk-weaker}
use Rattle.jr_names.specs.declared.steps.Step.TheVariants.{Rename}
use Rattle.jr_names.specs.ReplyView.{reply_of}
use Rattle.jr_session.specs.Promises.{Promises}
use Rattle.jr_session.specs.States.{State}
use Rattle.jr_session.specs.Stepping.{Steps}
use Rattle.jr_top.specs.Renames.{IsAnswered}
use Rattle.jr_top.proofs.OneFile.{answered, its_places, one_name}
use Rattle.jr_top.proofs.answers.answer_of.Goals as goal

pub answer_to-answer-requires-clause-names : goal.answer_to-answer-requires-clause-names
answer_to-answer-requires-clause-names c =
    let steps = subst (λ (s : State). Steps s (Rename c.args.file.now c.args.at c.args.name.now) (reply_of c.in_ok-reply.reply) c.rename_in.new.session) c.in_ok-session.ensures c.in_ok-reply.ensures.step in
    one_name c.args.file.now c.args.source c.args.at c.args.name.now (reply_of c.in_ok-reply.reply) c.rename_in.new.session steps

pub answer_to-answer-requires-clause-places : goal.answer_to-answer-requires-clause-places
answer_to-answer-requires-clause-places c =
    let steps = subst (λ (s : State). Steps s (Rename c.args.file.now c.args.at c.args.name.now) (reply_of c.in_ok-reply.reply) c.rename_in.new.session) c.in_ok-session.ensures c.in_ok-reply.ensures.step in
    its_places c.args.file.now c.args.source c.args.at c.args.name.now (reply_of c.in_ok-reply.reply) c.rename_in.new.session steps

pub returns : goal.returns
returns c =
    let steps = subst (λ (s : State). Steps s (Rename c.args.file.now c.args.at c.args.name.now) (reply_of c.in_ok-reply.reply) c.rename_in.new.session) c.in_ok-session.ensures c.in_ok-reply.ensures.step in
    let promise = subst (λ (s : State). Promises s (Rename c.args.file.now c.args.at c.args.name.now) (reply_of c.in_ok-reply.reply) c.rename_in.new.session) c.in_ok-session.ensures c.in_ok-reply.ensures.promises in
    subst (λ r. IfOk r (λ answer. IsAnswered c.args.file.now c.args.source c.args.at c.args.name.now answer.refused (string_bytes answer.output))) (sym c.kept.ensures)
    (IfOk-weaker c.answer_to-answer.result _ _ (λ answer put. answered c.args.file.now c.args.source c.args.at c.args.name.now (reply_of c.in_ok-reply.reply) c.rename_in.new.session steps promise answer.refused (string_bytes answer.output) put) c.answer_to-answer.ensures)
