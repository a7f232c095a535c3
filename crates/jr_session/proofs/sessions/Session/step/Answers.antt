use Rattle.std.proofs.lemmas.Result.{IfOk-weaker}
use Rattle.jr_names.specs.ReplyView.{reply_of}
use Rattle.jr_session.proofs.sessions.Session.step.Goals as goal

pub returns-clause-promises : goal.returns-clause-promises
returns-clause-promises g c = IfOk-weaker c.answer.result _ _ (λ reply h. c.accepted_refactorings_keep_programs.ensures c.args.self.now c.answer.new.self c.args.of.now (reply_of reply) h) c.answer.ensures.step
