use Rattle.std.proofs.lemmas.Result.{IfOk-weaker}
use Rattle.jr_names.specs.ReplyView.{outcome_of}
use Rattle.jr_rename.specs.Plans.{Plans}
use Rattle.jr_rename.proofs.Naming.{within}
use Rattle.jr_rename.proofs.steps.plan_in.Goals as goal

pub plan_at-outcome-requires-clause-file : goal.plan_at-outcome-requires-clause-file
plan_at-outcome-requires-clause-file g c = within (g.V.View.program c.args.view.now) c.args.file.now c.file_of-number.result c.file_of-number.ensures.has

pub returns : goal.returns
returns g c = IfOk-weaker c.plan_at-outcome.result (λ o. Plans (g.V.View.program c.args.view.now) c.file_of-number.result c.args.at c.args.new.now (outcome_of o)) _ (λ o h. (c.file_of-number.result, c.file_of-number.ensures, h)) c.plan_at-outcome.ensures.plan
