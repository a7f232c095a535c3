use Rattle.std.proofs.Common.{map, sym, ap, subst, ◌∙◌}
use Rattle.std.specs.Prelude.{IfOk}
use Rattle.jr_members.specs.PartView.{written_of}
use Rattle.jr_names.specs.ReplyView.{outcome_of}
use Rattle.jr_rename.specs.Afters.{IsAfter}
use Rattle.jr_rename.specs.Plans.{Plans}
use Rattle.jr_rename.proofs.plans.plan_at.Goals as goal

pub plan_among-outcome-requires-clause-members : goal.plan_among-outcome-requires-clause-members
plan_among-outcome-requires-clause-members g c = ap (map written_of) c.as_slice.ensures.value ∙ c.in_ok-members.ensures

pub plan_among-outcome-requires-clause-file : goal.plan_among-outcome-requires-clause-file
plan_among-outcome-requires-clause-file g c = c.requires.file

pub plan_among-outcome-requires-clause-name : goal.plan_among-outcome-requires-clause-name
plan_among-outcome-requires-clause-name g c = c.requires.name

pub plan_among-outcome-requires-clause-blank : goal.plan_among-outcome-requires-clause-blank
plan_among-outcome-requires-clause-blank g c = c.requires.blank

pub returns-clause-plan : goal.returns-clause-plan
returns-clause-plan g c =
    let p = g.V.View.program c.args.view.now in
    subst (λ r. IfOk r (λ o. Plans p c.args.file c.args.at c.args.new.now (outcome_of o))) (sym c.kept.ensures) c.plan_among-outcome.ensures.plan

pub returns-clause-after : goal.returns-clause-after
returns-clause-after g c =
    let p = g.V.View.program c.args.view.now in
    let told = c.plan_among-outcome.new.after in
    subst (λ r. IfOk r (λ o. IsAfter p c.args.file c.args.at c.args.new.now (outcome_of o) told)) (sym c.kept.ensures) c.plan_among-outcome.ensures.after
