use Rattle.std.proofs.Common.{refl, sym, subst, inl}
use Rattle.std.specs.Prelude.{MatchOption}
use Rattle.std.proofs.lemmas.Result.{IfOk-weaker}
use Rattle.jr_table.specs.KeyView.{decl_of}
use Rattle.jr_names.specs.ReplyView.{outcome_of}
use Rattle.jr_plan.specs.Reasons.{by_itself}
use Rattle.jr_cursor.specs.ProgramTargets.{HasTargetAt, LacksTargetAt}
use Rattle.jr_rename.specs.Afters.{IsAfter, AnswersAfter}
use Rattle.jr_rename.specs.Answers.{Answers}
use Rattle.jr_rename.specs.Plans.{Plans}
use Rattle.jr_rename.proofs.Answering.{there, plans}
use Rattle.jr_rename.proofs.Telling.{plans_after}
use Rattle.jr_rename.proofs.plans.plan_among.Goals as goal

pub of_target-outcome-requires-clause-own : goal.of_target-outcome-requires-clause-own
of_target-outcome-requires-clause-own g c =
    let p = g.V.View.program c.args.view.now in
    let has = subst (λ o. MatchOption o (LacksTargetAt p c.args.file c.args.at) (λ d. HasTargetAt p c.args.file c.args.at (decl_of d))) c.in-Some.is c.in_ok-target.ensures in
    let f = there p.files c.args.file c.requires.file in (has f.0 f.1).own

pub returns-in-None-clause-plan : goal.returns-in-None-clause-plan
returns-in-None-clause-plan g c =
    let p = g.V.View.program c.args.view.now in
    let lacks = subst (λ o. MatchOption o (LacksTargetAt p c.args.file c.args.at) (λ d. HasTargetAt p c.args.file c.args.at (decl_of d))) c.in-None.is c.in_ok-target.ensures in
    IfOk-weaker c.no_target.result _ (λ o. Plans p c.args.file c.args.at c.args.new.now (outcome_of o)) (λ o e. subst (Plans p c.args.file c.args.at c.args.new.now) (sym e) (λ f s. by_itself (inl (lacks f s, refl)))) c.no_target.ensures

pub returns-in-Some-clause-plan : goal.returns-in-Some-clause-plan
returns-in-Some-clause-plan g c =
    let p = g.V.View.program c.args.view.now in
    let has = subst (λ o. MatchOption o (LacksTargetAt p c.args.file c.args.at) (λ d. HasTargetAt p c.args.file c.args.at (decl_of d))) c.in-Some.is c.in_ok-target.ensures in
    IfOk-weaker c.of_target-outcome.result (λ o. Answers p (decl_of c.in-Some.target) c.args.new.now (outcome_of o)) (λ o. Plans p c.args.file c.args.at c.args.new.now (outcome_of o))
    (λ o h. plans p c.args.file c.args.at c.args.new.now (decl_of c.in-Some.target) has (outcome_of o) h) c.of_target-outcome.ensures.outcome

pub returns-in-None-clause-after : goal.returns-in-None-clause-after
returns-in-None-clause-after g c =
    let p = g.V.View.program c.args.view.now in
    IfOk-weaker c.no_target.result _ (λ o. IsAfter p c.args.file c.args.at c.args.new.now (outcome_of o) c.args.after.now) (λ o e. subst (IsAfter p c.args.file c.args.at c.args.new.now (outcome_of o)) (sym c.requires.blank) tt) c.no_target.ensures

pub returns-in-Some-clause-after : goal.returns-in-Some-clause-after
returns-in-Some-clause-after g c =
    let p = g.V.View.program c.args.view.now in
    let has = subst (λ o. MatchOption o (LacksTargetAt p c.args.file c.args.at) (λ d. HasTargetAt p c.args.file c.args.at (decl_of d))) c.in-Some.is c.in_ok-target.ensures in
    let told = c.of_target-outcome.new.after in
    IfOk-weaker c.of_target-outcome.result (λ o. AnswersAfter p (decl_of c.in-Some.target) c.args.new.now (outcome_of o) told) (λ o. IsAfter p c.args.file c.args.at c.args.new.now (outcome_of o) told)
    (λ o h. plans_after p c.args.file c.args.at c.args.new.now (decl_of c.in-Some.target) has (outcome_of o) told h) c.of_target-outcome.ensures.after
