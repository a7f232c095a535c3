use Rattle.std.proofs.Common.{arith, sym, ◌∙◌}
use Rattle.std.proofs.lemmas.Result.{IfOk-at_ok}
use Rattle.jr_names.specs.ReplyView.{outcome_of}
use Rattle.jr_sources.specs.WholeView.{whole_of}
use Rattle.jr_session.proofs.NewTells.{plan_tells}
use Rattle.jr_session.proofs.Planning.{count, so_planned}
use Rattle.jr_session.proofs.plans.sound.Goals as goal

pub plan_asked-planned-requires-clause-file : goal.plan_asked-planned-requires-clause-file
plan_asked-planned-requires-clause-file c =
    let n = count c.args.sources.now (whole_of c.new-whole.result) c.new-whole.ensures.program c.args.request.now.number c.requires.number in
    let lt = c.requires.number in
    omega (arith, n, lt)

pub returns-clause-planned : goal.returns-clause-planned
returns-clause-planned c =
    let plan = IfOk-at_ok _ (sym c.kept.ensures ∙ c.in_ok-outcome.was) c.plan_asked-planned.ensures.plan in
    so_planned c.args.sources.now (whole_of c.new-whole.result) c.new-whole.ensures.program c.args.request.now.number c.requires.number c.args.request.now.file.now c.args.request.now.asked (outcome_of c.in_ok-outcome.outcome) plan c.of_outcome.result c.of_outcome.ensures

pub returns-clause-told : goal.returns-clause-told
returns-clause-told c =
    let told = IfOk-at_ok _ (sym c.kept.ensures ∙ c.in_ok-outcome.was) c.plan_asked-planned.ensures.after in
    plan_tells c.new_tables.ensures c.args.sources.now (whole_of c.new-whole.result) c.new-whole.ensures.program c.args.request.now.number c.requires.number c.args.request.now.file.now c.args.request.now.asked c.requires.name
    c.args.analysis.now c.new-whole.ensures.rows (outcome_of c.in_ok-outcome.outcome) c.plan_asked-planned.new.after told c.of_outcome.result c.of_outcome.ensures
