use Rattle.std.proofs.Common.{map, sym, ap, subst, ◌∙◌}
use Rattle.std.specs.Prelude.{IfOk}
use Rattle.jr_members.specs.PartView.{written_of}
use Rattle.jr_names.specs.ReplyView.{outcome_of}
use Rattle.jr_extract_local.specs.Plans.{Plans}
use Rattle.jr_extract_local.proofs.plans.plan_at.Goals as goal

pub plan_among-outcome-requires : goal.plan_among-outcome-requires
plan_among-outcome-requires g c = record {
  members = ap (map written_of) c.as_slice.ensures.value ∙ c.in_ok-members.ensures;
  file = c.requires.file;
  name = c.requires.name;
}

pub returns : goal.returns
returns g c =
    let p = g.V.View.program c.args.view.now in
    subst (λ r. IfOk r (λ o. Plans p c.args.file c.args.from c.args.to c.args.name.now (outcome_of o))) (sym c.kept.ensures) c.plan_among-outcome.ensures
