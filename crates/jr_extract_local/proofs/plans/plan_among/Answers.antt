use Rattle.std.proofs.Common.{sym, subst}
use Rattle.std.specs.Prelude.{IfOk}
use Rattle.jr_names.specs.RefusalView.{refusal_of}
use Rattle.jr_names.specs.ReplyView.{outcome_of}
use Rattle.jr_plan.specs.Reasons.{by_itself}
use Rattle.jr_local_finds.specs.Extracts.{Extracts}
use Rattle.jr_local_finds.specs.ExtractView.{extracted_of}
use Rattle.jr_extract_local.specs.Plans.{Plans}
use Rattle.jr_extract_local.proofs.plans.plan_among.Goals as goal

pub extract_found-requires : goal.extract_found-requires
extract_found-requires g c = c.requires.members

pub of_selected-outcome-requires : goal.of_selected-outcome-requires
of_selected-outcome-requires g c =
    let p = g.V.View.program c.args.view.now in
    let of = c.args.request in
    record {
      members = c.requires.members;
      file = c.requires.file;
      name = c.requires.name;
      found = subst (λ r. Extracts p of.file of.from of.to of.name.now (extracted_of r)) c.in-Found.is c.in_ok-found.ensures;
    }

pub returns-in-Refused : goal.returns-in-Refused
returns-in-Refused g c =
    let p = g.V.View.program c.args.view.now in
    let of = c.args.request in
    by_itself (subst (λ r. Extracts p of.file of.from of.to of.name.now (extracted_of r)) c.in-Refused.is c.in_ok-found.ensures)

pub returns-in-Found : goal.returns-in-Found
returns-in-Found g c =
    let p = g.V.View.program c.args.view.now in
    let of = c.args.request in
    subst (λ r. IfOk r (λ o. Plans p of.file of.from of.to of.name.now (outcome_of o))) (sym c.kept.ensures) c.of_selected-outcome.ensures
