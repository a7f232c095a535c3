use Rattle.std.proofs.Common.{◌≡◌, ◌∙◌, List, Option, ap, sym, subst, refl}
use Rattle.std.specs.Prelude.{None, Some, IfOk, option_map}
use Rattle.jr_names.specs.ReplyView.{outcome_of}
use Rattle.jr_rewrite.specs.declared.changes.Change as raw_change
use Rattle.jr_new_words.specs.declared.choices.Lost as raw_lost
use Rattle.jr_new_words.specs.ChoiceView.{lost_of}
use Rattle.jr_new_bodies.specs.OutputView.{losses_in}
use Rattle.jr_local_parts.specs.Answers.{IsFirst}
use Rattle.jr_extract_lists.specs.Walked.{IsOfList}
use Rattle.jr_extract_local.specs.Plans.{AnswersFound}
use Rattle.jr_extract_local.proofs.Planning.{keeps, refuses}
use Rattle.jr_extract_local.proofs.plans.of_list.Goals as goal

pub planned-outcome-requires : goal.planned-outcome-requires
planned-outcome-requires g c =
    let p = g.V.View.program c.args.view.now in
    let t = c.args.of.now in
    let l = c.requires.list in
    let out = c.args.listed.out in
    let none = subst (λ (o : Option raw_lost.Lost). IsFirst (losses_in out.losses.items) (option_map lost_of c.args.listed.lost) (option_map lost_of o)) c.in-None.is c.first_lost.ensures in
    record {
      name = c.requires.name;
      list = subst (λ (cs : List raw_change.Change). IsOfList p t c.args.at.now cs out.respelled) (sym c.as_slice.ensures.value) (l.0, l.1, keeps p t l.0 l.2.0 c.args.listed l.2.1 none);
    }

pub returns-in-Some : goal.returns-in-Some
returns-in-Some g c =
    let p = g.V.View.program c.args.view.now in
    let t = c.args.of.now in
    let l = c.requires.list in
    let out = c.args.listed.out in
    let some = subst (λ (o : Option raw_lost.Lost). IsFirst (losses_in out.losses.items) (option_map lost_of c.args.listed.lost) (option_map lost_of o)) c.in-Some.is c.first_lost.ensures in
    subst (AnswersFound p t) (sym c.lost_binding.ensures) (refuses p t l.0 l.2.0 c.args.listed l.2.1 c.extracts_are_whole.ensures out.losses.items refl (lost_of c.in-Some.lost) some)

pub returns-in-None : goal.returns-in-None
returns-in-None g c =
    let p = g.V.View.program c.args.view.now in
    let t = c.args.of.now in
    subst (λ r. IfOk r (λ o. AnswersFound p t (outcome_of o))) (sym c.kept.ensures) c.planned-outcome.ensures
