use Rattle.std.proofs.Common.{Option, refl, sym, subst}
use Rattle.std.specs.Prelude.{option_map}
use Rattle.jr_new_words.specs.declared.choices.Lost as raw
use Rattle.jr_new_words.specs.ChoiceView.{lost_of}
use Rattle.jr_new_bodies.specs.OutputView.{losses_in}
use Rattle.jr_local_parts.specs.Answers.{IsWithOther}
use Rattle.jr_local_parts.proofs.FileLists.{taken}
use Rattle.jr_local_parts.proofs.answers.with_other.Goals as goal

pub returns-in-None : goal.returns-in-None
returns-in-None c =
    let first = c.swap_remove-first.result in
    let stands = taken c.args.kept.items c.args.number first c.requires c.swap_remove-first.ensures.value in
    subst (λ (o : Option raw.Lost). IsWithOther (losses_in c.args.kept.items) c.args.number (option_map lost_of o) (lost_of first)) (sym c.in-None.is) (lost_of first, stands, refl)

pub returns : goal.returns
returns c =
    let first = c.swap_remove-first.result in
    let stands = taken c.args.kept.items c.args.number first c.requires c.swap_remove-first.ensures.value in
    subst (λ (o : Option raw.Lost). IsWithOther (losses_in c.args.kept.items) c.args.number (option_map lost_of o) (lost_of c.earlier_of.result)) (sym c.in-Some.is) (lost_of first, stands, c.earlier_of.ensures)
