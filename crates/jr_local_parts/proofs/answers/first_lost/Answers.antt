use Rattle.std.proofs.Common.{List, ap, sym, subst, ◌∙◌}
use Rattle.std.specs.Prelude.{option_map}
use Rattle.jr_new_words.specs.declared.choices.Lost as raw
use Rattle.jr_new_words.specs.ChoiceView.{lost_of}
use Rattle.jr_new_bodies.specs.OutputView.{losses_in}
use Rattle.jr_new_files.specs.Lost.{HasLeast}
use Rattle.jr_local_parts.proofs.FileLists.{none_kept, first_kept, inside_kept}
use Rattle.jr_local_parts.proofs.answers.first_lost.Goals as goal

pub with_other-requires : goal.with_other-requires
with_other-requires c =
    inside_kept c.args.kept.items c.in-Some.number (subst (λ (ls : List raw.Lost). HasLeast (losses_in ls) c.in-Some.number) c.as_slice.ensures.value c.in-Some.ensures.some)

pub returns-in-None : goal.returns-in-None
returns-in-None c = none_kept (losses_in c.args.kept.items) (option_map lost_of c.args.other) (ap losses_in (sym c.as_slice.ensures.value ∙ c.in-None.ensures.none))

pub returns-in-Some : goal.returns-in-Some
returns-in-Some c =
    let least = subst (λ (ls : List raw.Lost). HasLeast (losses_in ls) c.in-Some.number) c.as_slice.ensures.value c.in-Some.ensures.some in
    first_kept (losses_in c.args.kept.items) c.in-Some.number (option_map lost_of c.args.other) (lost_of c.with_other.result) least c.with_other.ensures
