use Rattle.std.proofs.Common.{ℕ, Option}
use Rattle.jr_new_bodies.specs.OutputView.{gathered}
use Rattle.jr_rewrite.specs.Respellings.{Choice}
use Rattle.jr_new_words.specs.ChoiceView.{choice_of}
use Rattle.jr_new_words.specs.Chosen.{TopParentIsChosen}
use Rattle.jr_new_bodies.proofs.Choices.{some_where, of_some}
use Rattle.jr_new_bodies.proofs.Oks.{on_ok}
use Rattle.jr_new_files.specs.Walking.{rows_of, mapping_of}
use Rattle.jr_new_files.proofs.heads.top_name.Goals as goal

pub unwrap-requires : goal.unwrap-requires
unwrap-requires c =
    let w = c.args.of.now in
    let name = c.args.name.now in
    some_where choice_of c.in_ok-choice.choice (λ (o : Option Choice). TopParentIsChosen (rows_of w) (mapping_of w) name.mark.from name.name o) c.in_ok-choice.ensures (λ none. none c.requires.ready.0 c.requires.ready.1)

pub returns : goal.returns
returns c =
    let w = c.args.of.now in
    let name = c.args.name.now in
    on_ok c.put_alone.result (λ e. (
      choice_of c.unwrap.result,
      of_some choice_of c.in_ok-choice.choice c.unwrap.result (λ (o : Option Choice). TopParentIsChosen (rows_of w) (mapping_of w) name.mark.from name.name o) c.unwrap.ensures c.in_ok-choice.ensures,
      e,
    )) c.put_alone.ensures
