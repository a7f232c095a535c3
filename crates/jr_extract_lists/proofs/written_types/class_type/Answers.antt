use Rattle.std.proofs.lemmas.Result.{IfOk-weaker}
use Rattle.jr_table.specs.TypeView.{class_key_of}
use Rattle.jr_new_words.specs.ChoiceView.{choice_of}
use Rattle.jr_new_bodies.specs.Known.{context_of, mapping_of, rows_of}
use Rattle.jr_extract_lists.proofs.WrittenTypes.{made_spells, class_so}
use Rattle.jr_extract_lists.proofs.written_types.class_type.Goals as goal

pub by_choice-requires : goal.by_choice-requires
by_choice-requires c =
    let h = c.args.here.now in
    made_spells (rows_of h) (mapping_of h) (context_of h) c.args.at (class_key_of c.args.class.now) (choice_of c.in_ok-choice.choice) c.in_ok-choice.ensures

pub returns : goal.returns
returns c =
    let h = c.args.here.now in
    IfOk-weaker c.by_choice.result _ _ (λ w o. class_so (rows_of h) (mapping_of h) (context_of h) c.args.at w (class_key_of c.args.class.now) (choice_of c.in_ok-choice.choice) c.in_ok-choice.ensures o) c.by_choice.ensures
