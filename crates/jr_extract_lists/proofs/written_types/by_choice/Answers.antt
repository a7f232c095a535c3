use Rattle.std.proofs.Common.{[], ◌∷◌, refl, sym, subst}
use Rattle.std.specs.Prelude.{IfOk}
use Rattle.std.proofs.lemmas.Result.{IfOk-weaker}
use Rattle.jr_table.specs.TypeView.{class_key_of}
use Rattle.jr_new_words.specs.declared.choices.Choice as raw
use Rattle.jr_new_words.specs.ChoiceView.{chosen_of, choice_of}
use Rattle.jr_extract_lists.specs.WrittenTypes.{SpellsType, IsOfChoice}
use Rattle.jr_extract_lists.proofs.WrittenTypes.{as_is_so, stays_so, loses_so, respelled_so}
use Rattle.jr_extract_lists.proofs.written_types.by_choice.Goals as goal

pub returns-in-Stays : goal.returns-in-Stays
returns-in-Stays c =
    let k = class_key_of c.args.class.now in
    subst (λ (h : raw.Choice). IfOk c.as_is.result (IsOfChoice k (choice_of h))) (sym c.in-Stays.is)
    (IfOk-weaker c.as_is.result _ _ (λ w h. stays_so k w (as_is_so c.as_str.result.now c.new.result.items w k.name [] c.as_str.ensures c.new.ensures.items h)) c.as_is.ensures)

pub returns-in-Becomes : goal.returns-in-Becomes
returns-in-Becomes c =
    let k = class_key_of c.args.class.now in
    subst (λ (h : raw.Choice). IfOk c.respelled.result (IsOfChoice k (choice_of h))) (sym c.in-Becomes.is)
    (IfOk-weaker c.respelled.result _ _ (λ w h. respelled_so (chosen_of c.in-Becomes.chosen) (subst (λ (h : raw.Choice). SpellsType (choice_of h)) c.in-Becomes.is c.requires) k w h) c.respelled.ensures)

pub returns-in-Loses : goal.returns-in-Loses
returns-in-Loses c =
    let k = class_key_of c.args.class.now in
    subst (λ (h : raw.Choice). IfOk c.as_lost.result (IsOfChoice k (choice_of h))) (sym c.in-Loses.is)
    (IfOk-weaker c.as_lost.result _ _ (λ w h. loses_so k c.in-Loses.lost w (as_is_so c.as_str-in-Loses.result.now (c.in-Loses.lost ∷ []) w k.name (c.in-Loses.lost ∷ []) c.as_str-in-Loses.ensures refl h)) c.as_lost.ensures)
