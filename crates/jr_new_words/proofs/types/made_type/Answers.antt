use Rattle.std.proofs.lemmas.Result.{IfOk-weaker}
use Rattle.jr_table.specs.TypeView.{class_key_of}
use Rattle.jr_new_words.specs.ChoiceView.{choice_of}
use Rattle.jr_new_words.specs.Scopes.{rows_of, mapping_of, context_of}
use Rattle.jr_new_words.proofs.Spells.{makes_so}
use Rattle.jr_new_words.proofs.types.made_type.Goals as goal

pub returns : goal.returns
returns c =
    let s = c.args.scopes.now in
    let k = class_key_of c.args.class.now in
    let own = class_key_of c.in_ok-key.key in
    let image = class_key_of c.in_ok-to.to in
    IfOk-weaker c.taken_to-choice.result _ _ (λ h x. makes_so (rows_of s) (mapping_of s) (context_of s) c.args.at k own image c.in_ok-none.none c.in_ok-key.ensures c.in_ok-to.ensures c.in_ok-none.ensures (choice_of h) x) c.taken_to-choice.ensures
