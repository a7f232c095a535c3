use Rattle.std.proofs.Common.{subst}
use Rattle.std.specs.Prelude.{option_map}
use Rattle.std.specs.Result.{IfOk}
use Rattle.jr_table.specs.TypeView.{class_key_of}
use Rattle.jr_table.specs.Decls.{class_decl}
use Rattle.jr_new_words.specs.ChoiceView.{choice_of}
use Rattle.jr_new_words.specs.Scopes.{rows_to, place_to}
use Rattle.jr_new_words.specs.Taking.{Asked, Takes}
use Rattle.jr_new_words.proofs.classes.taken_in_front.Goals as goal

pub returns : goal.returns
returns c =
    let s = c.args.scopes.now in
    let k = class_key_of c.args.image.now in
    subst (λ (a : Asked). IfOk c.taken_as-choice.result (λ o. Takes (rows_to s) (place_to s) a c.args.old.now (option_map choice_of o)))
    (λ i. record { reference = c.in_ok-asked.ensures.reference i; target = class_decl k; name = c.in_ok-asked.ensures.name i }) c.taken_as-choice.ensures
