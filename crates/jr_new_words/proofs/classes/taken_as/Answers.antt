use Rattle.std.proofs.Common.{ap, subst, ◌∙◌}
use Rattle.std.specs.Prelude.{option_map}
use Rattle.std.specs.Result.{IfOk}
use Rattle.jr_table.specs.Keys.{ClassKey}
use Rattle.jr_table.specs.Decls.{Decl, class_decl}
use Rattle.jr_new_words.specs.ChoiceView.{choice_of}
use Rattle.jr_new_words.specs.Scopes.{rows_to, place_to}
use Rattle.jr_new_words.specs.Taking.{Takes, asked_of}
use Rattle.jr_new_words.proofs.classes.taken_as.Goals as goal

pub returns : goal.returns
returns c =
    let s = c.args.scopes.now in
    let target = c.as_decl-target.ensures ∙ ap (λ (k : ClassKey). class_decl k) c.in_ok-key.ensures in
    subst (λ (d : Decl). IfOk c.choose-choice.result (λ o. Takes (rows_to s) (place_to s) (asked_of c.args.asked.now d) c.args.old.now (option_map choice_of o))) target c.choose-choice.ensures
