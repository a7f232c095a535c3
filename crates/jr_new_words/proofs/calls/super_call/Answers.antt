use Rattle.std.proofs.Common.{refl}
use Rattle.std.proofs.lemmas.Result.{IfOk-weaker}
use Rattle.std.specs.Prelude.{option_map}
use Rattle.jr_table.specs.Decls.{method_decl}
use Rattle.jr_new_words.specs.ChoiceView.{choice_of}
use Rattle.jr_new_words.specs.Scopes.{rows_of, mapping_of, context_of}
use Rattle.jr_new_words.specs.Ways.{method_above}
use Rattle.jr_new_words.proofs.DeclKinds.{method_decls}
use Rattle.jr_new_words.proofs.ChosenBy.{of_kind}
use Rattle.jr_new_words.proofs.calls.super_call.Goals as goal

pub returns : goal.returns
returns c =
    let s = c.args.scopes.now in
    IfOk-weaker c.chosen.result _ _ (λ o h. of_kind (rows_of s) (mapping_of s) (context_of s) c.args.at c.args.name.now method_decl method_above method_above c.args.args.now c.args.images.now method_decls (λ k. refl) (option_map choice_of o) h) c.chosen.ensures
