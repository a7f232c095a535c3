use Rattle.std.proofs.Common.{refl}
use Rattle.std.proofs.lemmas.Result.{IfOk-weaker}
use Rattle.std.specs.Prelude.{option_map, []}
use Rattle.jr_table.specs.Decls.{field_decl}
use Rattle.jr_new_words.specs.ChoiceView.{choice_of}
use Rattle.jr_new_words.specs.Scopes.{rows_of, mapping_of, context_of}
use Rattle.jr_new_words.specs.Ways.{field_above}
use Rattle.jr_new_words.proofs.DeclKinds.{field_decls}
use Rattle.jr_new_words.proofs.ChosenBy.{asked_so, of_kind}
use Rattle.jr_new_words.proofs.fields.super_field.Goals as goal

pub returns : goal.returns
returns c =
    let s = c.args.scopes.now in
    let rows = rows_of s in
    let g = mapping_of s in
    let x = context_of s in
    IfOk-weaker c.chosen.result _ _ (λ o h. of_kind rows g x c.args.at c.args.name.now field_decl field_above field_above [] [] field_decls (λ k. refl) (option_map choice_of o)
    (asked_so rows g x c.args.at c.args.name.now field_above _ [] _ field_above _ [] c.in_ok-none.ensures refl c.in_ok-none.ensures (option_map choice_of o) h)) c.chosen.ensures
