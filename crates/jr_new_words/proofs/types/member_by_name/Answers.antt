use Rattle.std.proofs.Common.{[], refl, ap}
use Rattle.std.proofs.lemmas.Result.{IfOk-weaker}
use Rattle.std.specs.Prelude.{option_map}
use Rattle.jr_table.specs.Keys.{ClassKey}
use Rattle.jr_table.specs.Decls.{class_decl}
use Rattle.jr_table.specs.TypeView.{class_key_of}
use Rattle.jr_table.specs.Context.{scope_of}
use Rattle.jr_new_words.specs.Mappings.{class_to}
use Rattle.jr_new_words.specs.ChoiceView.{choice_of}
use Rattle.jr_new_words.specs.Scopes.{rows_of, mapping_of, context_of}
use Rattle.jr_new_words.specs.Ways.{type_behind}
use Rattle.jr_new_words.proofs.DeclKinds.{class_decls}
use Rattle.jr_new_words.proofs.OneEach.{one_class}
use Rattle.jr_new_words.proofs.ChosenBy.{asked_so, of_kind, behind}
use Rattle.jr_new_words.proofs.types.member_by_name.Goals as goal

pub returns : goal.returns
returns c =
    let s = c.args.scopes.now in
    let rows = rows_of s in
    let g = mapping_of s in
    let x = context_of s in
    let at = c.args.at in
    let old = c.args.name.now in
    let outer = c.args.outer.now in
    let k = class_key_of c.args.class.now in
    let to = type_behind (class_to g k).name in
    let same = one_class rows (scope_of x) (c.lookups_are_exact.ensures.one rows c.keeps_rows.ensures) outer in
    IfOk-weaker c.chosen.result _ _ (λ o h. behind rows g x at old outer k c.requires.finds same (option_map choice_of o)
    (of_kind rows g x at old class_decl (type_behind outer) to [] [] class_decls (λ k. refl) (option_map choice_of o)
    (asked_so rows g x at old (type_behind outer) _ [] _ to _ [] c.in_ok-none.ensures (ap (λ (k : ClassKey). type_behind k.name) c.in_ok-image.ensures) c.in_ok-none.ensures (option_map choice_of o) h))) c.chosen.ensures
