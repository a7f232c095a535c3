use Rattle.std.proofs.Common.{[]}
use Rattle.std.proofs.lemmas.Result.{IfOk-weaker}
use Rattle.std.specs.Prelude.{option_map}
use Rattle.jr_table.specs.Keys.{FieldKey}
use Rattle.jr_table.specs.Decls.{field_decl}
use Rattle.jr_table.specs.Found.{one}
use Rattle.jr_table.specs.Lookup.{FindsFieldIn}
use Rattle.jr_table.specs.Context.{scope_of}
use Rattle.jr_table.specs.TypeView.{class_key_of, ty_of}
use Rattle.jr_new_words.specs.ChoiceView.{choice_of}
use Rattle.jr_new_words.specs.Chosen.{FieldSpells}
use Rattle.jr_new_words.specs.Scopes.{rows_of, mapping_of, context_of}
use Rattle.jr_new_words.specs.Ways.{field_on, field_on_type, SpellsBy}
use Rattle.jr_new_words.proofs.ChosenBy.{asked_so, of_kind}
use Rattle.jr_new_words.proofs.OnTypes.{chooses_along, fields_on, on_fields, field_spells}
use Rattle.jr_new_words.proofs.fields.field.Goals as goal

pub returns : goal.returns
returns c =
    let s = c.args.scopes.now in
    let rows = rows_of s in
    let g = mapping_of s in
    let x = context_of s in
    let at = c.args.at in
    let name = c.args.name.now in
    let k = class_key_of c.args.class.now in
    let t = ty_of c.args.now.now in
    IfOk-weaker c.chosen.result _ _ (λ o h. chooses_along (λ (f : FieldKey). FindsFieldIn rows (scope_of x) k name (one (field_decl f))) (λ f h. SpellsBy rows g x (field_on_type t) [] at name (field_decl f) h) (FieldSpells rows g x at t name) (field_spells rows g x at name t) (option_map choice_of o)
    (of_kind rows g x at name field_decl (field_on k) (field_on_type t) [] [] (fields_on t) (on_fields t) (option_map choice_of o)
    (asked_so rows g x at name (field_on k) _ [] _ (field_on_type t) _ [] c.in_ok-none.ensures c.field_on_type-to.ensures c.in_ok-none.ensures (option_map choice_of o) h))) c.chosen.ensures
