use Rattle.std.proofs.Common.{refl}
use Rattle.std.proofs.lemmas.Result.{IfOk-weaker}
use Rattle.std.specs.Prelude.{option_map}
use Rattle.jr_table.specs.Keys.{MethodKey}
use Rattle.jr_table.specs.Decls.{method_decl}
use Rattle.jr_table.specs.Found.{one}
use Rattle.jr_table.specs.Lookup.{FindsMethodOf}
use Rattle.jr_table.specs.Context.{scope_of}
use Rattle.jr_table.specs.TypeView.{class_key_of, ty_of}
use Rattle.jr_new_words.specs.ChoiceView.{choice_of}
use Rattle.jr_new_words.specs.Chosen.{CallSpells}
use Rattle.jr_new_words.specs.Scopes.{rows_of, mapping_of, context_of}
use Rattle.jr_new_words.specs.Ways.{method_on, method_on_type, SpellsBy}
use Rattle.jr_new_words.proofs.ChosenBy.{asked_so, of_kind}
use Rattle.jr_new_words.proofs.OnTypes.{chooses_along, methods_on, on_methods, call_spells}
use Rattle.jr_new_words.proofs.calls.call.Goals as goal

pub returns : goal.returns
returns c =
    let s = c.args.scopes.now in
    let rows = rows_of s in
    let g = mapping_of s in
    let x = context_of s in
    let at = c.args.at in
    let name = c.args.name.now in
    let k = class_key_of c.args.class.now in
    let t = ty_of c.args.now.now in
    let ts = c.args.args.now in
    let us = c.args.images.now in
    IfOk-weaker c.chosen.result _ _ (λ o h. chooses_along (λ (q : MethodKey). FindsMethodOf rows (scope_of x) k name ts (one (method_decl q))) (λ q h. SpellsBy rows g x (method_on_type t) us at name (method_decl q) h) (CallSpells rows g x at t name us) (call_spells rows g x at name t us) (option_map choice_of o)
    (of_kind rows g x at name method_decl (method_on k) (method_on_type t) ts us (methods_on t) (on_methods t) (option_map choice_of o)
    (asked_so rows g x at name (method_on k) _ ts _ (method_on_type t) _ us refl c.method_on_type-to.ensures refl (option_map choice_of o) h))) c.chosen.ensures
