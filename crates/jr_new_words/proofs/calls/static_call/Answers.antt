use Rattle.std.proofs.Common.{refl}
use Rattle.std.proofs.lemmas.Result.{IfOk-weaker}
use Rattle.std.specs.Prelude.{option_map}
use Rattle.jr_table.specs.Decls.{method_decl}
use Rattle.jr_table.specs.TypeView.{class_key_of}
use Rattle.jr_new_words.specs.Mappings.{class_to}
use Rattle.jr_new_words.specs.ChoiceView.{choice_of}
use Rattle.jr_new_words.specs.FrontView.{in_front_of}
use Rattle.jr_new_words.specs.Scopes.{rows_of, mapping_of, context_of}
use Rattle.jr_new_words.specs.Ways.{method_on, method_through}
use Rattle.jr_new_words.proofs.DeclKinds.{method_decls}
use Rattle.jr_new_words.proofs.ChosenBy.{asked_so, of_kind}
use Rattle.jr_new_words.proofs.calls.static_call.Goals as goal

pub returns : goal.returns
returns c =
    let s = c.args.scopes.now in
    let rows = rows_of s in
    let g = mapping_of s in
    let x = context_of s in
    let k = class_key_of c.args.class.now in
    let ts = c.args.args.now in
    let us = c.args.images.now in
    IfOk-weaker c.chosen.result _ _ (λ o h. of_kind rows g x c.args.at c.args.name.now method_decl (method_on k) (method_through (in_front_of c.args.words) (class_to g k)) ts us method_decls (λ k. refl) (option_map choice_of o)
    (asked_so rows g x c.args.at c.args.name.now (method_on k) _ ts _ (method_through (in_front_of c.args.words) (class_to g k)) _ us refl (λ i. method_through (in_front_of c.args.words) (c.in_ok-on.ensures i)) refl (option_map choice_of o) h)) c.chosen.ensures
