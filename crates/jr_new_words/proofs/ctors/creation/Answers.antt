use Rattle.std.proofs.Common.{List, ℕ, [], refl, ap, subst}
use Rattle.std.proofs.lemmas.Result.{IfOk-weaker}
use Rattle.std.specs.Prelude.{option_map}
use Rattle.jr_table.specs.Decls.{constructor_decl}
use Rattle.jr_table.specs.TypeView.{class_key_of}
use Rattle.jr_new_words.specs.Mappings.{class_to}
use Rattle.jr_new_words.specs.ChoiceView.{choice_of}
use Rattle.jr_new_words.specs.Scopes.{rows_of, mapping_of, context_of}
use Rattle.jr_new_words.specs.Ways.{ctor_of, IsChosenBy}
use Rattle.jr_new_words.proofs.DeclKinds.{ctor_decls}
use Rattle.jr_new_words.proofs.ChosenBy.{asked_so, of_kind}
use Rattle.jr_new_words.proofs.ctors.creation.Goals as goal

pub returns : goal.returns
returns c =
    let s = c.args.scopes.now in
    let rows = rows_of s in
    let g = mapping_of s in
    let x = context_of s in
    let ts = c.args.args.now in
    let us = c.args.images.now in
    let at = c.args.at in
    let k = class_key_of c.args.class.now in
    IfOk-weaker c.chosen.result _ _ (λ o h. of_kind rows g x at [] constructor_decl (ctor_of k) (ctor_of (class_to g k)) ts us ctor_decls (λ k. refl) (option_map choice_of o)
    (subst (λ (old : List ℕ). IsChosenBy rows g x (ctor_of k) ts (ctor_of (class_to g k)) us at old (option_map choice_of o)) c.in_ok-none.ensures
    (asked_so rows g x at c.in_ok-none.none (ctor_of k) _ ts _ (ctor_of (class_to g k)) _ us refl (ap ctor_of c.in_ok-on.ensures) refl (option_map choice_of o) h))) c.chosen.ensures
