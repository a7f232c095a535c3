use Rattle.std.proofs.Common.{List, ℕ, [], refl, subst}
use Rattle.std.proofs.lemmas.Result.{IfOk-weaker}
use Rattle.std.specs.Prelude.{option_map}
use Rattle.jr_table.specs.Decls.{constructor_decl}
use Rattle.jr_new_words.specs.ChoiceView.{choice_of}
use Rattle.jr_new_words.specs.Scopes.{rows_of, mapping_of, context_of}
use Rattle.jr_new_words.specs.Ways.{ctor_above, IsChosenBy}
use Rattle.jr_new_words.proofs.DeclKinds.{ctor_decls}
use Rattle.jr_new_words.proofs.ChosenBy.{of_kind}
use Rattle.jr_new_words.proofs.ctors.super_ctor.Goals as goal

pub returns : goal.returns
returns c =
    let s = c.args.scopes.now in
    let rows = rows_of s in
    let g = mapping_of s in
    let x = context_of s in
    let ts = c.args.args.now in
    let us = c.args.images.now in
    let at = c.args.at in
    IfOk-weaker c.chosen.result _ _ (λ o h. of_kind rows g x at [] constructor_decl ctor_above ctor_above ts us ctor_decls (λ k. refl) (option_map choice_of o)
    (subst (λ (old : List ℕ). IsChosenBy rows g x ctor_above ts ctor_above us at old (option_map choice_of o)) c.in_ok-none.ensures h)) c.chosen.ensures
