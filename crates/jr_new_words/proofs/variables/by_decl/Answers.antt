use Rattle.std.proofs.Common.{List, sym, subst, ◌∙◌}
use Rattle.std.proofs.lemmas.Result.{IfOk-weaker}
use Rattle.std.specs.Prelude.{option_map}
use Rattle.jr_table.specs.Keys.{Ty}
use Rattle.jr_table.specs.KeyView.{decl_of}
use Rattle.jr_table.specs.Context.{scope_of}
use Rattle.jr_new_words.specs.ChoiceView.{choice_of}
use Rattle.jr_new_words.specs.Scopes.{rows_of, mapping_of, context_of}
use Rattle.jr_new_words.specs.Ways.{local, own_field, IsChosenFor}
use Rattle.jr_new_words.proofs.ChosenBy.{a_local, no_local}
use Rattle.jr_new_words.proofs.variables.by_decl.Goals as goal

pub returns-then-is_local : goal.returns-then-is_local
returns-then-is_local c =
    let s = c.args.scopes.now in
    let rows = rows_of s in
    let x = context_of s in
    let d = decl_of c.args.decl.now in
    let each = (c.lookups_are_exact.ensures.one rows c.keeps_rows.ensures).variable (scope_of x) c.args.name.now in
    IfOk-weaker c.chosen_for.result _ _ (λ o h. a_local rows (mapping_of s) x c.args.at c.args.name.now each d c.requires.finds (sym c.is_local.ensures ∙ c.if-is_local.true) (option_map choice_of o)
    (subst (λ (ts : List Ty). IsChosenFor rows (mapping_of s) x local ts c.args.at c.args.name.now d (option_map choice_of o)) c.in_ok-none.ensures h)) c.chosen_for.ensures

pub returns : goal.returns
returns c =
    let s = c.args.scopes.now in
    let rows = rows_of s in
    let x = context_of s in
    let d = decl_of c.args.decl.now in
    let each = (c.lookups_are_exact.ensures.one rows c.keeps_rows.ensures).variable (scope_of x) c.args.name.now in
    IfOk-weaker c.chosen_for-else-is_local.result _ _ (λ o h. no_local rows (mapping_of s) x c.args.at c.args.name.now each d c.requires.finds (sym c.is_local.ensures ∙ c.if-is_local.false) (option_map choice_of o)
    (subst (λ (ts : List Ty). IsChosenFor rows (mapping_of s) x own_field ts c.args.at c.args.name.now d (option_map choice_of o)) c.in_ok-none.ensures h)) c.chosen_for-else-is_local.ensures
