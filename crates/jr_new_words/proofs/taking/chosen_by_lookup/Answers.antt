use Rattle.std.proofs.Common.{subst}
use Rattle.std.proofs.lemmas.Result.{IfOk-weaker}
use Rattle.std.specs.Prelude.{option_map}
use Rattle.jr_table.specs.Found.{one}
use Rattle.jr_table.specs.KeyView.{decl_of}
use Rattle.jr_table.specs.FoundView.{found_of}
use Rattle.jr_table.specs.Context.{scope_of}
use Rattle.jr_new_words.specs.ChoiceView.{choice_of}
use Rattle.jr_new_words.specs.Scopes.{rows_of, mapping_of, context_of}
use Rattle.jr_new_words.specs.Ways.{way_of, Finds}
use Rattle.jr_new_words.proofs.Founds.{decl_is, no_decl}
use Rattle.jr_new_words.proofs.OneEach.{one_each}
use Rattle.jr_new_words.proofs.ChosenBy.{found_by}
use Rattle.jr_new_words.proofs.taking.chosen_by_lookup.Goals as goal

pub returns-in-None : goal.returns-in-None
returns-in-None c =
    let s = c.args.scopes.now in
    let rows = rows_of s in
    let o = scope_of (context_of s) in
    let from = way_of c.args.from.now in
    let name = c.args.name.now in
    let ts = c.args.types.now in
    let f = found_of c.in_ok-found.found in
    let are = c.keeps_rows.ensures in
    let each = one_each rows o are (c.lookups_are_exact.ensures.one rows are) from name ts in
    λ d x. no_decl f c.in-None.ensures d (each f (one d) c.in_ok-found.ensures x.1)

pub returns : goal.returns
returns c =
    let s = c.args.scopes.now in
    let rows = rows_of s in
    let o = scope_of (context_of s) in
    let from = way_of c.args.from.now in
    let name = c.args.name.now in
    let ts = c.args.types.now in
    let f = found_of c.in_ok-found.found in
    let are = c.keeps_rows.ensures in
    let each = one_each rows o are (c.lookups_are_exact.ensures.one rows are) from name ts in
    let d = decl_of c.in-Some.declaration.now in
    let finds = subst (Finds rows o from name ts) (decl_is f d c.in-Some.ensures) c.in_ok-found.ensures in
    IfOk-weaker c.chosen_for.result _ _ (λ x h. found_by rows (mapping_of s) (context_of s) c.args.at name from (way_of c.args.to.now) ts c.args.images.now each d finds (option_map choice_of x) h) c.chosen_for.ensures
