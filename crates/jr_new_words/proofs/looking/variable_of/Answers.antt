use Rattle.std.proofs.Common.{sym, ap, subst, ◌∙◌}
use Rattle.std.specs.Prelude.{option_map}
use Rattle.std.proofs.lemmas.Result.{IfOk-weaker}
use Rattle.jr_table.specs.FoundView.{found_of}
use Rattle.jr_table.specs.Lookup.{FindsVariable}
use Rattle.jr_table.specs.Context.{scope_of}
use Rattle.jr_scopes.specs.Helds.{key_of}
use Rattle.jr_new_words.specs.Scopes.{rows_of, context_of, member_of}
use Rattle.jr_new_words.proofs.Kept.{own_last, moved_old}
use Rattle.jr_new_words.proofs.SimpleNames.{finds_local, finds_bare}
use Rattle.jr_new_words.proofs.looking.variable_of.Goals as goal

pub returns-in-Some : goal.returns-in-Some
returns-in-Some c =
    let s = c.args.scopes.now in
    let R = rows_of s in
    let S = scope_of (context_of s) in
    let name = c.args.name.now in
    let keys = c.lookups_are_exact.ensures.keys R c.keeps_rows.ensures in
    let k = key_of (member_of s) c.in-Some.number in
    let last = own_last s name ∙ ap (option_map (key_of (member_of s))) (sym c.in-Some.ensures) in
    let finds = finds_local R keys S name k last in
    IfOk-weaker c.local_found.result _ _ (λ f is. subst (FindsVariable R S name) (sym is) finds) c.local_found.ensures

pub returns-in-None : goal.returns-in-None
returns-in-None c =
    let s = c.args.scopes.now in
    let R = rows_of s in
    let S = scope_of (context_of s) in
    let name = c.args.name.now in
    let keys = c.lookups_are_exact.ensures.keys R c.keeps_rows.ensures in
    let last = own_last s name ∙ ap (option_map (key_of (member_of s))) (sym c.in-None.ensures) in
    IfOk-weaker c.variable.result _ _ (λ f h. finds_bare R keys S name last (found_of f) (moved_old s c.requires (λ x. FindsVariable R x name (found_of f)) h)) c.variable.ensures
