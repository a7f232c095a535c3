use Rattle.std.proofs.Common.{List, sym, ap, subst, ◌∙◌}
use Rattle.std.specs.Prelude.{option_map}
use Rattle.std.proofs.lemmas.Result.{IfOk-weaker}
use Rattle.jr_table.specs.Rows.{Row}
use Rattle.jr_table.specs.Found.{one}
use Rattle.jr_table.specs.Decls.{local_decl}
use Rattle.jr_table.specs.FoundView.{found_of}
use Rattle.jr_table.specs.Lookup.{FindsVariable}
use Rattle.jr_table.specs.LookupLaws.{KeysAreFound}
use Rattle.jr_scopes.specs.Helds.{key_of}
use Rattle.jr_new_words.specs.Mappings.{member_to}
use Rattle.jr_new_words.specs.Scopes.{mapping_of, member_of, rows_to, place_to}
use Rattle.jr_new_words.proofs.Kept.{image_last, moved}
use Rattle.jr_new_words.proofs.SimpleNames.{finds_local, finds_bare}
use Rattle.jr_new_words.proofs.looking.variable_to.Goals as goal

pub returns-in-Some : goal.returns-in-Some
returns-in-Some c =
    let s = c.args.scopes.now in
    let R = rows_to s in
    let S = place_to s in
    let name = c.args.name.now in
    let keys = subst (λ (rows : List Row). KeysAreFound rows) c.requires.rows (c.lookups_are_exact.ensures.keys s.programs.after.now c.keeps_rows.ensures) in
    let to = key_of (member_to (mapping_of s) (member_of s)) in
    let last = image_last s c.requires name ∙ ap (option_map to) (sym c.in-Some.ensures) in
    let finds = finds_local R keys S name (to c.in-Some.number) last in
    IfOk-weaker c.local_found.result _ _ (λ f is. subst (FindsVariable R S name) (ap (λ m. one (local_decl (key_of m c.in-Some.number))) (sym c.requires.image) ∙ sym is) finds) c.local_found.ensures

pub returns-in-None : goal.returns-in-None
returns-in-None c =
    let s = c.args.scopes.now in
    let R = rows_to s in
    let S = place_to s in
    let name = c.args.name.now in
    let keys = subst (λ (rows : List Row). KeysAreFound rows) c.requires.rows (c.lookups_are_exact.ensures.keys s.programs.after.now c.keeps_rows.ensures) in
    let last = image_last s c.requires name ∙ ap (option_map (key_of (member_to (mapping_of s) (member_of s)))) (sym c.in-None.ensures) in
    IfOk-weaker c.variable.result _ _ (λ f h. finds_bare R keys S name last (found_of f) (moved s c.requires (λ rows x. FindsVariable rows x name (found_of f)) h)) c.variable.ensures
