use Rattle.std.proofs.Common.{List, sym, ap, subst, ◌∙◌, inl}
use Rattle.std.specs.Prelude.{option_map}
use Rattle.std.proofs.lemmas.Result.{IfOk-weaker}
use Rattle.jr_table.specs.Rows.{Row}
use Rattle.jr_table.specs.Decls.{local_decl}
use Rattle.jr_table.specs.Found.{one}
use Rattle.jr_table.specs.Lookup.{FindsLeft, shown}
use Rattle.jr_table.specs.LookupLaws.{KeysAreFound}
use Rattle.jr_scopes.specs.Helds.{key_of}
use Rattle.jr_new_words.specs.Mappings.{member_to}
use Rattle.jr_new_words.specs.Scopes.{mapping_of, member_of, rows_to, place_to}
use Rattle.jr_new_words.specs.Staying.{without_locals}
use Rattle.jr_new_words.proofs.Kept.{image_last, moved}
use Rattle.jr_new_words.proofs.SimpleNames.{finds_local, left_bare}
use Rattle.jr_new_words.proofs.class_words.first_named.Goals as goal

pub returns-in-Some : goal.returns-in-Some
returns-in-Some c =
    let s = c.args.scopes.now in
    let R = rows_to s in
    let S = place_to s in
    let name = c.args.name.now in
    let keys = subst (λ (rows : List Row). KeysAreFound rows) c.requires.rows (c.lookups_are_exact.ensures.keys s.programs.after.now c.keeps_rows.ensures) in
    let to = key_of (member_to (mapping_of s) (member_of s)) in
    let last = image_last s c.requires name ∙ ap (option_map to) (sym c.in-Some.ensures) in
    let finds = finds_local R keys S name (to c.in-Some.number) last in
    IfOk-weaker c.number_stands.result _ _ (λ w h. (one (local_decl (to c.in-Some.number)), inl (finds, (λ e. cc)), h)) c.number_stands.ensures

pub returns-in-None : goal.returns-in-None
returns-in-None c =
    let s = c.args.scopes.now in
    let R = rows_to s in
    let S = place_to s in
    let name = c.args.name.now in
    let a = c.first_answer.result in
    let keys = subst (λ (rows : List Row). KeysAreFound rows) c.requires.rows (c.lookups_are_exact.ensures.keys s.programs.after.now c.keeps_rows.ensures) in
    let last = image_last s c.requires name ∙ ap (option_map (key_of (member_to (mapping_of s) (member_of s)))) (sym c.in-None.ensures) in
    let here = moved s c.requires (λ rows x. FindsLeft rows (without_locals x) name (shown rows a)) c.first_answer.ensures in
    let finds = left_bare R keys S name last (shown R a) here in
    IfOk-weaker c.answer_stands.result _ _ (λ w h. (shown R a, finds, h)) c.answer_stands.ensures
