use Rattle.std.proofs.Common.{[], ◌∷◌, ◌++◌, map, sym, ap, ◌∙◌}
use Rattle.std.specs.Prelude.{option_map}
use Rattle.jr_lookup.specs.LocalView.{local_of}
use Rattle.jr_scopes.specs.Helds.{key_of}
use Rattle.jr_new_words.specs.Mappings.{member_to}
use Rattle.jr_new_words.specs.Scopes.{mapping_of, member_of}
use Rattle.jr_new_words.specs.Near.{if_found}
use Rattle.jr_new_words.proofs.Growing.{map_push}
use Rattle.jr_new_words.proofs.Kept.{image_last, end}
use Rattle.jr_new_words.proofs.nearby.put_named.Goals as goal

pub returns-in-None : goal.returns-in-None
returns-in-None c =
    let s = c.args.scopes.now in
    let name = c.args.name.now in
    let last = image_last s c.requires name ∙ ap (option_map (key_of (member_to (mapping_of s) (member_of s)))) (sym c.in-None.ensures) in
    sym (ap (λ o. map local_of c.args.locals.now.items ++ if_found name o) last ∙ end (map local_of c.args.locals.now.items))

pub returns-in_ok-push_local-in-Some : goal.returns-in_ok-push_local-in-Some
returns-in_ok-push_local-in-Some c =
    let s = c.args.scopes.now in
    let name = c.args.name.now in
    let last = image_last s c.requires name ∙ ap (option_map (key_of (member_to (mapping_of s) (member_of s)))) (sym c.in-Some.ensures) in
    let member = c.in_ok-member-in-Some.ensures ∙ c.requires.image in
    ap (map local_of) c.in_ok-push_local-in-Some.ensures
    ∙ map_push local_of c.args.locals.now.items _
    ∙ (λ i. map local_of c.args.locals.now.items ++ record { name = (c.in_ok-name-in-Some.ensures ∙ c.as_str.ensures) i; key = key_of (member i) c.in-Some.number } ∷ [])
    ∙ sym (ap (λ o. map local_of c.args.locals.now.items ++ if_found name o) last)
