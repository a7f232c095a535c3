use Rattle.std.proofs.Common.{◌≡◌, ◌++◌, map, ap, ◌∙◌}
use Rattle.jr_table.specs.TypeView.{class_key_of}
use Rattle.jr_table.specs.Scope.{last_named}
use Rattle.jr_lookup.specs.LocalView.{local_of}
use Rattle.jr_new_words.specs.Scopes.{context_of, place_to}
use Rattle.jr_new_words.specs.Near.{if_found, if_maybe_found}
use Rattle.jr_new_words.proofs.Kept.{three, first_found, name_found, outer_found}
use Rattle.jr_new_words.proofs.nearby.near.Goals as goal

pub returns : goal.returns
unfolding context_of
returns c =
    let kept = c.requires in
    let s = c.args.scopes.now in
    let k = class_key_of c.args.class.now in
    let first = c.args.first.now in
    let ls = (place_to s).locals in
    let all : map local_of c.put_maybe_named.new.locals.items ≡ three ls first k.name k.outer =
    c.in_ok-put_maybe_named.ensures
    ∙ ap (λ xs. xs ++ if_maybe_found k.outer ls) (c.in_ok-put_named-2.ensures ∙ ap (λ xs. xs ++ if_found k.name (last_named k.name ls)) (c.in_ok-put_named.ensures ∙ ap (λ xs. map local_of xs ++ if_found first (last_named first ls)) c.new-locals.ensures.items)) in
    let are = c.from_vec.ensures ∙ all in
    record {
      class = c.in_ok-copy.ensures ∙ kept.image_class;
      is_static = kept.image_static;
      of_first = ap (last_named first) are ∙ first_found ls first k.name k.outer;
      of_name = ap (last_named k.name) are ∙ name_found ls first k.name k.outer;
      of_outer = λ o is. ap (last_named o) are ∙ outer_found ls first k.name k.outer o is;
    }
