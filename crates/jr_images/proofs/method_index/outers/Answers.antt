use Rattle.std.proofs.Common.{◌<◌, ◌^◌, map, length, sym, ap, subst, ◌∙◌}
use Rattle.jr_index.specs.Linked.{place_of, AreOwned, AreLinkedFrom}
use Rattle.jr_table.proofs.Walking.{as_long}
use Rattle.jr_images.proofs.MethodWalks.{outer_of, outers_owned}
use Rattle.jr_images.proofs.method_index.outers.Goals as goal

pub of_places-requires-clause-few : goal.of_places-requires-clause-few
of_places-requires-clause-few c =
    let same = sym (as_long place_of c.deref.result.now) ∙ ap length (ap (map place_of) c.deref.ensures.value ∙ c.in_ok-places.ensures) ∙ as_long outer_of c.args.decls.now in
    subst (λ n. n < 2 ^ 32) (sym same) c.requires

pub of_places-requires-clause-owned : goal.of_places-requires-clause-owned
of_places-requires-clause-owned c =
    let same = ap (map place_of) c.deref.ensures.value ∙ c.in_ok-places.ensures in
    subst (λ ps. AreOwned ps 1) (sym same) (outers_owned c.args.decls.now)

pub returns : goal.returns
returns c =
    let same = ap (map place_of) c.deref.ensures.value ∙ c.in_ok-places.ensures in
    subst (λ ps. AreLinkedFrom ps 1 0 c.in_ok-outers.outers) same c.in_ok-outers.ensures
