use Rattle.std.proofs.Common.{◌<◌, ◌+◌, ◌^◌, map, length, refl, sym, ap, subst, ◌∙◌}
use Rattle.jr_index.specs.Linked.{place_of, AreOwned, AreLinkedFrom}
use Rattle.jr_table.proofs.Walking.{as_long}
use Rattle.jr_images.proofs.MethodWalks.{place_in, methods_owned}
use Rattle.jr_images.proofs.method_index.MethodIndex.of_decls.Goals as goal

pub of_places-requires-clause-few : goal.of_places-requires-clause-few
of_places-requires-clause-few c =
    let same = sym (as_long place_of c.deref.result.now) ∙ ap length (ap (map place_of) c.deref.ensures.value ∙ c.in_ok-places.ensures) ∙ as_long (place_in c.in_ok-outers.outers _) c.args.decls.now in
    subst (λ n. n < 2 ^ 32) (sym same) c.requires

pub of_places-requires-clause-owned : goal.of_places-requires-clause-owned
of_places-requires-clause-owned c =
    let same = ap (map place_of) c.deref.ensures.value ∙ c.in_ok-places.ensures in
    subst (λ ps. AreOwned ps (length c.args.decls.now + 1)) (sym same) (methods_owned c.args.decls.now c.in_ok-outers.outers c.in_ok-outers.ensures (length c.args.decls.now) refl)

pub returns : goal.returns
returns c =
    let same = ap (map place_of) c.deref.ensures.value ∙ c.in_ok-places.ensures in record {
      outers = c.in_ok-outers.ensures;
      classes = subst (λ ps. AreLinkedFrom ps (length c.args.decls.now + 1) 0 c.in_ok-classes.classes) same c.in_ok-classes.ensures;
    }
