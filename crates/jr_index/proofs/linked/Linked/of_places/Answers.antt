use Rattle.std.proofs.Common.{◌≡◌, ◌<◌, ◌-◌, ℕ, suc, Option, Some, None, map, refl, sym, ap, subst, ◌∙◌, arith}
use Rattle.std.specs.Prelude.{IfSome, option_map}
use Rattle.std.proofs.lemmas.Option.{slice_get-get_or, slice_get-map}
use Rattle.jr_index.specs.Linked.{place_of, AreLinkedFrom}
use Rattle.jr_index.proofs.linked.Linked.of_places.Goals as goal

if_some : (o : Option ℕ) (P : ℕ → Type 0) → ((c : ℕ) → o ≡ Some c → P c) → IfSome o P
if_some None P h = tt
if_some (Some c) P h = h c refl

pub put-requires-clause-owned : goal.put-requires-clause-owned
put-requires-clause-owned c =
    let places = c.args.places.now in
    let at = c.loop-behind.behind - 1 in
    let most = c.loop-behind.auto.behind in
    let more = c.loop-behind-test.true in
    if_some _ _ (λ k is. subst (λ n. k < n) (sym c.loop-behind.invariant.owned)
    (c.requires.owned at k _ (slice_get-map place_of places at ∙ ap (option_map place_of) (slice_get-get_or places at _ (omega (arith, most, more)))) is))

pub loop-behind-preserved : goal.loop-behind-preserved
loop-behind-preserved c =
    let places = c.args.places.now in
    let at = c.loop-behind.behind - 1 in
    let most = c.loop-behind.auto.behind in
    let more = c.loop-behind-test.true in
    let next : c.loop-behind.behind ≡ suc at = omega (arith, more) in
    c.in_ok-put.ensures (map place_of places) c.args.owners (slice_get-map place_of places at ∙ ap (option_map place_of) (slice_get-get_or places at _ (omega (arith, most, more))))
    (subst (λ n. AreLinkedFrom (map place_of places) c.args.owners n c.loop-behind.linked) next c.loop-behind.invariant)
