use Rattle.std.proofs.Common.{◌≡◌, ◌<◌, ◌+◌, ◌^◌, ℕ, map, length, sym, ap, subst, ◌∙◌}
use Rattle.jr_index.specs.Linked.{place_of, AreOwned, AreLinkedFrom}
use Rattle.jr_table.specs.MemberIndex.{member_place}
use Rattle.jr_table.proofs.Walking.{as_long}
use Rattle.jr_table.proofs.member_index.members.Goals as goal

pub of_places-requires-clause-few : goal.of_places-requires-clause-few
of_places-requires-clause-few c =
    let same = sym (as_long place_of c.deref.result.now) ∙ ap length (ap (map place_of) c.deref.ensures.value ∙ c.in_ok-places.ensures) ∙ as_long member_place c.args.entries.now in
    subst (λ n. n < 2 ^ 32) (sym same) c.requires.few

pub of_places-requires-clause-owned : goal.of_places-requires-clause-owned
of_places-requires-clause-owned c =
    let same = ap (map place_of) c.deref.ensures.value ∙ c.in_ok-places.ensures in
    subst (λ ps. AreOwned ps (length c.args.entries.now + 1)) (sym same) c.requires.owned

pub returns : goal.returns
returns c =
    let same = ap (map place_of) c.deref.ensures.value ∙ c.in_ok-places.ensures in
    subst (λ ps. AreLinkedFrom ps (length c.args.entries.now + 1) 0 c.in_ok-members.members) same c.in_ok-members.ensures
