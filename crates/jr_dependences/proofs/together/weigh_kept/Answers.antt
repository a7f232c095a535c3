use Rattle.std.proofs.Common.{List, ℕ, length, sym, ap, subst, ◌∙◌}
use Rattle.jr_dependences.specs.Summed.{AreSumsOn}
use Rattle.jr_dependences.proofs.SumLaws.{serve_too, some_holds}
use Rattle.jr_dependences.proofs.together.weigh_kept.Goals as goal

pub weigh_by-requires-clause-sums : goal.weigh_by-requires-clause-sums
weigh_by-requires-clause-sums c =
    let there = c.requires.kept c.in-Some.one.now (some_holds _ _ _ c.in-Some.is c.find.ensures.there) in
    ap length c.as_slice.ensures.value ∙ there.are.count

pub returns-in_ok-total-in-Some : goal.returns-in_ok-total-in-Some
returns-in_ok-total-in-Some c edges known =
    let of = c.args.of.now in
    let one = c.in-Some.one.now in
    let there = c.requires.kept one (some_holds _ _ _ c.in-Some.is c.find.ensures.there) in
    let each = some_holds _ _ _ c.in-Some.is c.find.ensures.each in
    let site = some_holds _ _ _ c.in-Some.is c.find.ensures.site in
    let these = serve_too of.sites.now of.lens.now one.sums.items one.first c.args.first one.each c.requires.first site there in
    c.in_ok-total-in-Some.ensures edges c.args.each known
    (subst (λ (l : List ℕ). AreSumsOn of.sites.now c.args.first c.args.each of.lens.now l) (sym c.as_slice.ensures.value)
    (subst (λ n. AreSumsOn of.sites.now c.args.first n of.lens.now one.sums.items) each these))
