use Rattle.std.proofs.Common.{ℕ, List, map, sym, subst}
use Rattle.std.specs.Prelude.{Contains, ◌↔◌, IsTrue}
use Rattle.std.proofs.lemmas.Result.{IfOk-weaker}
use Rattle.jr_sync.specs.declared.sites.Site.{Site}
use Rattle.jr_dependences.specs.declared.dependence.Dependence.{Dependence}
use Rattle.jr_dependences.specs.Depends.{DependsIn}
use Rattle.jr_dependences.specs.Numbers.{SameNumber, IsRowOf}
use Rattle.jr_dependences.proofs.Telling.{both_ways}
use Rattle.jr_dependences.proofs.listing.dependences_of.Goals as goal

pub returns-clause-ordered : goal.returns-clause-ordered
returns-clause-ordered g c = c.dependences_between.ensures.ordered

pub returns-clause-exact : goal.returns-clause-exact
returns-clause-exact g c =
    let edges = c.args.graph.now.edges.items in
    let alike = subst (λ (row : List (Site ℕ ℕ)). IsRowOf (λ x y. IsTrue (g.K.PartialEq.eq x y)) (λ x y. IsTrue (g.L.PartialEq.eq x y)) (map (λ s. s.now) c.args.sites.now) row) (sym c.as_slice.ensures.value) c.in_ok-row.ensures.depend in
    IfOk-weaker c.dependences_between.result
    (λ list. (d : Dependence) → (Contains list.items d ↔ DependsIn SameNumber SameNumber c.as_slice.result.now edges d))
    (λ list. (d : Dependence) → (Contains list.items d ↔ DependsIn (λ x y. IsTrue (g.K.PartialEq.eq x y)) (λ x y. IsTrue (g.L.PartialEq.eq x y)) (map (λ s. s.now) c.args.sites.now) edges d))
    (λ list h d. both_ways (h d) (alike edges d)) c.dependences_between.ensures.exact
