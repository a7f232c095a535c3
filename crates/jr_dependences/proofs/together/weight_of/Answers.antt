use Rattle.std.proofs.Common.{ℕ, List, map, length, sym, ap, subst, ◌∙◌}
use Rattle.std.specs.Prelude.{IsTrue}
use Rattle.std.proofs.lemmas.Result.{IfOk-weaker}
use Rattle.jr_sync.specs.declared.sites.Site.{Site}
use Rattle.jr_dependences.specs.Depends.{DependsIn}
use Rattle.jr_dependences.specs.Numbers.{SameNumber, IsRowOf}
use Rattle.jr_dependences.proofs.TogetherLaws.{weigh_as}
use Rattle.jr_dependences.proofs.together.weight_of.Goals as goal

pub weight_between-requires-clause-lens : goal.weight_between-requires-clause-lens
weight_between-requires-clause-lens g c = c.requires.lens ∙ sym (ap length c.as_slice.ensures.value ∙ c.in_ok-row.ensures.count)

pub returns : goal.returns
returns g c =
    let edges = c.args.graph.now.edges.items in
    let alike = subst (λ (row : List (Site ℕ ℕ)). IsRowOf (λ x y. IsTrue (g.K.PartialEq.eq x y)) (λ x y. IsTrue (g.L.PartialEq.eq x y)) (map (λ s. s.now) c.args.sites.now) row) (sym c.as_slice.ensures.value) c.in_ok-row.ensures.depend in
    IfOk-weaker c.weight_between.result _ _
    (λ n h. weigh_as (DependsIn SameNumber SameNumber c.as_slice.result.now edges) (DependsIn (λ x y. IsTrue (g.K.PartialEq.eq x y)) (λ x y. IsTrue (g.L.PartialEq.eq x y)) (map (λ s. s.now) c.args.sites.now) edges)
    c.args.each c.args.lens.now n (alike edges) h) c.weight_between.ensures
