use Rattle.std.proofs.Common.{◌<◌, ◌+◌, List, [], sym, subst, arith}
use Rattle.std.proofs.lemmas.Option.{slice_get_within}
use Rattle.jr_dependences.specs.declared.dependence.Dependence.{Dependence}
use Rattle.jr_dependences.specs.Depends.{DependsIn}
use Rattle.jr_dependences.specs.Listed.{IsOn, Adds}
use Rattle.jr_dependences.specs.Numbers.{SameNumber}
use Rattle.jr_dependences.proofs.Adding.{adds_none, adds_then, listed_alone}
use Rattle.jr_dependences.proofs.Asking.{on_before, on_more}
use Rattle.jr_dependences.proofs.listing.dependences_between.Goals as goal

pub loop-first-init : goal.loop-first-init
loop-first-init c =
    let H = DependsIn SameNumber SameNumber c.args.sites.now c.args.graph.now.edges.items in
    subst (λ (l : List Dependence). Adds (λ d. d.first < 0) H [] l) (sym c.new-list.ensures.items) (adds_none H (λ d. d.first < 0) [] (λ x q p. omega arith))

pub loop-first-preserved : goal.loop-first-preserved
loop-first-preserved c =
    let first = c.loop-first.first in
    adds_then (DependsIn SameNumber SameNumber c.args.sites.now c.args.graph.now.edges.items) (λ d. d.first < first) (IsOn first) (λ d. d.first < first + 1) [] c.loop-first.list.items c.push_row.new.list.items c.loop-first.invariant
    (c.in_ok-push_row.ensures c.args.graph.now.edges.items c.in_ok-reach.ensures c.in_ok-rows.ensures) (on_before first) (λ x h. on_more first x)

pub returns-clause-ordered : goal.returns-clause-ordered
returns-clause-ordered c =
    (listed_alone (DependsIn SameNumber SameNumber c.args.sites.now c.args.graph.now.edges.items) (λ d. d.first < c.loop-first.first) c.loop-first.list.items c.loop-first.invariant).ordered

pub returns-clause-exact : goal.returns-clause-exact
returns-clause-exact c d =
    let listed = listed_alone (DependsIn SameNumber SameNumber c.args.sites.now c.args.graph.now.edges.items) (λ e. e.first < c.loop-first.first) c.loop-first.list.items c.loop-first.invariant in
    let le = c.loop-first-test.false in
    (λ at. ((listed.exact d).0 at).1, λ h. (listed.exact d).1 (omega (arith, le, slice_get_within c.args.sites.now d.first h.0 h.2), h))
