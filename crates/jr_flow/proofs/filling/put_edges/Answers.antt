use Rattle.std.proofs.Common.{List, ℕ, take, get_or, sym, subst}
use Rattle.std.proofs.lemmas.List.{take_all, take_more}
use Rattle.std.proofs.lemmas.List.Elements.{Contains-get_or}
use Rattle.jr_flow.specs.Holding.{HoldsEdges}
use Rattle.jr_flow.proofs.filling.put_edges.Goals as goal

pub put_edge-requires-clause-from : goal.put_edge-requires-clause-from
put_edge-requires-clause-from c =
    let edge = get_or c.args.edges.now c.loop-edge.edge-index (0, 0) in
    (c.requires.inside edge.0 edge.1 (Contains-get_or c.args.edges.now c.loop-edge.edge-index (0, 0) c.loop-edge-test.true)).0

pub put_edge-requires-clause-to : goal.put_edge-requires-clause-to
put_edge-requires-clause-to c =
    let edge = get_or c.args.edges.now c.loop-edge.edge-index (0, 0) in
    (c.requires.inside edge.0 edge.1 (Contains-get_or c.args.edges.now c.loop-edge.edge-index (0, 0) c.loop-edge-test.true)).1

pub loop-edge-preserved : goal.loop-edge-preserved
loop-edge-preserved c =
    let i = c.loop-edge.edge-index in
    let edges = c.args.edges.now in
    subst (λ (es : List (ℕ × ℕ)). HoldsEdges c.args.width c.args.stops.now es c.put_edge.new.rows) (sym (take_more edges i (0, 0) c.loop-edge-test.true))
    (c.put_edge.ensures (take i edges) c.loop-edge.invariant)

pub returns : goal.returns
returns c =
    subst (λ (es : List (ℕ × ℕ)). HoldsEdges c.args.width c.args.stops.now es c.loop-edge.rows)
    (take_all c.loop-edge.edge-index c.args.edges.now c.loop-edge-test.false) c.loop-edge.invariant
