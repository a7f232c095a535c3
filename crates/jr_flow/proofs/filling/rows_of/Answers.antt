use Rattle.std.proofs.Common.{◌*◌, List, ℕ, sym, subst, ◌∙◌}
use Rattle.jr_flow.specs.Edges.{AreBelow}
use Rattle.jr_flow.proofs.Filled.{edges_none, edge_rows}
use Rattle.jr_flow.proofs.filling.rows_of.Goals as goal

pub put_edges-requires-clause-inside : goal.put_edges-requires-clause-inside
put_edges-requires-clause-inside c a b at =
    edge_rows c.deref.result.now c.args.graph.now.size c.args.width
    (subst (λ (es : List (ℕ × ℕ)). AreBelow c.args.graph.now.size es) (sym c.deref.ensures.value) c.args.graph.now.below) c.requires.width a b at

pub put_edges-requires-clause-empty : goal.put_edges-requires-clause-empty
put_edges-requires-clause-empty c =
    edges_none c.args.width c.args.stops.now (64 * c.args.width * c.args.width) c.deref_mut.result.now (c.deref_mut.ensures.value ∙ c.in_ok-rows.ensures.items_if_clones_equal (λ y h. h))
