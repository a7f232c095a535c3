use Rattle.std.proofs.Common.{◌≡◌, ◌+◌, ◌*◌, ℕ, List, [], length, sym, subst, ◌∙◌, arith}
use Rattle.std.proofs.lemmas.List.{with_items_is}
use Rattle.std.specs.Vec.{with_items}
use Rattle.jr_flow.specs.Edges.{AreBelow}
use Rattle.jr_flow.specs.Rows.{width_of}
use Rattle.jr_flow.specs.Holding.{HoldsNumbers, HoldsEdges}
use Rattle.jr_flow.proofs.Filled.{edges_none, edge_rows}
use Rattle.jr_flow.proofs.used.rows_of_edges.Goals as goal

pub put_edges-requires-clause-inside : goal.put_edges-requires-clause-inside
put_edges-requires-clause-inside c a b at =
    edge_rows c.deref-2.result.now c.args.graph.now.size c.width_of-width.result
    (subst (λ (es : List (ℕ × ℕ)). AreBelow c.args.graph.now.size es) (sym c.deref-2.ensures.value) c.args.graph.now.below) c.width_of-width.ensures.width a b at

pub put_edges-requires-clause-empty : goal.put_edges-requires-clause-empty
put_edges-requires-clause-empty c =
    edges_none c.width_of-width.result c.deref.result.now ((64 * c.width_of-width.result + 1) * c.width_of-width.result) c.deref_mut.result.now
    (c.deref_mut.ensures.value ∙ c.in_ok-words.ensures.items_if_clones_equal (λ y h. h))

pub returns : goal.returns
returns c =
    let width = c.width_of-width.result in
    let edges = c.args.graph.now.edges.items in
    let none = c.in_ok-none.none.items in
    let new = c.put_edges.new.rows in
    let size : length new ≡ c.in_ok-words.words.len = omega arith in
    let held = subst (λ (ws : List ℕ). HoldsEdges width ws edges new) c.deref.ensures.value
    (subst (λ (es : List (ℕ × ℕ)). HoldsEdges width c.deref.result.now es new) c.deref-2.ensures.value c.put_edges.ensures) in
    record {
      below = c.args.graph.now.below;
      none = none;
      empty = subst (λ (w : ℕ). HoldsNumbers w [] none) c.width_of-width.ensures.width c.in_ok-none.ensures.holds;
      holds = subst (λ (w : ℕ). HoldsEdges w none edges (with_items c.in_ok-words.words new).items) c.width_of-width.ensures.width
          (subst (λ (ws : List ℕ). HoldsEdges width none edges ws) (sym (with_items_is c.in_ok-words.words new size)) held);
    }
