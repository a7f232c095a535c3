use Rattle.std.proofs.Common.{List, ap, ◌∙◌, zero-add}
use Rattle.jr_cover.specs.Ways.{size}
use Rattle.jr_way_graph.specs.declared.shapes.Shape.{Shape}
use Rattle.jr_way_graph.specs.Pieces.{Machine, run, none}
use Rattle.jr_way_graph.proofs.Running.{flows_run}
use Rattle.jr_way_graph.proofs.Exact.{edges_exact, edges_below}
use Rattle.jr_way_graph.proofs.machine.graph.Goals as goal

pub returns-clause-count : goal.returns-clause-count
returns-clause-count t c w h =
    ap (λ (m : Machine). m.count) (c.in_ok-machine.ensures ∙ ap (λ (l : List Shape). run l none) h ∙ flows_run w) ∙ zero-add (size w)

pub returns-clause-edges : goal.returns-clause-edges
returns-clause-edges t c w h =
    edges_exact w c.in_ok-machine.machine.edges.items (ap (λ (m : Machine). m.edges) (c.in_ok-machine.ensures ∙ ap (λ (l : List Shape). run l none) h ∙ flows_run w))

pub returns-clause-below : goal.returns-clause-below
returns-clause-below t c w h =
    let all = c.in_ok-machine.ensures ∙ ap (λ (l : List Shape). run l none) h ∙ flows_run w in
    edges_below w c.in_ok-machine.machine.edges.items (ap (λ (m : Machine). m.edges) all) c.in_ok-machine.machine.count (ap (λ (m : Machine). m.count) all ∙ zero-add (size w))
