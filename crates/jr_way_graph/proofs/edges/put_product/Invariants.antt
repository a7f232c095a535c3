use Rattle.std.proofs.Common.{◌≡◌, ◌++◌, take}
use Rattle.jr_cover.specs.Flows.{product}
use Rattle.jr_way_graph.proofs.edges.put_product.Given as goal

abbrev pub invariant-loop-number : goal.invariant-loop-number
invariant-loop-number l = l.edges.items ≡ l.fn.edges.items ++ product (take l.number l.from) l.to
