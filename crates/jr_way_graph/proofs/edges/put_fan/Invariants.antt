use Rattle.std.proofs.Common.{◌≡◌, ◌++◌, take}
use Rattle.jr_cover.specs.Flows.{fan}
use Rattle.jr_way_graph.proofs.edges.put_fan.Given as goal

abbrev pub invariant-loop-number : goal.invariant-loop-number
invariant-loop-number l = l.edges.items ≡ l.fn.edges.items ++ fan l.from (take l.number l.to)
