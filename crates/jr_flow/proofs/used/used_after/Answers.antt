use Rattle.std.specs.Prelude.{Contains}
use Rattle.jr_flow.specs.Edges.{EdgeOf}
use Rattle.jr_flow.specs.Paths.{PathBetween}
use Rattle.jr_flow.specs.Nodes.{IsReached}
use Rattle.jr_flow.proofs.Lesser.{least_alike}
use Rattle.jr_flow.proofs.used.used_after.Goals as goal

pub returns : goal.returns
returns c =
    least_alike (IsReached c.in_ok-reached.reached) (PathBetween (EdgeOf c.args.graph.now.edges.items) (Contains c.args.stops.now) c.args.from)
    c.in_ok-reached.ensures c.args.reads.now c.least_read.result c.least_read.ensures
