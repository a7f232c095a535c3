use Rattle.std.proofs.Common.{refl}
use Rattle.jr_way_graph.proofs.Growing.{push_goes}
use Rattle.jr_way_graph.proofs.machine.Machine.push.Goals as goal

pub returns : goal.returns
returns c =
    push_goes c.args.self.now.count c.args.more _ c.args.self.now.edges.items c.args.self.now.pieces.items c.push.new.self.items c.args.piece c.in_ok-push.ensures.items refl
