use Rattle.jr_way_graph.specs.Pieces as pure
use Rattle.jr_way_graph.proofs.Growing.{join_goes}
use Rattle.jr_way_graph.proofs.machine.Machine.row.Goals as goal

pub returns : goal.returns
returns c =
    join_goes pure.row_piece pure.row_edges c.args.self.now.count c.args.self.now.pieces.items c.pop.new.self.items c.pop-2.new.self.items c.push.new.self.items c.args.self.now.edges.items c.row_edges.new.edges.items
    c.in-Some-Some.first c.in-Some-Some.second c.in_ok-piece.piece c.in-Some-Some.ensures.items c.in-Some-Some.ensures'.items c.in_ok-push.ensures.items c.in_ok-piece.ensures c.in_ok-row_edges.ensures
