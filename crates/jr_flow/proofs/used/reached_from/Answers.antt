use Rattle.jr_flow.proofs.used.reached_from.Goals as goal

pub returns : goal.returns
returns c = c.reached_in.ensures c.args.graph.now.edges.items c.in_ok-rows.ensures
