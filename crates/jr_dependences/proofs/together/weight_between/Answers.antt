use Rattle.jr_dependences.proofs.together.weight_between.Goals as goal

pub weigh_all-requires : goal.weigh_all-requires
weigh_all-requires c = record { few = c.requires.few; lens = c.requires.lens }

pub returns : goal.returns
returns c = c.weigh_all.ensures c.args.graph.now.edges.items (record { paths = c.in_ok-reach.ensures; rows = c.in_ok-rows.ensures })
