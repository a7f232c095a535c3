use Rattle.jr_dependences.proofs.together.weigh_local.Goals as goal

pub returns : goal.returns
returns c edges known = c.weigh_pairs.ensures edges known (c.in_ok-flow.ensures edges known.rows)
