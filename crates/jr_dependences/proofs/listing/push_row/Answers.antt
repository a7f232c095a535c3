use Rattle.jr_dependences.proofs.listing.push_row.Goals as goal

pub returns : goal.returns
returns c edges paths rows = c.push_seconds.ensures edges (record { paths = paths; flows = c.in_ok-flow.ensures edges rows })
