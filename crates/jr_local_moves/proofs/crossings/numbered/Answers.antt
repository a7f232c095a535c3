use Rattle.jr_local_moves.proofs.crossings.numbered.Goals as goal

pub returns-in-Ok-clause-sites : goal.returns-in-Ok-clause-sites
returns-in-Ok-clause-sites c = c.as_slice-sites.ensures.value
