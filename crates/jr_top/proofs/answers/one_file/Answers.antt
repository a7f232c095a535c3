use Rattle.jr_top.proofs.OneFile.{one_source}
use Rattle.jr_top.proofs.answers.one_file.Goals as goal

pub returns : goal.returns
returns c = one_source _ _ _ _ _ c.in_ok-files.ensures.items c.push_reserved.ensures.items c.in_ok-name.ensures.ok
