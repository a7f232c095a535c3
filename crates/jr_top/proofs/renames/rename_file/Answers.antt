use Rattle.jr_top.proofs.Everywhere.{at_nothing_written}
use Rattle.jr_top.proofs.RenameEnds.{answered_comes, unread_comes}
use Rattle.std.proofs.Common.{refl}
use Rattle.jr_top.proofs.renames.rename_file.Goals as goal

pub returns-in-Err-clause-comes : goal.returns-in-Err-clause-comes
returns-in-Err-clause-comes g c = unread_comes c.args.file.now c.args.at c.args.name.now c.in-Err.status (c.in-Err.ensures.err c.args.at c.args.name.now)

pub returns-in-Err-clause-nothing_put : goal.returns-in-Err-clause-nothing_put
returns-in-Err-clause-nothing_put g c = at_nothing_written c.in-Err.status _ refl

pub returns-in-Ok-clause-comes : goal.returns-in-Ok-clause-comes
returns-in-Ok-clause-comes g c = answered_comes c.args.file.now c.args.at c.args.name.now _ _ _ _ c.in-Ok.source c.in-Ok.ensures.ok c.in-Ok.ensures.served c.rename_in_source.result c.rename_in_source.ensures.answered

pub returns-in-Ok-clause-nothing_put : goal.returns-in-Ok-clause-nothing_put
returns-in-Ok-clause-nothing_put g c = c.rename_in_source.ensures.nothing_put
