use Rattle.std.proofs.Common.{string_bytes}
use Rattle.jr_top.proofs.RenameEnds.{put_answered, put_nothing}
use Rattle.jr_top.proofs.renames.rename_in_source.Goals as goal

pub returns-in-Ok-clause-answered : goal.returns-in-Ok-clause-answered
returns-in-Ok-clause-answered g c = put_answered _ _ _ _ c.args.file.now c.args.source c.args.at c.args.name.now c.in-Ok.answer.refused (string_bytes c.in-Ok.answer.output) c.in-Ok.ensures c.put.result c.put.ensures

pub returns-in-Ok-clause-nothing_put : goal.returns-in-Ok-clause-nothing_put
returns-in-Ok-clause-nothing_put g c = put_nothing _ _ _ _ c.in-Ok.answer.refused (string_bytes c.in-Ok.answer.output) c.put.result _ c.put.ensures
