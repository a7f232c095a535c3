use Rattle.std.proofs.lemmas.Result.{IfOk-weaker}
use Rattle.jr_bind_parts.proofs.Declaring.{puts_if}
use Rattle.jr_bind_parts.proofs.declared.put_declared.Goals as goal

pub returns : goal.returns
returns c = IfOk-weaker c.put_finding.result _ _ (λ u h. puts_if c.args.table.now c.args.at c.args.answer c.is_told.result c.args.log.now.items c.put_finding.new.log.items c.is_told.ensures h) c.put_finding.ensures
