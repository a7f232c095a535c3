use Rattle.std.proofs.Common.{◌∙◌}
use Rattle.jr_expr_types.proofs.StepLaws.{last_get}
use Rattle.jr_expr_types.proofs.types.last.Goals as goal

pub returns : goal.returns
returns g c = c.item_at.ensures ∙ last_get c.args.items.now c.args.end c.if-end-eq0.false
