use Rattle.std.proofs.Common.{sym, ◌∙◌}
use Rattle.jr_bind_parts.proofs.Heading.{top_none, top_some}
use Rattle.jr_bind_parts.proofs.heads.top.Goals as goal

pub returns-in-None : goal.returns-in-None
returns-in-None c = top_none c.args.table.now c.args.name.now (sym c.top_number.ensures ∙ c.in-None.is)

pub returns-in-Some : goal.returns-in-Some
returns-in-Some c = top_some c.args.table.now c.args.name.now c.in-Some.number (sym c.top_number.ensures ∙ c.in-Some.is)
