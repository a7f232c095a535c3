use Rattle.std.proofs.Common.{ap}
use Rattle.std.specs.Prelude.{not}
use Rattle.jr_bind_parts.proofs.Heading.{lacking_is}
use Rattle.jr_bind_parts.proofs.heads.lacks_super_ctor.Goals as goal

pub returns : goal.returns
returns c = lacking_is c.args.table.now c.args.class c.new-args.result c.in_ok-answer.answer _ c.new-args.ensures c.in_ok-answer.ensures (ap not c.is_one.ensures)
