use Rattle.std.proofs.Common.{ap}
use Rattle.jr_local_uses.specs.Inlines.{refused}
use Rattle.jr_local_uses.proofs.uses.no_local.Goals as goal

pub returns : goal.returns
returns c = ap refused c.in_ok-refusal.ensures
