use Rattle.std.proofs.Common.{ap}
use Rattle.jr_names.specs.ReplyView.{outcome_of}
use Rattle.jr_session.proofs.plans.of_outcome.Goals as goal

pub returns-in-Planned : goal.returns-in-Planned
returns-in-Planned c = (c.in-Planned.renaming, ap outcome_of c.in-Planned.is)
