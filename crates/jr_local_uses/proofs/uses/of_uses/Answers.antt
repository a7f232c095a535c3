use Rattle.std.proofs.Common.{ap, map, ◌∙◌}
use Rattle.jr_local_search.specs.NamingView.{naming_of}
use Rattle.jr_local_asked.specs.AskedView.{asked_of}
use Rattle.jr_local_uses.specs.Inlines.{answer}
use Rattle.jr_local_uses.proofs.uses.of_uses.Goals as goal

pub returns-in-Ok : goal.returns-in-Ok
returns-in-Ok c = c.answer.ensures ∙ ap (answer (asked_of c.args.asked) (map naming_of c.args.uses.namings.items)) c.in-Ok.ensures
