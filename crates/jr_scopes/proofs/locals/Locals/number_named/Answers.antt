use Rattle.std.proofs.Common.{Some, None, ◌∙◌}
use Rattle.jr_scopes.proofs.Looking.{number_is}
use Rattle.jr_scopes.proofs.locals.Locals.number_named.Goals as goal

pub returns-in-None : goal.returns-in-None
returns-in-None c = number_is c.args.self.now.known.items c.args.name.now None c.in-None.ensures

pub returns-in-Some : goal.returns-in-Some
returns-in-Some c = c.number_at.ensures ∙ number_is c.args.self.now.known.items c.args.name.now (Some c.in-Some.place) c.in-Some.ensures
