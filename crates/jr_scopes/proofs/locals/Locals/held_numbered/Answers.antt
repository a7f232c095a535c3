use Rattle.std.proofs.Common.{Some, None, ◌∙◌}
use Rattle.jr_scopes.proofs.Looking.{held_is}
use Rattle.jr_scopes.proofs.locals.Locals.held_numbered.Goals as goal

pub returns-in-None : goal.returns-in-None
returns-in-None c = held_is c.args.self.now.known.items c.args.number None c.in-None.ensures

pub returns-in-Some : goal.returns-in-Some
returns-in-Some c = c.held_at.ensures ∙ held_is c.args.self.now.known.items c.args.number (Some c.in-Some.place) c.in-Some.ensures
