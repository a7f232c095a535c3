use Rattle.std.proofs.Common.{sym, ◌∙◌}
use Rattle.jr_scopes.specs.Numbers.{placed}
use Rattle.jr_scopes.specs.Tracked.{number_in, same_number}
use Rattle.jr_scopes.proofs.Tracking.{none_found, here_found, elsewhere_found}
use Rattle.jr_scopes.proofs.indexing.PlaceIndex.last_numbered.Goals as goal

pub returns-in-None : goal.returns-in-None
returns-in-None c =
    none_found number_in same_number (placed c.args.self.now.numbers) c.args.known.now c.requires.numbers c.args.number c.in-None.ensures

pub returns-then-is_numbered : goal.returns-then-is_numbered
returns-then-is_numbered c =
    here_found number_in same_number (placed c.args.self.now.numbers) c.args.known.now c.requires.numbers c.args.number c.in-Some.place c.in-Some.ensures (sym c.is_numbered.ensures ∙ c.if-is_numbered.true)

pub returns-else-is_numbered : goal.returns-else-is_numbered
returns-else-is_numbered c =
    elsewhere_found number_in same_number (placed c.args.self.now.numbers) c.args.known.now c.requires.numbers c.args.number c.in-Some.place c.in-Some.ensures (sym c.is_numbered.ensures ∙ c.if-is_numbered.false)
