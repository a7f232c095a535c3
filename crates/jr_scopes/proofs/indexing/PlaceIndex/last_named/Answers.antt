use Rattle.std.proofs.Common.{sym, ap, ◌∙◌}
use Rattle.std.specs.Str.{bytes_eq}
use Rattle.jr_index.specs.Names.{named}
use Rattle.jr_scopes.specs.Tracked.{name_in}
use Rattle.jr_scopes.proofs.Tracking.{here_found, elsewhere_found}
use Rattle.jr_scopes.proofs.indexing.PlaceIndex.last_named.Goals as goal

pub returns-then-is_named : goal.returns-then-is_named
returns-then-is_named c =
    let found = named c.args.self.now.names in
    here_found name_in bytes_eq found c.args.known.now c.requires.names c.args.name.now c.in-Some.place (c.in-Some.ensures ∙ ap found c.as_str.ensures) (sym c.is_named.ensures ∙ c.if-is_named.true)

pub returns-else-is_named : goal.returns-else-is_named
returns-else-is_named c =
    let found = named c.args.self.now.names in
    elsewhere_found name_in bytes_eq found c.args.known.now c.requires.names c.args.name.now c.in-Some.place (c.in-Some.ensures ∙ ap found c.as_str.ensures) (sym c.is_named.ensures ∙ c.if-is_named.false)
