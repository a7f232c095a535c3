use Rattle.std.proofs.Common.{◌≡◌, ℕ, List, sym, ap, subst, ◌∙◌}
use Rattle.jr_sources.specs.Sources.{Source, HasName, LacksFile}
use Rattle.jr_sources.proofs.Entries.{named_at, unnamed}
use Rattle.jr_sources.proofs.sources.Sources.find.Goals as goal

pub returns-in-None-clause-found : goal.returns-in-None-clause-found
returns-in-None-clause-found c =
    subst (λ (ss : List Source). LacksFile ss c.args.name.now) c.self.view_is
    (unnamed c.self.inside.files.entries c.args.name.now (sym c.in-None.ensures.index))

pub returns-in-Some-clause-found : goal.returns-in-Some-clause-found
returns-in-Some-clause-found c =
    subst (λ (ss : List Source). HasName ss c.in-Some.number c.args.name.now) c.self.view_is
    (named_at c.self.inside.files.entries c.args.name.now c.in-Some.number (sym c.in-Some.ensures.index))
