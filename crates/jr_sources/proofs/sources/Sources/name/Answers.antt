use Rattle.std.proofs.Common.{◌≡◌, ℕ, List, sym, subst}
use Rattle.jr_sources.specs.Sources.{Source, HasName}
use Rattle.jr_sources.specs.SourceView.{sources_of}
use Rattle.jr_sources.proofs.Entries.{name_at}
use Rattle.jr_sources.proofs.sources.Sources.name.Goals as goal

pub returns-in-Some-clause-name : goal.returns-in-Some-clause-name
returns-in-Some-clause-name c = subst (λ (ss : List Source). HasName ss c.args.number c.as_str.result.now) c.self.view_is
    (subst (λ (n : List ℕ). HasName (sources_of c.self.inside.files.entries) c.args.number n) (sym c.as_str.ensures.value)
    (name_at c.self.inside.files.entries c.args.number _ (sym c.in-Some.ensures.entry)))
