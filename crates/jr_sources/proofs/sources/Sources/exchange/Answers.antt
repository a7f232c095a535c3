use Rattle.std.proofs.Common.{◌≡◌, ℕ, List, sym, ap, subst, ◌∙◌}
use Rattle.std.specs.List.{slice_get}
use Rattle.std.specs.Prelude.{Some}
use Rattle.jr_sources.specs.Sources.{Source, AreSources, with_text, texts_of}
use Rattle.jr_sources.proofs.SourceLaws.{keeps-with_text}
use Rattle.jr_sources.proofs.Entries.{sources-set, texts-values}
use Rattle.jr_sources.proofs.sources.Sources.exchange.Goals as goal

pub invariant_of-self : goal.invariant_of-self
invariant_of-self c =
    subst AreSources (sym (sources-set c.self.inside.files.entries c.args.number c.replace.new.dest))
    (keeps-with_text _ c.args.number c.replace.new.dest c.self.invariant)

pub returns-clause-becomes : goal.returns-clause-becomes
returns-clause-becomes c =
    sources-set c.self.inside.files.entries c.args.number c.replace.new.dest
    ∙ (λ i. with_text (c.self.view_is i) c.args.number (c.replace.ensures.after i))

pub returns-clause-had : goal.returns-clause-had
returns-clause-had c =
    ap (λ (ss : List Source). slice_get (texts_of ss) c.args.number) (sym c.self.view_is)
    ∙ ap (λ (ts : List (List ℕ)). slice_get ts c.args.number) (texts-values c.self.inside.files.entries)
    ∙ c.index_mut.ensures.value
    ∙ ap (λ (t : List ℕ). Some t) (sym c.replace.ensures.value)
