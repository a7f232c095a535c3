use Rattle.std.proofs.Common.{◌≡◌, ℕ, List, sym, ap, ◌∙◌}
use Rattle.std.specs.List.{slice_get}
use Rattle.jr_sources.specs.Sources.{Source, texts_of}
use Rattle.jr_sources.proofs.Entries.{texts-values}
use Rattle.jr_sources.proofs.sources.Sources.text.Goals as goal

pub returns : goal.returns
returns c =
    ap (λ (ss : List Source). slice_get (texts_of ss) c.args.number) (sym c.self.view_is)
    ∙ ap (λ (ts : List (List ℕ)). slice_get ts c.args.number) (texts-values c.self.inside.files.entries)
    ∙ c.index.ensures
