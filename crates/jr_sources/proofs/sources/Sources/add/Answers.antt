use Rattle.std.proofs.Common.{◌≡◌, ◌<◌, ◌++◌, ◌∷◌, [], ℕ, List, length, sym, ap, subst, ◌∙◌, string_bytes}
use Rattle.jr_sources.specs.Sources.{Source, AreSources, LacksFile, file_limit}
use Rattle.jr_sources.specs.SourceView.{source_of, sources_of}
use Rattle.jr_sources.proofs.SourceLaws.{keeps-pushed}
use Rattle.jr_sources.proofs.Entries.{sources-inserted}
use Rattle.jr_sources.proofs.sources.Sources.add.Goals as goal

pub returns-in-Ok-clause-ok : goal.returns-in-Ok-clause-ok
returns-in-Ok-clause-ok c =
    let lacks : LacksFile c.args.self.now (string_bytes c.args.name) = subst (λ (n : List ℕ). LacksFile c.args.self.now n) c.as_str.ensures.value c.in_default.ensures.found in
    let inside : LacksFile (sources_of c.self.inside.files.entries) (string_bytes c.args.name) = subst (λ (ss : List Source). LacksFile ss (string_bytes c.args.name)) (sym c.self.view_is) lacks in (
      lacks,
      ap (λ es. sources_of es) c.in-Ok.ensures.entries
          ∙ sources-inserted c.self.inside.files.entries c.args.name c.args.text inside
          ∙ ap (λ (ss : List Source). ss ++ source_of (c.args.name, c.args.text) ∷ []) c.self.view_is,
    )

pub invariant_of-self : goal.invariant_of-self
invariant_of-self c =
    let lacks : LacksFile c.args.self.now (string_bytes c.args.name) = subst (λ (n : List ℕ). LacksFile c.args.self.now n) c.as_str.ensures.value c.in_default.ensures.found in
    let inside : LacksFile (sources_of c.self.inside.files.entries) (string_bytes c.args.name) = subst (λ (ss : List Source). LacksFile ss (string_bytes c.args.name)) (sym c.self.view_is) lacks in
    let room : length (sources_of c.self.inside.files.entries) < file_limit = subst (λ (ss : List Source). length ss < file_limit) (sym c.self.view_is) c.requires in
    subst AreSources (sym (ap (λ es. sources_of es) c.in-Ok.ensures.entries ∙ sources-inserted c.self.inside.files.entries c.args.name c.args.text inside))
    (keeps-pushed (sources_of c.self.inside.files.entries) (source_of (c.args.name, c.args.text)) room inside c.self.invariant)
