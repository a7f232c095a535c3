-- Declarations with what they become, as values.
use Rattle.std.specs.Prelude.{List, [], ◌∷◌, map, if◌then◌else◌}
use Rattle.jr_table.specs.declared.decls.Decl as raw
use Rattle.jr_table.specs.Decls.{Decl}
use Rattle.jr_table.specs.SameDecls.{same_decl}
use Rattle.jr_table.specs.KeyView.{decl_of}

abbrev pub pairs_view : List (raw.Decl × raw.Decl) → List (Decl × Decl)
pairs_view ps = map (λ (p : raw.Decl × raw.Decl). (decl_of p.0, decl_of p.1)) ps

-- the declaration with the one that it becomes, if that is another
abbrev pub changed : (old new : Decl) → List (Decl × Decl)
changed old new = if same_decl old new then [] else (old, new) ∷ []
