-- A rename, as a refactoring.
use Rattle.std.specs.Prelude.{◌≡◌, ℕ, List, [], ◌⊎◌}
use Rattle.jr_text.specs.declared.spans.Span.{Span}
use Rattle.jr_grammar.specs.Layout.{itself}
use Rattle.jr_table.specs.Decls.{Decl}
use Rattle.jr_names.specs.Refusals.{Refusal}
use Rattle.jr_bind.specs.Programs.{Program, units_of}
use Rattle.jr_rewrite.specs.Spots.{nowhere}
use Rattle.jr_images.specs.Images.{Renaming}
use Rattle.jr_images.specs.Regions.{region_of}
use Rattle.jr_images.specs.Clashes.{IsClear}
use Rattle.jr_images.specs.Renames.{Renames, LacksTarget, OfPrelude, Clashes}
use Rattle.jr_plan.specs.Transforms.{Transform, Refactoring}

-- the rename of these declarations: all is one region, and there are no spots
abbrev pub rename_of : Program Span → Renaming → Transform
rename_of p g = record {
  region = region_of p.rows g;
  spots = λ n. nowhere;
  fronts = λ n at k. Unit {0};
  AlsoLost = λ lost. lost ≡ [];
  Crosses = λ kind first second. ⊥;
}

module _ (p : Program Span) (text : List ℕ) (file at : ℕ) (new : List ℕ) where
  abbrev pub IsOf : Decl → Renaming → Type 0
  IsOf d g = Renames itself p.rows p.super_at (units_of p) text file at new d g

  abbrev pub IsOfPrelude : Decl → Refusal → Type 0
  IsOfPrelude d r = OfPrelude itself p.rows p.super_at (units_of p) d new r

  -- 5, 6, 14
  abbrev pub RefusesRename : Refusal → Type 0
  RefusesRename r = LacksTarget itself p.rows p.super_at (units_of p) text file at r
      ⊎ ((d : Decl) × (g : Renaming) × IsOf d g × (IsOfPrelude d r
      ⊎ (((q : Refusal) → IsOfPrelude d q → ⊥)
      × Clashes itself p.rows p.super_at (units_of p) d new r)))

  -- what is renamed, where none of these applies
  pub record IsFound : Type 0 where
    pub target : Decl
    pub g : Renaming
    pub renames : IsOf target g
    pub no_prelude : (q : Refusal) → IsOfPrelude target q → ⊥
    pub clear : IsClear (λ (m : Span) b. m.from) p.rows (units_of p) target new

  abbrev pub renaming : Refactoring
  renaming = record {
    Refuses = RefusesRename;
    Found = IsFound;
    transform = λ (x : IsFound). rename_of p x.g;
  }
