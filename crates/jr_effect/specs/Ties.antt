-- What a row of sites says of a way.
use Rattle.std.specs.Prelude.{◌≡◌, ◌↔◌, ℕ, List, map}
use Rattle.jr_sync.specs.declared.sites.DepKind.{DepKind}
use Rattle.jr_flow.specs.Edges.{EdgeOf}
use Rattle.jr_dependences.specs.Depends as row
use Rattle.jr_runs.specs.Keys.{keys_of}
use Rattle.jr_runs.specs.Rows.{Rows}
use Rattle.jr_cover.specs.Ways.{Way, sites_of, Edge}
use Rattle.jr_cover.specs.Sites.{Site}
use Rattle.jr_cover.specs.Dependences.{Depends}
use Rattle.jr_cfg.specs.Seen.{seen}
use Rattle.jr_effect.specs.Plain.{Same}

-- The sites of a way depend on one another exactly as the row of sites that they are seen as, where
-- fields and locals have names of their own.
abbrev pub RowsDependAsWays : (C F M N L G H : Type 0) → Type 0
RowsDependAsWays C F M N L G H = (R : Rows (keys_of C F M N L)) (key : F → G) (local : ℕ → H)
    → ((f g : F) → key f ≡ key g → f ≡ g) → ((m n : ℕ) → local m ≡ local n → m ≡ n)
    → (w : Way (Site (keys_of C F M N L))) (edges : List (ℕ × ℕ))
    → ((i j : ℕ) → (EdgeOf edges i j ↔ Edge 0 w i j)) → (kind : DepKind) (i j : ℕ)
    → (Depends R (sites_of w) (Edge 0 w) kind i j ↔ row.Depends Same Same
    (map (λ s. seen R.field_kind key local s.what) (sites_of w)) edges kind i j)
