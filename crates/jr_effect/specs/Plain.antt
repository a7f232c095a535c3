-- Sites that read locals alone, and equal keys.
use Rattle.std.specs.Prelude.{◌≡◌, Bool, List, All, is_some, IsTrue}
use Rattle.jr_sync.specs.Sites.{read_of}
use Rattle.jr_sites.specs.declared.sites.PlacedSite.{PlacedSite}

abbrev pub is_read : PlacedSite → Bool
is_read placed = is_some (read_of placed.site)

abbrev pub IsPlain : List PlacedSite → Type 0
IsPlain sites = All (λ s. IsTrue (is_read s)) sites

-- equal keys
abbrev pub Same : {X : Type 0} → X → X → Type 0
Same x y = x ≡ y
