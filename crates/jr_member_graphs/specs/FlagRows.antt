-- Exact: what locals begin with, where marks are spots, and rows of marks.
use Rattle.std.specs.Prelude.{
  ◌≡◌,
  ◌<◌,
  ℕ,
  zero,
  suc,
  nat_eq,
  Bool,
  false,
  List,
  [],
  ◌∷◌,
  ◌++◌,
  ◌||◌,
  length,
  map,
  Option,
  Some,
  None,
  slice_get,
  unwrap_or,
}
use Rattle.std.specs.List.{list_any}
use Rattle.jr_text.specs.declared.spans.Span.{Span}
use Rattle.jr_ast.specs.Tree as tree
use Rattle.jr_bind_expr.specs.Fits.{FitsExp}
use Rattle.jr_cover.specs.Spots.{Spot}
use Rattle.jr_expr_sites.specs.Routes.{begins_by, spots}
use Rattle.jr_member_graphs.specs.Notes.{Begin}

abbrev pub is_among : List ℕ → ℕ → Bool
is_among ns n = list_any (nat_eq n) ns

-- by a row of marks; what has none isn't marked
abbrev pub marked : List Bool → ℕ → Bool
marked marks n = unwrap_or (slice_get marks n) false

module _ {A : Type 0} (tells : A → ℕ → Span) where
  -- the same expression, where marks are spots
  abbrev pub IsSpotted : Begin A → tree.Exp Spot → Type 0
  IsSpotted b e = (path : List ℕ) × (e ≡ spots tells path b.base b.of)

  abbrev pub AreSpotted : List (Begin A) → List (tree.Exp Spot) → Type 0
  AreSpotted [] [] = Unit {0}
  AreSpotted [] (e ∷ es) = ⊥
  AreSpotted (b ∷ bs) [] = ⊥
  AreSpotted (b ∷ bs) (e ∷ es) = IsSpotted b e × AreSpotted bs es

  abbrev pub AllFit : (Fits : A → ℕ → Type 0) → List (Begin A) → Type 0
  AllFit Fits [] = Unit {0}
  AllFit Fits (b ∷ bs) = FitsExp (begins_by tells) Fits b.base b.of × AllFit Fits bs

-- further locals are marked
pub record MarksMore (ns : List ℕ) (old new : List Bool) : Type 0 where
  pub size : length new ≡ length old
  pub marks : (n : ℕ) → n < length old → marked new n ≡ (marked old n || is_among ns n)

-- the locals with numbers below the count are marked just where they are among those
abbrev pub MarksLocals : List ℕ → (count : ℕ) → List Bool → Type 0
MarksLocals ns count marks = (n : ℕ) → n < count → marked marks n ≡ is_among ns n

abbrev pub listed : Option ℕ → List ℕ
listed None = []
listed (Some n) = n ∷ []

-- of so many parameters
abbrev pub nones : {X : Type 0} → ℕ → List (Option X)
nones zero = []
nones (suc n) = None ∷ nones n

-- the initializers of locals, behind so many parameters
abbrev pub behind_nones : {X : Type 0} → ℕ → List X → List (Option X)
behind_nones n es = nones n ++ map (λ e. Some e) es
