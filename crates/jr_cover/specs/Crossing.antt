-- Two pieces of code, the one in front of the other, that may not change places, by their sites.
use Rattle.std.specs.Prelude.{◌≡◌, ◌⊎◌, ◌<◌, ℕ, false, List, Option, Some, None}
use Rattle.jr_sync.specs.declared.kinds.Kind.{Kind}
use Rattle.jr_sync.specs.declared.kinds.Kind.TheVariants.{Store, VolatileStore}
use Rattle.jr_sync.specs.declared.sites.DepKind.{DepKind}
use Rattle.jr_sync.specs.declared.sites.DepKind.TheVariants.{
  Order,
  Field,
  Sync,
  Flow,
  Anti,
  Output,
}
use Rattle.jr_sync.specs.Grid.{is_allowed}
use Rattle.jr_cover.specs.Covering.{site_at}

-- a site of a piece, with fields named by K and locals by L
pub data Site (K L : Type 0) : Type 0 where
  reads writes : (of : L) → Site K L
  access : (kind : Kind) (field : Option K) → Site K L
  checks calls loops : Site K L

abbrev pub IsWild : {K L : Type 0} → Site K L → Type 0
IsWild checks = Unit {0}
IsWild calls = Unit {0}
IsWild loops = Unit {0}
IsWild s = ⊥

abbrev pub IsAccess : {K L : Type 0} → Site K L → Type 0
IsAccess (access k f) = Unit {0}
IsAccess s = ⊥

abbrev pub IsStore : Kind → Type 0
IsStore Store = Unit {0}
IsStore VolatileStore = Unit {0}
IsStore k = ⊥

-- what may throw, call or turn stays beside its like and beside accesses
abbrev pub AreOrdered : {K L : Type 0} → Site K L → Site K L → Type 0
AreOrdered a b = (IsWild a × (IsWild b ⊎ IsAccess b)) ⊎ (IsAccess a × IsWild b)

-- accesses of one field, of which one stores
abbrev pub OfOneField : {K L : Type 0} → Site K L → Site K L → Type 0
OfOneField {K = K} (access k f) (access l g) = (of : K) × (f ≡ Some of) × (g ≡ Some of)
    × (IsStore k ⊎ IsStore l)
OfOneField a b = ⊥

-- accesses that the grid keeps in this order
abbrev pub AreKept : {K L : Type 0} → Site K L → Site K L → Type 0
AreKept (access k f) (access l g) = is_allowed k l ≡ false
AreKept a b = ⊥

abbrev pub OfOneLocal : {K L : Type 0} → DepKind → Site K L → Site K L → Type 0
OfOneLocal Flow (writes x) (reads y) = x ≡ y
OfOneLocal Anti (reads x) (writes y) = x ≡ y
OfOneLocal Output (writes x) (writes y) = x ≡ y
OfOneLocal k a b = ⊥

-- the three tests, in their order, each with the kind that it tells
abbrev pub ByOrder : {K L : Type 0} → DepKind → Site K L → Site K L → Type 0
ByOrder k a b = (k ≡ Order) × AreOrdered a b

abbrev pub ByAccess : {K L : Type 0} → DepKind → Site K L → Site K L → Type 0
ByAccess k a b = ((k ≡ Field) × OfOneField a b) ⊎ ((k ≡ Sync) × (OfOneField a b → ⊥) × AreKept a b)

module _ {K L : Type 0} (A B : List (Site K L)) where
  abbrev pub At : (DepKind → Site K L → Site K L → Type 0) → (i j : ℕ) → DepKind → Type 0
  At Test i j k = (a b : Site K L) × (site_at A i ≡ Some a) × (site_at B j ≡ Some b) × Test k a b

  abbrev pub Nowhere : (DepKind → Site K L → Site K L → Type 0) → Type 0
  Nowhere Test = (i j : ℕ) (k : DepKind) → At Test i j k → ⊥

  -- the first pair, by its place in A and then in B
  abbrev pub FirstAt : (DepKind → Site K L → Site K L → Type 0) → (i j : ℕ) → DepKind → Type 0
  FirstAt Test i j k = At Test i j k
      × ((m n : ℕ) (l : DepKind) → At Test m n l → ((m < i) ⊎ ((m ≡ i) × (n < j))) → ⊥)

  -- A and B may change places
  pub record Crosses : Type 0 where
    pub ordered : Nowhere ByOrder
    pub accesses : Nowhere ByAccess
    pub locals : Nowhere OfOneLocal

  -- what `crossing` answers
  abbrev pub IsCrossing : Option (ℕ × ℕ × DepKind) → Type 0
  IsCrossing None = Crosses
  IsCrossing (Some p) = FirstAt ByOrder p.0 p.1 p.2
      ⊎ (Nowhere ByOrder × FirstAt ByAccess p.0 p.1 p.2)
      ⊎ (Nowhere ByOrder × Nowhere ByAccess × FirstAt OfOneLocal p.0 p.1 p.2)
