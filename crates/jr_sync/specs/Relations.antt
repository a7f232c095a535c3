-- How a site depends on another that comes before it, by what the two are. Whether control comes
-- from the one to the other is another question.
use Rattle.std.specs.Prelude.{◌≡◌, ◌⊎◌, Bool, false, ◌&&◌, ◌||◌, IsTrue, Option, Some, None}
use Rattle.jr_sync.specs.declared.sites.Site.{Site}
use Rattle.jr_sync.specs.declared.sites.DepKind.{DepKind}
use Rattle.jr_sync.specs.declared.sites.DepKind.TheVariants.{Order, Field, Sync, Flow, Anti, Output}
use Rattle.jr_sync.specs.Grid.{is_allowed}
use Rattle.jr_sync.specs.Sites.{is_wild, is_access, kind_of, field_of, read_of, written_of}
use Rattle.jr_sync.specs.Sites.{is_store}

-- Both are there, and they agree.
abbrev pub Agree : {X : Type 0} → (X → X → Type 0) → Option X → Option X → Type 0
Agree R None other = ⊥
Agree R (Some x) None = ⊥
Agree R (Some x) (Some y) = R x y

-- One is wild, and the other is wild or an access.
abbrev pub is_ordered : {K L : Type 0} → Site K L → Site K L → Bool
is_ordered a b = (is_wild a && (is_wild b || is_access b)) || (is_access a && is_wild b)

-- Both are accesses, of kinds that the grid doesn't allow to change places in this order.
abbrev pub AreKept : {K L : Type 0} → Site K L → Site K L → Type 0
AreKept a b = Agree (λ k l. is_allowed k l ≡ false) (kind_of a) (kind_of b)

-- Both are accesses of one field, of which one stores.
abbrev pub AreInConflict : {K L : Type 0} → (SameField : K → K → Type 0) → (a b : Site K L) → Type 0
AreInConflict SameField a b = Agree SameField (field_of a) (field_of b)
    × (IsTrue (is_store a) ⊎ IsTrue (is_store b))

-- when fields are the same, and when locals are; a comes before b
module _ {K L : Type 0} (SameField : K → K → Type 0) (SameLocal : L → L → Type 0) where
  abbrev pub Related : DepKind → (a b : Site K L) → Type 0
  Related Order a b = IsTrue (is_ordered a b)
  Related Field a b = AreInConflict SameField a b
  Related Sync a b = AreKept a b
  Related Flow a b = Agree SameLocal (written_of a) (read_of b)
  Related Anti a b = Agree SameLocal (read_of a) (written_of b)
  Related Output a b = Agree SameLocal (written_of a) (written_of b)
