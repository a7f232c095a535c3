-- Sites that name fields and locals by numbers.
use Rattle.std.specs.Prelude.{◌≡◌, ◌↔◌, ◌==◌, ◌≤◌, ℕ, List, slice_get, Option, Some, None, IsTrue}
use Rattle.jr_sync.specs.declared.sites.Site.{Site}
use Rattle.jr_sync.specs.declared.sites.Site.TheVariants.{Read, Write, Access, Check, Call, Loop}
use Rattle.jr_sync.specs.Sites.{field_of}
use Rattle.jr_sync.specs.Relations.{Agree}
use Rattle.jr_dependences.specs.declared.dependence.Dependence.{Dependence}
use Rattle.jr_dependences.specs.Depends.{DependsIn}

abbrev pub SameNumber : ℕ → ℕ → Type 0
SameNumber x y = IsTrue (x == y)

-- the local that is read or written
abbrev pub local_of : {K L : Type 0} → Site K L → Option L
local_of (Read l) = Some l
local_of (Write l) = Some l
local_of (Access k f) = None
local_of Check = None
local_of Call = None
local_of Loop = None

abbrev pub HasField : {K L : Type 0} → (K → K → Type 0) → K → Site K L → Type 0
HasField F field s = Agree F (field_of s) (Some field)

abbrev pub HasLocal : {K L : Type 0} → (L → L → Type 0) → L → Site K L → Type 0
HasLocal M local s = Agree M (local_of s) (Some local)

-- If one of the items is such, this is the number of the first.
abbrev pub IsFirst : {X : Type 0} → (X → Type 0) → List X → (number : ℕ) → Type 0
IsFirst {X} P items number = (n : ℕ) (x : X) → slice_get items n ≡ Some x → P x
    → (number ≤ n) × (y : X) × (slice_get items number ≡ Some y) × P y

module _ {K L : Type 0} (F : K → K → Type 0) (M : L → L → Type 0) (sites : List (Site K L)) where
  abbrev pub IsFieldNumber : Option K → Option ℕ → Type 0
  IsFieldNumber None number = number ≡ None
  IsFieldNumber (Some field) number = (n : ℕ) × (number ≡ Some n)
      × IsFirst (HasField F field) sites n

  -- The second is the first with numbers.
  abbrev pub IsNumbered : Site K L → Site ℕ ℕ → Type 0
  IsNumbered (Read l) s = (n : ℕ) × (s ≡ Read n) × IsFirst (HasLocal M l) sites n
  IsNumbered (Write l) s = (n : ℕ) × (s ≡ Write n) × IsFirst (HasLocal M l) sites n
  IsNumbered (Access kind f) s = (number : Option ℕ) × (s ≡ Access kind number)
      × IsFieldNumber f number
  IsNumbered Check s = s ≡ Check
  IsNumbered Call s = s ≡ Call
  IsNumbered Loop s = s ≡ Loop

  -- Whatever the edges, sites of the row depend on one another as these do.
  abbrev pub IsRowOf : List (Site ℕ ℕ) → Type 0
  IsRowOf row = (edges : List (ℕ × ℕ)) (d : Dependence)
      → (DependsIn SameNumber SameNumber row edges d ↔ DependsIn F M sites edges d)
