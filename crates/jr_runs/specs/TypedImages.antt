-- When a well-typed program is the image of another but for changed expressions and statement
-- lists: dispatch is asked where a method may be called alone, and a method may have gone up to a
-- superclass.
use Rattle.std.specs.Prelude.{◌≡◌, ◌<◌, ◌≤◌, ℕ, List, [], Option, Some, None, IsTrue}
use Rattle.jr_runs.specs.Keys.{Keys, keys_of}
use Rattle.jr_runs.specs.Rows.{Rows}
use Rattle.jr_runs.specs.Core.{Code, Method, written, starts, Program}
use Rattle.jr_runs.specs.KeyMaps.{KeyMap, Undoes}
use Rattle.jr_runs.specs.Sets.{NumberSet, everything}
use Rattle.jr_runs.specs.Standing.{itself, Standing, upto}
use Rattle.jr_runs.specs.Images.{Among, AllSpots, lists_alone, NoSpot, StmtsImage}
use Rattle.jr_runs.specs.KeptDeclarations.{SameDeclarations, DispatchKept}
use Rattle.jr_runs.specs.Signatures.{SameSignatures}
use Rattle.jr_runs.specs.Typing.{WellTyped}
use Rattle.jr_runs.specs.Alike.{AlikeExactly}

-- the class is a member's class, or above it; a static member has none
abbrev pub IsAbove : {K : Keys} → Rows K → Option K.class → K.class → Type 0
IsAbove R None c = ⊥
IsAbove R (Some owner) c = IsTrue (R.is_subclass owner c)

-- a whole member, in which `this` is known to have these classes
abbrev pub member : {K : Keys} → List K.class → ℕ → (ℕ → ℕ) → Standing K
member classes n f = record {
  code = record {
    mine = upto n;
    at = f;
    self = itself;
    classes = classes;
    known = [];
    holds = [];
    casts = [];
  };
  others = [];
}

-- A member's code, as `CodeTo`; owner: the member's class.
pub record TypedCodeTo {K : Keys} (r : KeyMap K) (R : Rows K) (Spot : AllSpots K)
    (owner : Option K.class) (old new : Code K) : Type 0 where
  pub size : ℕ
  pub at : ℕ → ℕ
  pub injective : (i j : ℕ) → i < size → j < size → at i ≡ at j → i ≡ j
  pub params : new.params ≡ old.params
  pub params_below : old.params ≤ size
  pub params_stay : (i : ℕ) → i < old.params → at i ≡ i
  -- classes to which `this` may be cast, since the member's class is below each
  pub classes : List K.class
  pub above : (c : K.class) → Among c classes → IsAbove R owner c
  pub behind : NumberSet
  pub body : StmtsImage r R Spot (member classes size at) everything old.body new.body behind

abbrev pub TypedMethodTo : {K : Keys} → KeyMap K → Rows K → AllSpots K → Option K.class → Method K
    → Method K → Type 0
TypedMethodTo r R Spot owner (written c) (written c') = TypedCodeTo r R Spot owner c c'
TypedMethodTo r R Spot owner starts starts = Unit {0}
TypedMethodTo r R Spot owner (written c) starts = ⊥
TypedMethodTo r R Spot owner starts (written c) = ⊥

-- The new program may have further methods.
pub record TypedProgramTo {K : Keys} (r : KeyMap K) (Spot : AllSpots K)
    (old new : Program K) : Type 0 where
  pub rows : SameDeclarations r old.rows new.rows
  pub dispatch : DispatchKept r old.rows new.rows
  pub signatures : SameSignatures r old.rows new.rows
  pub methods : (m : K.method) → IsTrue (old.rows.has_method m)
      → TypedMethodTo r old.rows Spot (old.rows.owner m) (old.method m) (new.method (r.method m))
  pub constructors : (k : K.constructor) → IsTrue (old.rows.has_constructor k)
      → TypedCodeTo r old.rows Spot (Some (old.rows.constructor_class k)) (old.constructor k)
      (new.constructor (r.constructor k))

-- Q is P under other keys, and methods may have gone up: pull up.
abbrev pub TypedImagesAreAlike : (C F M N A : Type 0) → Type 0
TypedImagesAreAlike C F M N A = (r s : KeyMap (keys_of C F M N A)) → Undoes r s → Undoes s r
    → (P Q : Program (keys_of C F M N A)) → WellTyped P → WellTyped Q
    → TypedProgramTo r (lists_alone (NoSpot {K = keys_of C F M N A})) P Q → AlikeExactly r P Q
