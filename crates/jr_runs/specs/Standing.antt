-- How old code stands in a new member: what its locals and `this` have become there, and what is
-- known of them.
use Rattle.std.specs.Prelude.{◌≡◌, ◌⊎◌, ℕ, zero, suc, List, [], ◌∷◌, IsTrue}
use Rattle.jr_runs.specs.Sets.{NumberSet}
use Rattle.jr_runs.specs.Keys.{Keys}
use Rattle.jr_runs.specs.Values.{Value, null}
use Rattle.jr_plans.specs.Plan.{done}
use Rattle.jr_runs.specs.Rows.{Rows}
use Rattle.jr_runs.specs.Arithmetic.{value}
use Rattle.jr_runs.specs.Core.{Exp}
use Rattle.jr_runs.specs.Evaluation.{local_at, cast_value, exp}
use Rattle.jr_runs.specs.Fitting.{is_instance}
use Rattle.jr_runs.specs.KeyMaps.{KeyMap, value_image}

-- n - 1, .., 0
abbrev pub upto : ℕ → List ℕ
upto zero = []
upto (suc n) = n ∷ upto n

abbrev pub In : ℕ → List ℕ → Type 0
In n [] = ⊥
In n (m ∷ ms) = (n ≡ m) ⊎ In n ms

-- what stands for `this`: `this`, a local, or null; or nothing, where the code doesn't name it
pub data Self : Type 0 where
  itself : Self
  held : (number : ℕ) → Self
  nobody : Self
  unused : Self

-- what has become of the old code's locals, and of `this`
pub record Renumbering (K : Keys) : Type 0 where
  -- the locals of the old code
  pub mine : List ℕ
  pub at : ℕ → ℕ
  pub self : Self
  -- classes that `this` has, so that a cast of it to one of them can't fail
  pub classes : List K.class
  -- those that the code doesn't write, and whose values are as in the frame
  pub known : List ℕ
  -- expressions, and the further local of the new code that is read in place of each
  pub holds : List (Exp K × ℕ)
  -- the same where the local is cast, which can't fail
  pub casts : List (K.class × Exp K × ℕ)

pub record Standing (K : Keys) : Type 0 where
  pub code : Renumbering K
  -- further locals of the new member, which the code leaves as they are
  pub others : List ℕ

abbrev pub SelfIn : Self → List ℕ → Type 0
SelfIn itself ms = Unit {0}
SelfIn (held k) ms = In k ms
SelfIn nobody ms = Unit {0}
SelfIn unused ms = Unit {0}

abbrev pub HeldIn : {K : Keys} → List (Exp K × ℕ) → List ℕ → Type 0
HeldIn [] ms = Unit {0}
HeldIn (h ∷ hs) ms = In h.1 ms × HeldIn hs ms

-- local k stands for expression e
abbrev pub CastIn : {K : Keys} → List (K.class × Exp K × ℕ) → List ℕ → Type 0
CastIn [] ms = Unit {0}
CastIn (h ∷ hs) ms = In h.2 ms × CastIn hs ms

-- local k, cast to class c, stands for expression e
abbrev pub IsCast : {K : Keys} → K.class → Exp K → ℕ → List (K.class × Exp K × ℕ) → Type 0
IsCast c e k [] = ⊥
IsCast c e k (h ∷ hs) = ((c ≡ h.0) × (e ≡ h.1) × (k ≡ h.2)) ⊎ IsCast c e k hs

abbrev pub IsHeld : {K : Keys} → Exp K → ℕ → List (Exp K × ℕ) → Type 0
IsHeld e k [] = ⊥
IsHeld e k (h ∷ hs) = ((e ≡ h.0) × (k ≡ h.1)) ⊎ IsHeld e k hs

-- a local of the old code that it may write
pub record IsFree {K : Keys} (s : Renumbering K) (n : ℕ) : Type 0 where
  pub below : In n s.mine
  pub unknown : In n s.known → ⊥

-- the old locals have become locals of their own
pub record Stands {K : Keys} (s : Standing K) : Type 0 where
  pub injective : (i j : ℕ) → In i s.code.mine → In j s.code.mine → s.code.at i ≡ s.code.at j
      → i ≡ j
  pub apart : (i : ℕ) → In i s.code.mine → In (s.code.at i) s.others → ⊥
  pub self : SelfIn s.code.self s.others
  pub held : HeldIn s.code.holds s.others
  pub cast : CastIn s.code.casts s.others

-- a whole member: `this` is `this`, and there are no further locals
abbrev pub whole : {K : Keys} → ℕ → (ℕ → ℕ) → Standing K
whole n f = record {
  code = record {
    mine = upto n;
    at = f;
    self = itself;
    classes = [];
    known = [];
    holds = [];
    casts = [];
  };
  others = [];
}

-- the values of the known locals, and those of the further ones
pub record Frame (K : Keys) : Type 0 where
  pub here : List (Value K)
  pub there : List (Value K)

abbrev pub no_frame : {K : Keys} → Frame K
no_frame = record { here = []; there = [] }

-- frame: the values of the further locals. The receiver of the old member, and that of the new one
-- or what stands for it.
abbrev pub SelfIs : {K : Keys} → KeyMap K → Self → Frame K → Value K → Value K → Type 0
SelfIs r itself frame me me' = me' ≡ value_image r me
SelfIs r (held k) frame me me' = local_at frame.there k ≡ value_image r me
SelfIs r nobody frame me me' = me ≡ null
SelfIs r unused frame me me' = Unit {0}

abbrev pub AreKnown : {K : Keys} → List ℕ → Frame K → List (Value K) → Type 0
AreKnown known frame l = (i : ℕ) → In i known → local_at l i ≡ local_at frame.here i

-- wherever the known locals are as in the frame, the expression comes to a value and does nothing
-- else, and the local has the value's image
pub record Holds {K : Keys} (R : Rows K) (r : KeyMap K) (known : List ℕ) (frame : Frame K)
    (me : Value K) (e : Exp K) (k : ℕ) : Type 0 where
  pub result : Value K
  pub comes : (l : List (Value K)) → AreKnown known frame l
      → exp R me e l ≡ done (value (result, l))
  pub there : local_at frame.there k ≡ value_image r result

abbrev pub AllHold : {K : Keys} → Rows K → KeyMap K → List ℕ → Frame K → Value K
    → List (Exp K × ℕ) → Type 0
AllHold R r known frame me [] = Unit {0}
AllHold R r known frame me (h ∷ hs) =
    Holds R r known frame me h.0 h.1 × AllHold R r known frame me hs

-- the same, and the value is one that the class has, or null
pub record HoldsAs {K : Keys} (R : Rows K) (r : KeyMap K) (known : List ℕ) (frame : Frame K)
    (me : Value K) (c : K.class) (e : Exp K) (k : ℕ) : Type 0 where
  pub holds : Holds R r known frame me e k
  pub fits : cast_value (is_instance R c holds.result) holds.result ≡ value holds.result

abbrev pub AllHoldAs : {K : Keys} → Rows K → KeyMap K → List ℕ → Frame K → Value K
    → List (K.class × Exp K × ℕ) → Type 0
AllHoldAs R r known frame me [] = Unit {0}
AllHoldAs R r known frame me (h ∷ hs) =
    HoldsAs R r known frame me h.0 h.1 h.2 × AllHoldAs R r known frame me hs

-- `this` is an instance of each
abbrev pub HasAll : {K : Keys} → Rows K → Value K → List K.class → Type 0
HasAll R me [] = Unit {0}
HasAll R me (c ∷ cs) = IsTrue (is_instance R c me) × HasAll R me cs

-- what stands for `this` and for expressions is that
pub record Holding {K : Keys} (R : Rows K) (r : KeyMap K) (s : Renumbering K) (frame : Frame K)
    (me me' : Value K) : Type 0 where
  pub self : SelfIs r s.self frame me me'
  pub classes : HasAll R me s.classes
  pub holds : AllHold R r s.known frame me s.holds
  pub casts : AllHoldAs R r s.known frame me s.casts

-- The locals agree: the new ones have the image of each old local of the set, the further ones are
-- as in the frame, and so are the known ones.
pub record Shifted {K : Keys} (r : KeyMap K) (s : Standing K) (frame : Frame K) (A : NumberSet)
    (l l' : List (Value K)) : Type 0 where
  pub moved : (i : ℕ) → In i s.code.mine → IsTrue (A i)
      → local_at l' (s.code.at i) ≡ value_image r (local_at l i)
  pub others : (j : ℕ) → In j s.others → local_at l' j ≡ local_at frame.there j
  pub known : AreKnown s.code.known frame l
