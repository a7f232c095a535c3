-- Dispatch in two programs that differ in names alone, by numbers.
use Rattle.std.specs.Prelude.{
  ◌≡◌,
  ◌≢◌,
  ℕ,
  ◌≤◌,
  List,
  Option,
  Some,
  Bool,
  true,
  false,
  slice_get,
  ◌↔◌,
  ◌⊎◌,
  unwrap_or,
  option_and_then,
}
use Rattle.jr_table.specs.declared.entries.Kind.{Kind}
use Rattle.jr_table.specs.declared.entries.Sort.TheVariants as sort
use Rattle.jr_table.specs.declared.entries.Entry.{Entry}
use Rattle.jr_table.specs.Chains.{parent_of, IsSubclassAt, In}
use Rattle.jr_table.specs.Members.{DeclaresVirtual}
use Rattle.jr_table.specs.Looking.{is_virtual, own_row, nearest}

-- ---- programs that differ in names alone

pub record IsLike (e f : Entry) : Type 0 where
  pub of_sort : f.sort ≡ e.sort
  pub of_class : f.class ≡ e.class
  pub takes : f.params ≡ e.params
  pub private : f.is_private ≡ e.is_private
  pub static : f.is_static ≡ e.is_static

pub record AreAlike (old new : List Entry) : Type 0 where
  pub parents : (c : ℕ) → parent_of new c ≡ parent_of old c
  pub there : (j : ℕ) (e : Entry) → slice_get old j ≡ Some e
      → (f : Entry) × (slice_get new j ≡ Some f) × IsLike e f
  pub back : (j : ℕ) (f : Entry) → slice_get new j ≡ Some f
      → (e : Entry) × (slice_get old j ≡ Some e) × IsLike e f

-- row j declares in class c a method, neither private nor static, of these types, which has the one
-- name in the old program and the other in the new one
pub record HasNames (old new : List Entry) (was now : List ℕ) (params : List Kind)
    (c j : ℕ) : Type 0 where
  pub before : DeclaresVirtual old was params c j
  pub after : DeclaresVirtual new now params c j

-- ---- dispatch

-- on an object of class c method j is dispatched to another row than it was
pub record ChangesAt (old new : List Entry) (c j : ℕ) : Type 0 where
  pub was : List ℕ
  pub now : List ℕ
  pub params : List Kind
  pub class : ℕ
  pub names : HasNames old new was now params class j
  pub below : IsSubclassAt old c class
  pub differs : nearest old (is_virtual was params) c ≢ nearest new (is_virtual now params) c

-- row c declares a class
pub record IsClassAt (rows : List Entry) (c : ℕ) : Type 0 where
  pub row : Entry
  pub stands : slice_get rows c ≡ Some row
  pub is : row.sort ≡ sort.Class

-- the first class, and then the first method
pub record IsFirstChangeAt (old new : List Entry) (c j : ℕ) : Type 0 where
  pub is_class : IsClassAt old c
  pub changes : ChangesAt old new c j
  pub first_class : (d i : ℕ) → IsClassAt old d → ChangesAt old new d i → c ≤ d
  pub first_method : (i : ℕ) → ChangesAt old new c i → j ≤ i

-- ---- which classes are asked

-- a class, from c upwards, declares in the old program another row of the one kind than it does of
-- the other kind in the new program
pub record DiffersAbove (old new : List Entry) (t u : ℕ → Entry → Bool) (c : ℕ) : Type 0 where
  pub at : ℕ
  pub above : IsSubclassAt old c at
  pub differs : own_row old t at ≢ own_row new u at

-- method j of class c has its name together with a method of a class from c upwards in one of the
-- programs alone
pub record IsParted (old new : List Entry) (c j : ℕ) : Type 0 where
  pub was : List ℕ
  pub now : List ℕ
  pub params : List Kind
  pub names : HasNames old new was now params c j
  pub differs : DiffersAbove old new (is_virtual was params) (is_virtual now params) c

-- what is looked for in the one program and in the other: methods, neither private nor static, of
-- the same types
pub record AreMethodTests (t u : ℕ → Entry → Bool) : Type 0 where
  pub was : List ℕ
  pub now : List ℕ
  pub params : List Kind
  pub before : t ≡ is_virtual was params
  pub after : u ≡ is_virtual now params

-- none of the rows that are marked is parted
abbrev pub AreUnparted : (old new : List Entry) → (marks : List Bool) → Type 0
AreUnparted old new marks =
    (j c : ℕ) → slice_get marks j ≡ Some true → IsParted old new c j → ⊥

-- whether the row of the number is marked
abbrev pub is_marked : List Bool → Option ℕ → Bool
is_marked marks o = unwrap_or (option_and_then (λ j. slice_get marks j) o) false

-- none is marked but those that were and this one
abbrev pub MarksOne : (old : List Bool) → Option ℕ → (new : List Bool) → Type 0
MarksOne old o new =
    (j : ℕ) → slice_get new j ≡ Some true → (slice_get old j ≡ Some true) ⊎ (o ≡ Some j)

-- exactly the classes that declare such methods
abbrev pub ArePartedClasses : (old new : List Entry) → List ℕ → Type 0
ArePartedClasses old new lows = (c : ℕ) → In lows c ↔ ((j : ℕ) × IsParted old new c j)

-- row c is a class that is below one of these
pub record IsLowClass (rows : List Entry) (lows : List ℕ) (c : ℕ) : Type 0 where
  pub is_class : IsClassAt rows c
  pub low : ℕ
  pub among : In lows low
  pub below : IsSubclassAt rows c low

-- the first number that has a property
pub record IsFirst (P : ℕ → Type 0) (n : ℕ) : Type 0 where
  pub has : P n
  pub first : (i : ℕ) → P i → n ≤ i
