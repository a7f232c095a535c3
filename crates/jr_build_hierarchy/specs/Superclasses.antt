-- What a hierarchy has of a program's classes.
use Rattle.std.specs.Prelude.{
  ◌≡◌,
  ◌<◌,
  ℕ,
  suc,
  List,
  [],
  Option,
  Some,
  None,
  Bool,
  true,
  false,
  length,
  slice_get,
  if◌then◌else◌,
}
use Rattle.std.specs.Option.{MatchOption}
use Rattle.std.specs.Str.{bytes_eq}
use Rattle.jr_table.specs.declared.kinds.DeclKind.TheVariants as kind
use Rattle.jr_table.specs.Keys.{ClassKey}
use Rattle.jr_table.specs.Prelude.{top_key}
use Rattle.jr_table.specs.DeclaredItems.{
  Written,
  int,
  boolean,
  named,
  DeclaredClass,
  Item,
  class_item,
  field_item,
  method_item,
  ctor_item,
  DeclaredItem,
}
use Rattle.jr_table.specs.Resolving.{TopParent, IsParent, Climbs, DeclaresClass}
use Rattle.jr_table.specs.Faults.{Place, At, HasFault}
use Rattle.jr_build_hierarchy.specs.Hierarchies.{
  Hierarchy,
  class_in,
  class_keys,
  inner_key,
  privates_of,
  key_at,
  parent_at,
  parent_of_item,
}

-- no class has a name of the prelude, and none is declared twice
pub record AreUnique (declarations : List DeclaredItem) : Type 0 where
  pub unreserved : (p : Place) → HasFault [] declarations kind.PreludeName p → ⊥
  pub once : (p : Place) → HasFault [] declarations kind.TwiceClass p → ⊥

-- the first n classes are found by these numbers
abbrev pub IsNumbering : List (Option ClassKey) → (n : ℕ) → (ClassKey → Option ℕ) → Type 0
IsNumbering keys n number = (k : ClassKey) → MatchOption (number k)
    ((i : ℕ) → i < n → class_in keys i ≡ Some k → ⊥)
    (λ i. class_in keys i ≡ Some k)

-- the number is put under the name of a member class
abbrev pub PutsUnder : Option (List ℕ) → (name : List ℕ) → (old : List ℕ → Option ℕ) → (n : ℕ)
    → (new : List ℕ → Option ℕ) → Type 0
PutsUnder None name old n new = (q : List ℕ) → new q ≡ old q
PutsUnder (Some outer) name old n new =
    (q : List ℕ) → new q ≡ (if bytes_eq name q then Some n else old q)

abbrev pub PutsInner : (old : List ℕ → Option ℕ) → Option ClassKey → (n : ℕ)
    → (new : List ℕ → Option ℕ) → Type 0
PutsInner old None n new = (q : List ℕ) → new q ≡ old q
PutsInner old (Some k) n new = PutsUnder k.outer k.name old n new

-- the member classes among the first n are found by their names alone
abbrev pub HasInner : List (Option ClassKey) → (n : ℕ) → (List ℕ → Option ℕ) → Type 0
HasInner keys n inner = (i : ℕ) (outer name : List ℕ) → i < n
    → class_in keys i ≡ Some (inner_key outer name) → inner name ≡ None → ⊥

-- the classes, whatever is known of superclasses
pub record HasClasses (declarations : List DeclaredItem) (h : Hierarchy) : Type 0 where
  pub unique : AreUnique declarations
  pub keys : h.keys ≡ class_keys declarations
  pub privates : h.privates ≡ privates_of declarations
  pub inner : (j : ℕ) (outer name : List ℕ) → key_at h j ≡ Some (inner_key outer name)
      → h.inner name ≡ None → ⊥
  pub finds : (k : ClassKey)
      → MatchOption (h.number k) ((i : ℕ) → key_at h i ≡ Some k → ⊥) (λ i. key_at h i ≡ Some k)

-- number j has number p, which is its superclass
pub record IsParentAt (declarations : List DeclaredItem) (h : Hierarchy) (j p : ℕ) : Type 0 where
  pub class : ClassKey
  pub parent : ClassKey
  pub is_class : key_at h j ≡ Some class
  pub is_parent : key_at h p ≡ Some parent
  pub extends : IsParent declarations class parent

-- where number j is the class, it has its superclass p
pub record HasParent (h : Hierarchy) (j : ℕ) (p : ClassKey) : Type 0 where
  pub number : ℕ
  pub known : parent_at h j ≡ Some number
  pub is : key_at h number ≡ Some p

-- what is known of superclasses holds, and those of top-level and prelude classes are known
pub record KnowsTops (declarations : List DeclaredItem) (h : Hierarchy) : Type 0 where
  pub classes : HasClasses declarations h
  pub size : length h.parents ≡ length h.keys
  pub each : (j p : ℕ) → parent_at h j ≡ Some p → IsParentAt declarations h j p
  pub tops : (j : ℕ) (name : List ℕ) (p : ClassKey) → key_at h j ≡ Some (top_key name)
      → TopParent declarations name p → HasParent h j p

-- nothing more can be told of a member class whose superclass isn't known
abbrev pub IsSettled : List DeclaredItem → Hierarchy → Type 0
IsSettled declarations h = (j file : ℕ) (c : DeclaredClass) (outer : List ℕ) → At declarations j file (class_item c)
    → c.key.outer ≡ Some outer → parent_at h j ≡ None → parent_of_item h (class_item c) ≡ None

-- each superclass is known
pub record IsHierarchy (declarations : List DeclaredItem) (h : Hierarchy) : Type 0 where
  pub tops : KnowsTops declarations h
  pub all : (j : ℕ) (k p : ClassKey) → key_at h j ≡ Some k → IsParent declarations k p → HasParent h j p

-- faults of single declarations

-- the class names a superclass there that it hasn't
abbrev pub UnparentedAt : List DeclaredItem → Item → ℕ → Type 0
UnparentedAt declarations (class_item c) at = (outer : Option (List ℕ)) × (name : List ℕ)
    × (c.parent ≡ Some (named at outer name)) × ((q : ClassKey) → IsParent declarations c.key q → ⊥)
UnparentedAt declarations _ at = ⊥

-- the class is its own superclass through others
abbrev pub OnCycleAt : List DeclaredItem → Item → ℕ → Type 0
OnCycleAt declarations (class_item c) at =
    (at ≡ c.at) × ((steps : ℕ) × Climbs declarations (suc steps) c.key c.key)
OnCycleAt declarations _ at = ⊥

-- exact: where they are, by what is known of the superclass

abbrev pub unparented_in : Option Written → Option ℕ → Option ℕ
unparented_in (Some (named at outer name)) None = Some at
unparented_in _ _ = None

abbrev pub unparented_of : Item → Option ℕ → Option ℕ
unparented_of (class_item c) parent = unparented_in c.parent parent
unparented_of _ parent = None

abbrev pub on_cycle_of : Item → Bool → Option ℕ
on_cycle_of (class_item c) true = Some c.at
on_cycle_of _ _ = None

-- laws of programs in which each class has its superclass, and none is on a cycle

-- a class has one superclass at most
abbrev pub HasOneParent : List DeclaredItem → Type 0
HasOneParent declarations =
    (k p q : ClassKey) → IsParent declarations k p → IsParent declarations k q → p ≡ q

abbrev pub HasNoCycle : List DeclaredItem → Type 0
HasNoCycle declarations = (k : ClassKey) (steps : ℕ) → Climbs declarations (suc steps) k k → ⊥

-- each declared class has a superclass, unless it names a type that is no class
abbrev pub HasParents : List DeclaredItem → Type 0
HasParents declarations = (k : ClassKey) (c : DeclaredClass) → DeclaresClass declarations k c
    → (c.parent ≡ Some int → ⊥) → (c.parent ≡ Some boolean → ⊥)
    → (p : ClassKey) × IsParent declarations k p
