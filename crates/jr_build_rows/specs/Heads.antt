-- What the heads of a program's classes meet, as the grammar has them (JLS 8.1.4, 8.5), and what
-- the declarations do that come of them.
use Rattle.std.specs.Prelude.{
  ◌≡◌,
  ℕ,
  Bool,
  true,
  false,
  List,
  [],
  ◌∷◌,
  Option,
  Some,
  None,
}
use Rattle.jr_ast.specs.Tree as tree
use Rattle.jr_ast.specs.MemberTree as syntax
use Rattle.jr_table.specs.Keys.{ClassKey}
use Rattle.jr_table.specs.Prelude.{top_key}
use Rattle.jr_table.specs.DeclaredItems.{
  Written,
  int,
  boolean,
  DeclaredClass,
  DeclaredCtor,
  Item,
  class_item,
  field_item,
  method_item,
  ctor_item,
  DeclaredItem,
}
use Rattle.jr_table.specs.Resolving.{DeclaresClass, IsDeclared}
use Rattle.jr_table.specs.Faults.{At}

-- a superclass is named
abbrev pub NamesClass : {A : Type 0} → Option (tree.TypeName A) → Type 0
NamesClass None = Unit {0}
NamesClass (Some (tree.int m)) = ⊥
NamesClass (Some (tree.boolean m)) = ⊥
NamesClass (Some (tree.named m outer w)) = Unit {0}

-- a member class has no member classes
abbrev pub MayHold : (nested : Bool) → Type 0
MayHold true = ⊥
MayHold false = Unit {0}

unfoldable mutual
  pub ClassHeads : {A : Type 0} → (nested : Bool) → syntax.Class A → Type 0
  ClassHeads nested (syntax.class m mods w t ms) = NamesClass t × MembersHeads nested ms

  pub MemberHeads : {A : Type 0} → (nested : Bool) → syntax.Member A → Type 0
  MemberHeads nested (syntax.field m mods t w init) = Unit {0}
  MemberHeads nested (syntax.method m mods t w ps body) = Unit {0}
  MemberHeads nested (syntax.constructor m mods w ps args body) = Unit {0}
  MemberHeads nested (syntax.inner m c) = MayHold nested × ClassHeads true c

  pub MembersHeads : {A : Type 0} → (nested : Bool) → syntax.Members A → Type 0
  MembersHeads nested syntax.end = Unit {0}
  MembersHeads nested (syntax.more m ms) = MemberHeads nested m × MembersHeads nested ms

abbrev pub ClassesHeads : {A : Type 0} → List (syntax.Class A) → Type 0
ClassesHeads [] = Unit {0}
ClassesHeads (c ∷ cs) = ClassHeads false c × ClassesHeads cs

abbrev pub UnitsHeads : {A : Type 0} → List (syntax.Unit A) → Type 0
UnitsHeads [] = Unit {0}
UnitsHeads (u ∷ us) = ClassesHeads u.classes × UnitsHeads us

-- the class that a member belongs to
abbrev pub IsOwner : Item → ClassKey → Type 0
IsOwner (class_item c) k = ⊥
IsOwner (field_item f) k = f.of ≡ k
IsOwner (method_item m) k = m.of ≡ k
IsOwner (ctor_item c) k = c.of ≡ k

pub record AreHeaded (declarations : List DeclaredItem) : Type 0 where
  -- a member's class is declared
  pub owned : (i file : ℕ) (item : Item) (k : ClassKey) → At declarations i file item → IsOwner item k
      → IsDeclared declarations k
  -- so is the class around a member class, which is no member class
  pub outers : (i file : ℕ) (c : DeclaredClass) (outer : List ℕ) → At declarations i file (class_item c)
      → c.key.outer ≡ Some outer → IsDeclared declarations (top_key outer)
  -- a superclass is named
  pub named : (i file : ℕ) (c : DeclaredClass) → At declarations i file (class_item c)
      → (c.parent ≡ Some int → ⊥) × (c.parent ≡ Some boolean → ⊥)
  -- where a constructor is written, its class says so
  pub ctors : (i file : ℕ) (c : DeclaredCtor) → At declarations i file (ctor_item c)
      → (d : DeclaredClass) × DeclaresClass declarations c.of d × (d.has_ctor ≡ true)
