-- Classes whose named superclass isn't found.
use Rattle.std.proofs.Common.{◌≡◌, ℕ, ◌≤◌, List, length, Option, Some, None, refl, sym, ap, subst, ◌∙◌, inl, inr, arith}
use Rattle.std.specs.Prelude.{slice_get, ◌⊎◌}
use Rattle.jr_table.specs.declared.kinds.DeclKind.TheVariants as kind
use Rattle.jr_table.specs.Keys.{ClassKey}
use Rattle.jr_table.specs.Prelude.{object_key}
use Rattle.jr_table.specs.DeclaredItems.{Written, int, boolean, named, DeclaredClass, Item, class_item, field_item, method_item, ctor_item, DeclaredItem}
use Rattle.jr_table.specs.Resolving.{DeclaresClass, IsParent}
use Rattle.jr_table.specs.Faults.{Place, At, PackageLine, HasFault}
use Rattle.jr_build_places.specs.Places.{IsEarliest}
use Rattle.jr_build_declared.specs.DeclarationFaults.{IsLeastAt, Among}
use Rattle.jr_build_hierarchy.specs.Hierarchies.{Hierarchy, key_at, parent_at}
use Rattle.jr_build_hierarchy.specs.Superclasses.{IsHierarchy, UnparentedAt, unparented_in, unparented_of}
use Rattle.jr_build_hierarchy.proofs.ClassNumbers.{inside, from_within, stands_at}
use Rattle.jr_build_declared.proofs.Earliest.{same_property, all}

module _ (declarations : List DeclaredItem) (h : Hierarchy) (is : IsHierarchy declarations h) where
  numbered : (i file : ℕ) (c : DeclaredClass) → At declarations i file (class_item c) → key_at h i ≡ Some c.key
  numbered i file c at = from_within declarations h is.tops.classes i c.key (stands_at declarations i file c at.stands)

  -- a class's fault
  of_class : (i file : ℕ) (c : DeclaredClass) → At declarations i file (class_item c) → (w : Option Written) → c.parent ≡ w → (p : Option ℕ) → parent_at h i ≡ p
      → IsLeastAt (UnparentedAt declarations (class_item c)) (unparented_in w p)
  of_class i file c at None e p f = λ b (outer, name, g, none). let x = sym e ∙ g in absurd cc
  of_class i file c at (Some int) e p f = λ b (outer, name, g, none). let x = sym e ∙ g in absurd cc
  of_class i file c at (Some boolean) e p f = λ b (outer, name, g, none). let x = sym e ∙ g in absurd cc
  of_class i file c at (Some (named place outer name)) e None f = ((outer, name, e, none), λ b (o, n, g, x). least b (sym e ∙ g))
    where
      none : (q : ClassKey) → IsParent declarations c.key q → ⊥
      none q extends = let a = is.all i c.key q (numbered i file c at) extends in let k = a.known in absurd cc

      least : (b : ℕ) {o : Option (List ℕ)} {n : List ℕ} → Some (named place outer name) ≡ Some (named b o n) → place ≤ b
      least b g = let same : place ≡ b = cc in omega (arith, same)
  of_class i file c at (Some (named place outer name)) e (Some p) f = λ b (o, n, g, none).
      let a = is.tops.each i p f in
      let same : a.class ≡ c.key = inside _ _ (sym a.is_class ∙ numbered i file c at) in
      none a.parent (subst (λ x. IsParent declarations x a.parent) same a.extends)

  pub class_unparented : (i file : ℕ) (item : Item) → At declarations i file item → IsLeastAt (UnparentedAt declarations item) (unparented_of item (parent_at h i))
  class_unparented i file (class_item c) at = of_class i file c at c.parent refl (parent_at h i) refl
  class_unparented i file (field_item f) at = λ b x. x
  class_unparented i file (method_item m) at = λ b x. x
  class_unparented i file (ctor_item c) at = λ b x. x

module _ (packages : List (Option PackageLine)) (declarations : List DeclaredItem) (n : ℕ) (end : length declarations ≤ n) (r : Option Place) where
  fault_to : (p : Place) (i : ℕ) (item : Item) → At declarations i p.file item → UnparentedAt declarations item p.at → HasFault packages declarations kind.NoSuperclass p
  fault_to p i (class_item c) at (outer, name, e, none) = (i, c, outer, name, at, e, none)
  fault_to p i (field_item f) at x = absurd x
  fault_to p i (method_item m) at x = absurd x
  fault_to p i (ctor_item c) at x = absurd x

  pub unparented : IsEarliest (Among declarations (λ _. UnparentedAt declarations) n) r → IsEarliest (HasFault packages declarations kind.NoSuperclass) r
  unparented x = same_property (λ p. (i : ℕ) × (item : Item) × At declarations i p.file item × UnparentedAt declarations item p.at) (HasFault packages declarations kind.NoSuperclass)
      (λ p (i, item, at, is). fault_to p i item at is) (λ p (i, c, outer, name, at, e, none). (i, class_item c, at, (outer, name, e, none))) r (all declarations (λ _. UnparentedAt declarations) n end r x)
