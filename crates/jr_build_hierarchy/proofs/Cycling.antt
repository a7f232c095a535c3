-- A class is its own superclass through others exactly where the way upwards from its number comes back.
use Rattle.std.proofs.Common.{◌≡◌, ℕ, zero, suc, ◌+◌, ◌<◌, ◌≤◌, List, length, Option, Some, None, Bool, true, false, refl, sym, ap, subst, ◌∙◌, inl, inr, arith}
use Rattle.std.specs.Prelude.{slice_get, option_and_then, ◌⊎◌}
use Rattle.jr_index.specs.Parents.{next, up, Returns}
use Rattle.jr_index.specs.Cycles.{AreOnCycle}
use Rattle.jr_table.specs.declared.kinds.DeclKind.TheVariants as kind
use Rattle.jr_table.specs.Keys.{ClassKey}
use Rattle.jr_table.specs.DeclaredItems.{DeclaredClass, Item, class_item, field_item, method_item, ctor_item, DeclaredItem}
use Rattle.jr_table.specs.Resolving.{IsParent, Climbs}
use Rattle.jr_table.specs.Faults.{Place, At, PackageLine, HasFault}
use Rattle.jr_build_places.specs.Places.{IsEarliest}
use Rattle.jr_build_declared.specs.DeclarationFaults.{IsLeastAt, Among}
use Rattle.jr_build_hierarchy.specs.Hierarchies.{Hierarchy, key_at, parent_at}
use Rattle.jr_build_hierarchy.specs.Superclasses.{IsHierarchy, OnCycleAt, on_cycle_of}
use Rattle.jr_build_hierarchy.proofs.ClassNumbers.{inside, same_number, from_within, stands_at}
use Rattle.jr_build_declared.proofs.Earliest.{same_property, all}

module _ (declarations : List DeclaredItem) (h : Hierarchy) (is : IsHierarchy declarations h) where
  climbs_up : (steps i j : ℕ) (k d : ClassKey) → key_at h i ≡ Some k → key_at h j ≡ Some d → Climbs declarations steps k d → up steps h.parents i ≡ Some j
  unfolding up
  climbs_up zero i j k d a b e = ap Some (same_number declarations h is.tops.classes i j d (a ∙ ap Some e) b)
  climbs_up (suc steps) i j k d a b (p, parent, more) =
      let n = is.all i k p a parent in
      ap (option_and_then (up steps h.parents)) n.known ∙ climbs_up steps n.number j p d n.is b more

  up_climbs : (steps i j : ℕ) (k d : ClassKey) → key_at h i ≡ Some k → key_at h j ≡ Some d → up steps h.parents i ≡ Some j → Climbs declarations steps k d
  unfolding up
  up_climbs zero i j k d a b e = let same : i ≡ j = inside _ _ e in inside _ _ (sym a ∙ ap (key_at h) same ∙ b)
  up_climbs (suc steps) i j k d a b e = by (next h.parents i) refl e (up_climbs steps)
    where
      by : (o : Option ℕ) → next h.parents i ≡ o → option_and_then (up steps h.parents) o ≡ Some j
          → ((i j : ℕ) (k d : ClassKey) → key_at h i ≡ Some k → key_at h j ≡ Some d → up steps h.parents i ≡ Some j → Climbs declarations steps k d)
          → (p : ClassKey) × IsParent declarations k p × Climbs declarations steps p d
      by None f e more = absurd cc
      by (Some p) f e more =
          let at = is.tops.each i p f in
          let same : at.class ≡ k = inside _ _ (sym at.is_class ∙ a) in
          (at.parent, subst (λ x. IsParent declarations x at.parent) same at.extends, more p j at.parent d at.is_parent b e)

  numbered : (i file : ℕ) (c : DeclaredClass) → At declarations i file (class_item c) → key_at h i ≡ Some c.key
  numbered i file c at = from_within declarations h is.tops.classes i c.key (stands_at declarations i file c at.stands)

  -- a class's fault
  pub class_on_cycle : (on : List Bool) → AreOnCycle h.parents on → (i file : ℕ) (item : Item) (counts : Bool) → At declarations i file item → slice_get on i ≡ Some counts
      → IsLeastAt (OnCycleAt declarations item) (on_cycle_of item counts)
  class_on_cycle on known i file (class_item c) true at e =
      let r = known.each i e in
      let k = numbered i file c at in
      ((refl, (r.0, up_climbs (suc r.0) i i c.key c.key k k r.1)), λ b x. let f = x.0 in omega (arith, f))
  class_on_cycle on known i file (class_item c) false at e = λ b x.
      let k = numbered i file c at in
      known.none i e (x.1.0, climbs_up (suc x.1.0) i i c.key c.key k k x.1.1)
  class_on_cycle on known i file (field_item f) counts at e = λ b x. x
  class_on_cycle on known i file (method_item m) counts at e = λ b x. x
  class_on_cycle on known i file (ctor_item c) counts at e = λ b x. x

module _ (packages : List (Option PackageLine)) (declarations : List DeclaredItem) (n : ℕ) (end : length declarations ≤ n) (r : Option Place) where
  cycle_to : (p : Place) (i : ℕ) (item : Item) → At declarations i p.file item → OnCycleAt declarations item p.at → HasFault packages declarations kind.Cycle p
  cycle_to p i (class_item c) at (e, (steps, climbs)) = (i, c, steps, at, climbs, e)
  cycle_to p i (field_item f) at x = absurd x
  cycle_to p i (method_item m) at x = absurd x
  cycle_to p i (ctor_item c) at x = absurd x

  pub cycles : IsEarliest (Among declarations (λ _. OnCycleAt declarations) n) r → IsEarliest (HasFault packages declarations kind.Cycle) r
  cycles x = same_property (λ p. (i : ℕ) × (item : Item) × At declarations i p.file item × OnCycleAt declarations item p.at) (HasFault packages declarations kind.Cycle)
      (λ p (i, item, at, is). cycle_to p i item at is) (λ p (i, c, steps, at, climbs, e). (i, class_item c, at, (e, (steps, climbs)))) r (all declarations (λ _. OnCycleAt declarations) n end r x)
