-- No class is its own superclass, computed: each names one that is declared before it, or the prelude's.
use Rattle.std.proofs.Common.{◌≡◌, ℕ, zero, suc, ◌<◌, ◌≤◌, List, [], ◌∷◌, Option, Some, None, Bool, true, cond, ◌&&◌, sym, ap, subst, ◌∙◌, inl, inr, arith}
use Rattle.std.specs.Prelude.{nat_eq, nat_lt, codes}
use Rattle.std.proofs.lemmas.Bool.{ltb-true, eqb-true, and_parts}
use Rattle.jr_table.specs.Keys.{ClassKey}
use Rattle.jr_table.specs.SameKeys.{same_name, same_class}
use Rattle.jr_table.specs.Prelude.{top_key}
use Rattle.jr_table.specs.DeclaredItems.{Written, int, boolean, named, DeclaredClass, Item, class_item, field_item, method_item, ctor_item, DeclaredItem}
use Rattle.jr_table.specs.Resolving.{DeclaresClass, IsPreludeSubclass, TopNames, IsParent, Climbs}
use Rattle.jr_code_cases.proofs.TopTypes.{all_top, no_outer}
use Rattle.jr_code_cases.proofs.DeclaredRows.{named_parent}
use Rattle.jr_code_cases.proofs.Pairing.{all_items, item_at}

abbrev rank_or : Item → List ℕ → ℕ → ℕ → ℕ
rank_or (class_item c) name here later = cond (same_class c.key (top_key name)) here later
rank_or (field_item f) name here later = later
rank_or (method_item m) name here later = later
rank_or (ctor_item c) name here later = later

-- where the class of the name is first declared, from this number on
abbrev rank_from : ℕ → List DeclaredItem → List ℕ → ℕ
rank_from n [] name = cond (same_name name (codes "Object")) 0 1
rank_from n (d ∷ ds) name = rank_or d.item name n (rank_from (suc n) ds name)

module _ (ds : List DeclaredItem) where
  abbrev rank : List ℕ → ℕ
  rank name = rank_from 2 ds name

  abbrev rises : Item → Bool
  rises (class_item c) = nat_lt (rank (named_parent c.parent).name) (rank c.key.name)
  rises (field_item f) = true
  rises (method_item m) = true
  rises (ctor_item c) = true

  abbrev pub all_rise : Bool
  all_rise = all_items ds rises && (nat_eq (rank (codes "Object")) 0 && (nat_lt 0 (rank (codes "String")) && (nat_lt 0 (rank (codes "Class")) && nat_lt 0 (rank (codes "Thread")))))

  module _ (top : all_top ds ≡ true) (rise : all_rise ≡ true) where
    rise_parts : (all_items ds rises ≡ true) × (nat_eq (rank (codes "Object")) 0 && (nat_lt 0 (rank (codes "String")) && (nat_lt 0 (rank (codes "Class")) && nat_lt 0 (rank (codes "Thread")))) ≡ true)
    rise_parts = and_parts (all_items ds rises) _ rise

    object_parts : (nat_eq (rank (codes "Object")) 0 ≡ true) × (nat_lt 0 (rank (codes "String")) && (nat_lt 0 (rank (codes "Class")) && nat_lt 0 (rank (codes "Thread"))) ≡ true)
    object_parts = and_parts (nat_eq (rank (codes "Object")) 0) _ rise_parts.1

    string_parts : (nat_lt 0 (rank (codes "String")) ≡ true) × (nat_lt 0 (rank (codes "Class")) && nat_lt 0 (rank (codes "Thread")) ≡ true)
    string_parts = and_parts (nat_lt 0 (rank (codes "String"))) _ object_parts.1

    class_parts : (nat_lt 0 (rank (codes "Class")) ≡ true) × (nat_lt 0 (rank (codes "Thread")) ≡ true)
    class_parts = and_parts (nat_lt 0 (rank (codes "Class"))) _ string_parts.1

    object_rank : rank (codes "Object") ≡ 0
    object_rank = eqb-true (rank (codes "Object")) 0 object_parts.0

    above : (x : List ℕ) (name : List ℕ) → name ≡ x → nat_lt 0 (rank x) ≡ true → rank (codes "Object") < rank name
    above x name is e = subst (λ (n : ℕ). n < rank name) (sym object_rank) (subst (λ (y : List ℕ). 0 < rank y) (sym is) (ltb-true 0 (rank x) e))

    prelude_rises : (name : List ℕ) → IsPreludeSubclass name → rank (codes "Object") < rank name
    prelude_rises name (inl is) = above (codes "String") name is string_parts.0
    prelude_rises name (inr (inl is)) = above (codes "Class") name is class_parts.0
    prelude_rises name (inr (inr is)) = above (codes "Thread") name is class_parts.1

    named_is : (w : Option Written) (p : ClassKey) → TopNames ds w p → p ≡ named_parent w
    named_is None p h = h
    named_is (Some int) p h = absurd h
    named_is (Some boolean) p h = absurd h
    named_is (Some (named at None name)) p h = h.0
    named_is (Some (named at (Some o) name)) p h = absurd h

    declared_rises : (k : ClassKey) (at : DeclaredClass) → DeclaresClass ds k at → (p : ClassKey) → TopNames ds at.parent p → rank p.name < rank k.name
    declared_rises k at h p names =
        let t = ltb-true (rank (named_parent at.parent).name) (rank at.key.name) (item_at ds rises rise_parts.0 h.number h.file (class_item at) (record { stands = h.stands })) in
        subst (λ (q : ClassKey). rank q.name < rank k.name) (sym (named_is at.parent p names)) (subst (λ (q : ClassKey). rank (named_parent at.parent).name < rank q.name) h.is t)

    parent_rises : (k p : ClassKey) → IsParent ds k p → rank p.name < rank k.name
    parent_rises k p (inl (none, inl (at, declares, names))) = declared_rises (top_key k.name) at declares p names
    parent_rises k p (inl (none, inr (prelude, is))) = subst (λ (q : ClassKey). rank q.name < rank k.name) (sym is) (prelude_rises k.name prelude)
    parent_rises k p (inr (outer, at, has, declares, names)) = absurd (let none = sym (no_outer ds top k (at, declares)) ∙ has in cc)

    climbs_rise : (steps : ℕ) (k e : ClassKey) → Climbs ds steps k e → rank e.name ≤ rank k.name
    climbs_rise zero k e same = let is = ap (λ (q : ClassKey). rank q.name) same in omega (arith, is)
    climbs_rise (suc steps) k e (p, parent, rest) =
        let less = parent_rises k p parent in
        let more = climbs_rise steps p e rest in
        omega (arith, less, more)

    pub no_cycle : (steps : ℕ) (k : ClassKey) → Climbs ds (suc steps) k k → ⊥
    no_cycle steps k (p, parent, rest) =
        let less = parent_rises k p parent in
        let more = climbs_rise steps p k rest in
        omega (arith, less, more)
