-- Where no fault of superclasses is, each class has one, and none is on a cycle.
use Rattle.std.proofs.Common.{◌≡◌, ℕ, zero, suc, ◌+◌, List, [], length, Option, Some, None, refl, sym, ap, subst, ◌∙◌, inl, inr}
use Rattle.std.specs.Prelude.{option_and_then, codes, ◌⊎◌}
use Rattle.jr_table.specs.declared.kinds.DeclKind.TheVariants as kind
use Rattle.jr_table.specs.Keys.{ClassKey}
use Rattle.jr_table.specs.Prelude.{top_key, object_key}
use Rattle.jr_table.specs.DeclaredItems.{Written, int, boolean, named, DeclaredClass, DeclaredItem}
use Rattle.jr_table.specs.Resolving.{DeclaresClass, IsPreludeClass, IsPreludeSubclass, TopNames, MemberNames, HasMemberType, IsParent, Climbs}
use Rattle.jr_table.specs.Faults.{Place, PackageLine, HasFault}
use Rattle.jr_build_hierarchy.specs.Hierarchies.{Hierarchy, key_at, parent_key}
use Rattle.jr_build_hierarchy.specs.Superclasses.{IsHierarchy, HasNoCycle, HasParents}
use Rattle.jr_build_hierarchy.proofs.ClassNumbers.{Declares, IsPreludeAt, declares_at, prelude_class, no_subclass, not_reserved}
use Rattle.jr_build_rows.proofs.MeaningLaws.{stands, extends_what}

module _ (packages : List (Option PackageLine)) (declarations : List DeclaredItem) (h : Hierarchy) (is : IsHierarchy declarations h) where
  -- a class of the prelude extends Object alone
  prelude_extends : (k p : ClassKey) → IsPreludeClass k.name → k.outer ≡ None → IsParent declarations k p → IsPreludeSubclass k.name × (p ≡ object_key)
  prelude_extends k p pre none (inl (n, inl (c, d, names))) =
      absurd (not_reserved declarations is.tops.classes.unique d.number (top_key k.name) (d.file, c, record { stands = d.stands }, d.is) pre)
  prelude_extends k p pre none (inl (n, inr (sub, e))) = (sub, e)
  prelude_extends k p pre none (inr (outer, at, some, d, names)) = let x = sym none ∙ some in absurd cc

  object_ends : (p : ClassKey) → IsParent declarations object_key p → ⊥
  object_ends p extends = no_subclass (prelude_extends object_key p (inl refl) refl extends).0

  from_object : (steps : ℕ) (k : ClassKey) → Climbs declarations steps object_key k → object_key ≡ k
  from_object zero k e = e
  from_object (suc steps) k (p, extends, more) = absurd (object_ends p extends)

  prelude_ends : (k : ClassKey) (steps : ℕ) → IsPreludeClass k.name → k.outer ≡ None → Climbs declarations (suc steps) k k → ⊥
  prelude_ends k steps pre none (p, extends, more) =
      let e = prelude_extends k p pre none extends in
      let same = from_object steps k (subst (λ x. Climbs declarations steps x k) e.1 more) in
      no_subclass (subst (λ (x : ClassKey). IsPreludeSubclass x.name) (sym same) e.0)

  pub no_cycle : ((p : Place) → HasFault packages declarations kind.Cycle p → ⊥) → HasNoCycle declarations
  no_cycle none k steps climbs =
      let j = stands declarations h is k climbs.0 climbs.1 in
      by j.0 (declares_at declarations h is.tops.classes j.0 k j.1)
    where
      by : (j : ℕ) → (Declares declarations j k ⊎ ((m : ℕ) × (j ≡ length declarations + m) × IsPreludeAt m k)) → ⊥
      by j (inl (file, c, at, e)) = none (record { file = file; at = c.at }) (j, c, steps, at, subst (λ x. Climbs declarations (suc steps) x x) (sym e) climbs, refl)
      by j (inr (m, e, pre)) = let c = prelude_class m k pre in prelude_ends k steps c.1 c.0 climbs

  -- a class that names no superclass
  unnamed : (k : ClassKey) (c : DeclaredClass) → DeclaresClass declarations k c → c.parent ≡ None → (o : Option (List ℕ)) → k.outer ≡ o → IsParent declarations k object_key
  unnamed k c d none None e =
      inl (
        e,
        inl (
          c,
          record { number = d.number; file = d.file; stands = d.stands; is = d.is ∙ (λ i. record { outer = e i; name = k.name }) },
          subst (λ w. TopNames declarations w object_key) (sym none) refl,
        ),
      )
  unnamed k c d none (Some outer) e = inr (outer, c, e, d, subst (λ w. MemberNames declarations (HasMemberType declarations) outer w object_key) (sym none) refl)

  pub each_has_parent : ((p : Place) → HasFault packages declarations kind.NoSuperclass p → ⊥) → HasParents declarations
  each_has_parent none k c d no_int no_boolean = by c.parent refl
    where
      by : (w : Option Written) → c.parent ≡ w → (p : ClassKey) × IsParent declarations k p
      by None e = (object_key, unnamed k c d e k.outer refl)
      by (Some int) e = absurd (no_int e)
      by (Some boolean) e = absurd (no_boolean e)
      by (Some (named at outer name)) e = found (parent_key h k) refl
        where
          found : (o : Option ClassKey) → parent_key h k ≡ o → (p : ClassKey) × IsParent declarations k p
          found (Some p) f = (p, (extends_what declarations h is k p).0 f)
          found None f = absurd (none (record { file = d.file; at = at }) (
            d.number,
            c,
            outer,
            name,
            record { stands = d.stands },
            e,
            λ q extends. let g = (extends_what declarations h is k q).1 (subst (λ x. IsParent declarations x q) d.is extends) in absurd cc,
          ))
