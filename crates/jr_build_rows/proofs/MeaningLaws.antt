-- What written types mean is what is found, and superclasses are those that are known.
use Rattle.std.proofs.Common.{◌≡◌, ℕ, zero, suc, List, Option, Some, None, refl, sym, ap, subst, ◌∙◌, inl, inr}
use Rattle.std.specs.Prelude.{option_and_then, option_map, ◌⊎◌, ◌↔◌}
use Rattle.jr_table.specs.Keys.{ClassKey, Ty, class}
use Rattle.jr_table.specs.Keys as keys
use Rattle.jr_table.specs.Prelude.{top_key}
use Rattle.jr_table.specs.DeclaredItems.{Written, int, boolean, named, DeclaredClass, DeclaredItem}
use Rattle.jr_table.specs.Resolving.{DeclaresClass, IsPrivateClass, IsTopClass, FindsInTop, MemberNames, TypeWithin, HasMemberType, IsParent, FindsAround, FindsType, Means}
use Rattle.jr_build_hierarchy.specs.Hierarchies.{Hierarchy, key_at, parent_of, parent_key, first_of, member_type, member_type_of, found_around, found_type, meant_class, class_type, meaning}
use Rattle.jr_build_hierarchy.specs.Superclasses.{KnowsTops, IsHierarchy, HasParent}
use Rattle.jr_build_hierarchy.proofs.ClassNumbers.{inside, number_has, number_is, declared_number, top_class, top_number}
use Rattle.jr_build_hierarchy.proofs.HierarchyLaws.{comes_early}
use Rattle.jr_build_hierarchy.proofs.Looks.{key, names_so}
use Rattle.jr_build_hierarchy.proofs.MemberTypes.{Has, has_is, top_has, on_way, of_parent, parent_from, is_open, member_sound, member_key_of, in_top_found, found_in_top_is, top_stands}
use Rattle.jr_build_hierarchy.proofs.OneParent.{one_parent, one_type}
use Rattle.jr_build_hierarchy.proofs.Settling.{found_member, member_found}

module _ (declarations : List DeclaredItem) (h : Hierarchy) (is : IsHierarchy declarations h) where
  abbrev knows : KnowsTops declarations h
  knows = is.tops

  type_has : (looks : ℕ) (outer : Option (List ℕ)) (name wanted : List ℕ) (q : ClassKey) → TypeWithin declarations looks (key outer name) wanted q
      → (m : ℕ) × (key_at h m ≡ Some q) × Has h (key outer name) wanted m
  type_has zero outer name wanted q t = absurd t
  type_has (suc looks) None name wanted q (inl (none, t)) = top_has declarations h comes_early is.tops name wanted q t
  type_has (suc looks) None name wanted q (inr t) = absurd t
  type_has (suc looks) (Some outer) name wanted q (inl (none, t)) = absurd cc
  type_has (suc looks) (Some outer) name wanted q (inr (at, p, d, names, type, shared)) =
      let k = key (Some outer) name in
      let extends : IsParent declarations k p = inr (
        outer,
        at,
        refl,
        d,
        names_so declarations (λ d. TypeWithin declarations looks d) (HasMemberType declarations) (λ c n r w. (looks, w)) outer at.parent p names,
      ) in
      let number = declared_number declarations h is.tops.classes k at d in
      let known = is.all d.number k p number extends in
      let r = type_has looks p.outer p.name wanted q type in
      let way = on_way declarations h is.tops.classes known.number p wanted r.0 known.is r.2 in
      (r.0, r.1, inr (refl, (known.number, way.0, parent_from declarations h is.tops.classes d.number k number ∙ known.known, way.1, is_open declarations h is.tops.classes r.0 q r.1 shared)))

  -- each member type is found
  pub member_complete : (c : ClassKey) (name : List ℕ) (q : ClassKey) → HasMemberType declarations c name q → (m : ℕ) × (key_at h m ≡ Some q) × (member_type h c name ≡ Some m)
  member_complete c name q (looks, t) =
      let m = type_has looks c.outer c.name name q t in
      (m.0, m.1, has_is declarations h comes_early is.tops c name m.0 m.2)

  member_none : (c : ClassKey) (name : List ℕ) → member_type h c name ≡ None → (r : ClassKey) → HasMemberType declarations c name r → ⊥
  member_none c name e r t = let m = member_complete c name r t in let f = m.2 in absurd cc

  -- around a class
  around_is : (outer : Option (List ℕ)) (name : List ℕ) (m : ℕ) → found_around h outer name ≡ Some m → (q : ClassKey) × (key_at h m ≡ Some q) × FindsAround declarations outer name q
  around_is None name m e =
      let k = number_has declarations h is.tops.classes (top_key name) m e in
      (top_key name, k, (refl, top_class declarations h is.tops.classes m name k))
  around_is (Some outer) name m e = found_in_top_is declarations h comes_early is.tops outer name m e

  around_found : (outer : Option (List ℕ)) (name : List ℕ) (q : ClassKey) → FindsAround declarations outer name q → (m : ℕ) × (key_at h m ≡ Some q) × (found_around h outer name ≡ Some m)
  around_found None name q (e, top) =
      let j = top_number declarations h is.tops.classes name top in
      (j.0, j.1 ∙ ap Some (sym e), number_is declarations h is.tops.classes (top_key name) j.0 j.1)
  around_found (Some outer) name q f = in_top_found declarations h comes_early is.tops outer name q f

  -- a simple name
  type_is : (c : ClassKey) (name : List ℕ) (m : ℕ) → found_type h c name ≡ Some m → (q : ClassKey) × (key_at h m ≡ Some q) × FindsType declarations c name q
  type_is c name m e = by (member_type h c name) refl e
    where
      by : (o : Option ℕ) → member_type h c name ≡ o → first_of o (found_around h c.outer name) ≡ Some m → (q : ClassKey) × (key_at h m ≡ Some q) × FindsType declarations c name q
      by (Some x) f e =
          let t = f ∙ e in
          let q = member_key_of declarations h comes_early is.tops c name m t in
          (q.0, q.1, inl (member_sound declarations h comes_early is.tops c name m q.0 t q.1))
      by None f e =
          let a = around_is c.outer name m e in
          (a.0, a.1, inr (member_none c name f, a.2))

  type_found : (c : ClassKey) (name : List ℕ) (q : ClassKey) → FindsType declarations c name q → (m : ℕ) × (key_at h m ≡ Some q) × (found_type h c name ≡ Some m)
  type_found c name q (inl t) =
      let m = member_complete c name q t in
      (m.0, m.1, ap (λ o. first_of o (found_around h c.outer name)) m.2)
  type_found c name q (inr (none, around)) =
      let a = around_found c.outer name q around in
      (a.0, a.1, by (member_type h c name) refl a.0 a.2)
    where
      by : (o : Option ℕ) → member_type h c name ≡ o → (m : ℕ) → found_around h c.outer name ≡ Some m → found_type h c name ≡ Some m
      by None e m f = ap (λ o. first_of o (found_around h c.outer name)) e ∙ f
      by (Some x) e m f =
          let q = member_key_of declarations h comes_early is.tops c name x e in
          absurd (none q.0 (member_sound declarations h comes_early is.tops c name x q.0 e q.1))

  -- a name, perhaps behind another
  abbrev Names : ClassKey → Option (List ℕ) → List ℕ → ClassKey → Type 0
  Names c None name q = FindsType declarations c name q
  Names c (Some left) name q = (o : ClassKey) × FindsType declarations c left o × HasMemberType declarations o name q

  meant_is : (c : ClassKey) (left : Option (List ℕ)) (name : List ℕ) (m : ℕ) → meant_class h c left name ≡ Some m → (q : ClassKey) × (key_at h m ≡ Some q) × Names c left name q
  meant_is c None name m e = type_is c name m e
  meant_is c (Some left) name m e =
      let f = found_member declarations h comes_early is.tops (found_type h c left) name m e in
      let l = type_is c left f.0 f.2 in
      let same : l.0 ≡ f.1 = inside _ _ (sym l.1 ∙ f.3) in
      let q = member_key_of declarations h comes_early is.tops f.1 name m f.4 in
      (q.0, q.1, (f.1, subst (FindsType declarations c left) same l.2, member_sound declarations h comes_early is.tops f.1 name m q.0 f.4 q.1))

  meant_found : (c : ClassKey) (left : Option (List ℕ)) (name : List ℕ) (q : ClassKey) → Names c left name q → (m : ℕ) × (key_at h m ≡ Some q) × (meant_class h c left name ≡ Some m)
  meant_found c None name q f = type_found c name q f
  meant_found c (Some left) name q (o, finds, type) =
      let l = type_found c left o finds in
      let t = member_complete o name q type in
      (t.0, t.1, member_found declarations h comes_early is.tops (found_type h c left) l.0 o name t.0 l.2 l.1 t.2)

  type_at : (o : Option ℕ) (m : ℕ) (q : ClassKey) → o ≡ Some m → key_at h m ≡ Some q → class_type h o ≡ Some (class q)
  type_at o m q e f = ap (class_type h) e ∙ ap (option_map (λ k. class k)) f

  named_is : (c : ClassKey) (left : Option (List ℕ)) (name : List ℕ) (t : Ty) → class_type h (meant_class h c left name) ≡ Some t → (q : ClassKey) × (t ≡ class q) × Names c left name q
  named_is c left name t e = by (meant_class h c left name) refl e
    where
      by : (o : Option ℕ) → meant_class h c left name ≡ o → class_type h o ≡ Some t → (q : ClassKey) × (t ≡ class q) × Names c left name q
      by None f e = absurd cc
      by (Some m) f e =
          let q = meant_is c left name m f in
          (q.0, inside _ _ (sym e ∙ type_at (Some m) m q.0 refl q.1), q.2)

  named_found : (c : ClassKey) (left : Option (List ℕ)) (name : List ℕ) (t : Ty) (q : ClassKey) → t ≡ class q → Names c left name q → class_type h (meant_class h c left name) ≡ Some t
  named_found c left name t q e names =
      let m = meant_found c left name q names in
      type_at (meant_class h c left name) m.0 q m.2 m.1 ∙ ap Some (sym e)

  -- written types
  pub means_what : (c : ClassKey) (w : Written) (t : Ty) → (meaning h c w ≡ Some t) ↔ Means declarations c w t
  means_what c int t = (λ e. sym (inside _ _ e), λ e. ap Some (sym e))
  means_what c boolean t = (λ e. sym (inside _ _ e), λ e. ap Some (sym e))
  means_what c (named at None name) t = (λ e. named_is c None name t e, λ (q, e, finds). named_found c None name t q e finds)
  means_what c (named at (Some left) name) t = (to, λ (o, q, e, finds, type). named_found c (Some left) name t q e (o, finds, type))
    where
      to : class_type h (meant_class h c (Some left) name) ≡ Some t → Means declarations c (named at (Some left) name) t
      to e = let n = named_is c (Some left) name t e in (n.2.0, n.0, n.1, n.2.1, n.2.2)

  -- superclasses
  pub stands : (k p : ClassKey) → IsParent declarations k p → (j : ℕ) × (key_at h j ≡ Some k)
  stands k p (inl (none, parent)) =
      let s = top_stands declarations h comes_early is.tops k.name p parent in
      (s.0, s.1 ∙ ap Some (λ i. record { outer = sym none i; name = k.name }))
  stands k p (inr (outer, at, some, d, names)) = (d.number, declared_number declarations h is.tops.classes k at d)

  pub extends_what : (k p : ClassKey) → (parent_key h k ≡ Some p) ↔ IsParent declarations k p
  extends_what k p = (λ e. by (parent_of h k) refl e, to)
    where
      by : (o : Option ℕ) → parent_of h k ≡ o → option_and_then (λ j. key_at h j) o ≡ Some p → IsParent declarations k p
      by None f e = absurd cc
      by (Some m) f e =
          let j = of_parent declarations h is.tops.classes k m f in
          let at = is.tops.each j.0 m j.2 in
          let c : at.class ≡ k = inside _ _ (sym at.is_class ∙ j.1) in
          let q : at.parent ≡ p = inside _ _ (sym at.is_parent ∙ e) in
          subst (λ x. IsParent declarations x p) c (subst (IsParent declarations at.class) q at.extends)

      to : IsParent declarations k p → parent_key h k ≡ Some p
      to extends =
          let j = stands k p extends in
          let a = is.all j.0 k p j.1 extends in
          ap (option_and_then (λ i. key_at h i)) (parent_from declarations h is.tops.classes j.0 k j.1 ∙ a.known) ∙ a.is

  pub one_superclass : (k p q : ClassKey) → IsParent declarations k p → IsParent declarations k q → p ≡ q
  one_superclass = one_parent declarations h comes_early is.tops
