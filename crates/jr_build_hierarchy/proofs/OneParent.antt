-- A class has one superclass at most, and one member type of a name.
use Rattle.std.proofs.Common.{◌≡◌, ℕ, zero, suc, List, [], ◌∷◌, Option, Some, None, refl, sym, ap, subst, ◌∙◌, inl, inr}
use Rattle.std.specs.Prelude.{◌⊎◌}
use Rattle.jr_index.specs.Parents.{AreWithin, ComesEarly}
use Rattle.jr_table.specs.Keys.{ClassKey}
use Rattle.jr_table.specs.Prelude.{top_key, object_key}
use Rattle.jr_table.specs.DeclaredItems.{Written, int, boolean, named, DeclaredClass, DeclaredItem}
use Rattle.jr_table.specs.Resolving.{DeclaresClass, IsPreludeSubclass, TopParent, TopNames, HasTopMemberType, FindsInTop, MemberNames, TypeWithin, HasMemberType, IsParent}
use Rattle.jr_build_hierarchy.specs.Hierarchies.{Hierarchy, key_at}
use Rattle.jr_build_hierarchy.specs.Superclasses.{KnowsTops}
use Rattle.jr_build_hierarchy.proofs.ClassNumbers.{inside, one_class, not_reserved}
use Rattle.jr_build_hierarchy.proofs.Looks.{key}
use Rattle.jr_build_hierarchy.proofs.MemberTypes.{top_has, has_is, in_top_found}

module _ (declarations : List DeclaredItem) (h : Hierarchy) (early : (parents : List (Option ℕ)) (n : ℕ) → AreWithin parents n → ComesEarly parents n) (knows : KnowsTops declarations h) where
  one_found : (m n : ℕ) (p q : ClassKey) → Some m ≡ Some n → key_at h m ≡ Some p → key_at h n ≡ Some q → p ≡ q
  one_found m n p q e a b = let same : m ≡ n = inside _ _ e in inside _ _ (sym a ∙ ap (key_at h) same ∙ b)

  pub one_top_type : (of name : List ℕ) (p q : ClassKey) → HasTopMemberType declarations of name p → HasTopMemberType declarations of name q → p ≡ q
  one_top_type of name p q a b =
      let m = top_has declarations h early knows of name p a in
      let n = top_has declarations h early knows of name q b in
      one_found m.0 n.0 p q (sym (has_is declarations h early knows (top_key of) name m.0 m.2) ∙ has_is declarations h early knows (top_key of) name n.0 n.2) m.1 n.1

  pub one_in_top : (of name : List ℕ) (p q : ClassKey) → FindsInTop declarations of name p → FindsInTop declarations of name q → p ≡ q
  one_in_top of name p q a b =
      let m = in_top_found declarations h early knows of name p a in
      let n = in_top_found declarations h early knows of name q b in
      one_found m.0 n.0 p q (sym m.2 ∙ n.2) m.1 n.1

  -- what a member class names, where the member types that it is named by are one
  pub one_named : (T U : ClassKey → List ℕ → ClassKey → Type 0) → ((c : ClassKey) (n : List ℕ) (p q : ClassKey) → T c n p → U c n q → p ≡ q)
      → (outer : List ℕ) (w : Option Written) (p q : ClassKey) → MemberNames declarations T outer w p → MemberNames declarations U outer w q → p ≡ q
  one_named T U one outer None p q a b = a ∙ sym b
  one_named T U one outer (Some int) p q a b = absurd a
  one_named T U one outer (Some boolean) p q a b = absurd a
  one_named T U one outer (Some (named at None name)) p q a b = one_in_top outer name p q a b
  one_named T U one outer (Some (named at (Some left) name)) p q (c, finds, type) (d, finds', type') =
      let same = one_in_top outer left c d finds finds' in
      one d name p q (subst (λ x. T x name p) same type) type'

  one_type_within : (looks most : ℕ) (outer : Option (List ℕ)) (class name : List ℕ) (p q : ClassKey)
      → TypeWithin declarations looks (key outer class) name p → TypeWithin declarations most (key outer class) name q → p ≡ q
  one_type_within zero most outer class name p q a b = absurd a
  one_type_within (suc looks) zero outer class name p q a b = absurd b
  one_type_within (suc looks) (suc most) None class name p q (inl (none, a)) (inl (none', b)) = one_top_type class name p q a b
  one_type_within (suc looks) (suc most) None class name p q (inr a) b = absurd a
  one_type_within (suc looks) (suc most) None class name p q (inl a) (inr b) = absurd b
  one_type_within (suc looks) (suc most) (Some outer) class name p q (inl (none, a)) b = absurd cc
  one_type_within (suc looks) (suc most) (Some outer) class name p q (inr a) (inl (none, b)) = absurd cc
  one_type_within (suc looks) (suc most) (Some outer) class name p q (inr (at, r, d, names, type, shared)) (inr (at', r', d', names', type', shared')) =
      let same = one_class declarations h knows.classes (key (Some outer) class) at at' d d' in
      let parent = one_named (λ d. TypeWithin declarations looks d) (λ d. TypeWithin declarations most d) (λ c n x y. one_type_within looks most c.outer c.name n x y) outer at'.parent r r'
      (subst (λ (c : DeclaredClass). MemberNames declarations (λ d. TypeWithin declarations looks d) outer c.parent r) same names) names' in
      one_type_within looks most r'.outer r'.name name p q (subst (λ c. TypeWithin declarations looks c name p) parent type) type'

  pub one_type : (c : ClassKey) (name : List ℕ) (p q : ClassKey) → HasMemberType declarations c name p → HasMemberType declarations c name q → p ≡ q
  one_type c name p q (l, a) (m, b) = one_type_within l m c.outer c.name name p q a b

  -- superclasses of top-level classes
  one_top_named : (w : Option Written) (p q : ClassKey) → TopNames declarations w p → TopNames declarations w q → p ≡ q
  one_top_named None p q a b = a ∙ sym b
  one_top_named (Some int) p q a b = absurd a
  one_top_named (Some boolean) p q a b = absurd a
  one_top_named (Some (named at None name)) p q a b = a.0 ∙ sym b.0
  one_top_named (Some (named at (Some left) name)) p q a b = absurd a

  declared_or_not : (name : List ℕ) (at : DeclaredClass) → DeclaresClass declarations (top_key name) at → IsPreludeSubclass name → ⊥
  declared_or_not name at d sub = not_reserved declarations knows.classes.unique d.number (top_key name) (d.file, at, record { stands = d.stands }, d.is) (inr sub)

  pub one_top_parent : (name : List ℕ) (p q : ClassKey) → TopParent declarations name p → TopParent declarations name q → p ≡ q
  one_top_parent name p q (inl (at, d, a)) (inl (at', d', b)) =
      let same = one_class declarations h knows.classes (top_key name) at at' d d' in
      one_top_named at'.parent p q (subst (λ (c : DeclaredClass). TopNames declarations c.parent p) same a) b
  one_top_parent name p q (inl (at, d, a)) (inr (sub, e)) = absurd (declared_or_not name at d sub)
  one_top_parent name p q (inr (sub, e)) (inl (at, d, b)) = absurd (declared_or_not name at d sub)
  one_top_parent name p q (inr (sub, e)) (inr (sub', e')) = e ∙ sym e'

  pub one_parent : (k p q : ClassKey) → IsParent declarations k p → IsParent declarations k q → p ≡ q
  one_parent k p q (inl (none, a)) (inl (none', b)) = one_top_parent k.name p q a b
  one_parent k p q (inl (none, a)) (inr (outer, at, some, d, b)) = absurd cc
  one_parent k p q (inr (outer, at, some, d, a)) (inl (none, b)) = absurd cc
  one_parent k p q (inr (outer, at, some, d, a)) (inr (outer', at', some', d', b)) =
      let same = one_class declarations h knows.classes k at at' d d' in
      let around : outer ≡ outer' = inside _ _ (sym some ∙ some') in
      one_named (HasMemberType declarations) (HasMemberType declarations) one_type outer' at'.parent p q
      (subst (λ o. MemberNames declarations (HasMemberType declarations) o at'.parent p) around (subst (λ (c : DeclaredClass). MemberNames declarations (HasMemberType declarations) outer c.parent p) same a)) b
