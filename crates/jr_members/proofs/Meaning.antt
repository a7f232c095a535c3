-- Where each class is declared once and none has a name of the prelude, a written type means one
-- type.
use Rattle.std.proofs.Common.{◌≡◌, ℕ, zero, suc, List, [], ◌∷◌, Option, Some, None, refl, sym, ap, subst, ◌∙◌, inl, inr}
use Rattle.jr_table.specs.Keys.{ClassKey, Ty, class}
use Rattle.jr_table.specs.Prelude.{top_key}
use Rattle.jr_table.specs.DeclaredItems.{Written, int, boolean, named, DeclaredParam, DeclaredClass, DeclaredItem}
use Rattle.jr_table.specs.Resolving.{DeclaresClass, IsDeclared, IsPreludeSubclass, TopParent, TopNames, TopMemberType, HasTopMemberType, FindsInTop, MemberNames, TypeWithin, HasMemberType, FindsAround, FindsType, Means}
use Rattle.jr_table.specs.ProgramRows.{MeanTypes}

abbrev pub OneClass : List DeclaredItem → Type 0
OneClass declarations = (k : ClassKey) (c d : DeclaredClass) → DeclaresClass declarations k c → DeclaresClass declarations k d → c ≡ d

abbrev pub Unreserved : List DeclaredItem → Type 0
Unreserved declarations = (name : List ℕ) (c : DeclaredClass) → DeclaresClass declarations (top_key name) c → IsPreludeSubclass name → ⊥

abbrev key : Option (List ℕ) → List ℕ → ClassKey
key outer name = record { outer = outer; name = name }

inside : {X : Type 0} (x y : X) → Some x ≡ Some y → x ≡ y
inside x y e = cc

module _ (declarations : List DeclaredItem) (one_class : OneClass declarations) (unreserved : Unreserved declarations) where
  -- superclasses of top-level classes
  one_top_named : (w : Option Written) (p q : ClassKey) → TopNames declarations w p → TopNames declarations w q → p ≡ q
  one_top_named None p q a b = a ∙ sym b
  one_top_named (Some int) p q a b = absurd a
  one_top_named (Some boolean) p q a b = absurd a
  one_top_named (Some (named at None name)) p q a b = a.0 ∙ sym b.0
  one_top_named (Some (named at (Some left) name)) p q a b = absurd a

  one_top_parent : (name : List ℕ) (p q : ClassKey) → TopParent declarations name p → TopParent declarations name q → p ≡ q
  one_top_parent name p q (inl (at, d, a)) (inl (at', d', b)) =
      let same = one_class (top_key name) at at' d d' in
      one_top_named at'.parent p q (subst (λ (c : DeclaredClass). TopNames declarations c.parent p) same a) b
  one_top_parent name p q (inl (at, d, a)) (inr (sub, e)) = absurd (unreserved name at d sub)
  one_top_parent name p q (inr (sub, e)) (inl (at, d, b)) = absurd (unreserved name at d sub)
  one_top_parent name p q (inr (sub, e)) (inr (sub', e')) = e ∙ sym e'

  -- member types of top-level classes
  one_up : (up most : ℕ) (of name : List ℕ) (p q : ClassKey) → TopMemberType declarations up of name p → TopMemberType declarations most of name q → p ≡ q
  one_up zero zero of name p q a b = a.0 ∙ sym b.0
  one_up zero (suc most) of name p q a (r, parent, rest, shared, hides) = absurd (hides (subst (IsDeclared declarations) a.0 a.1))
  one_up (suc up) zero of name p q (r, parent, rest, shared, hides) b = absurd (hides (subst (IsDeclared declarations) b.0 b.1))
  one_up (suc up) (suc most) of name p q (r, parent, rest, shared, hides) (r', parent', rest', shared', hides') =
      let same : r ≡ r' = ap (λ (k : ClassKey). k.name) (one_top_parent of (top_key r) (top_key r') parent parent') in
      one_up up most r' name p q (subst (λ x. TopMemberType declarations up x name p) same rest) rest'

  one_top_type : (of name : List ℕ) (p q : ClassKey) → HasTopMemberType declarations of name p → HasTopMemberType declarations of name q → p ≡ q
  one_top_type of name p q (l, a) (m, b) = one_up l m of name p q a b

  one_in_top : (of name : List ℕ) (p q : ClassKey) → FindsInTop declarations of name p → FindsInTop declarations of name q → p ≡ q
  one_in_top of name p q (inl a) (inl b) = one_top_type of name p q a b
  one_in_top of name p q (inl a) (inr (none, e, top)) = absurd (none p a)
  one_in_top of name p q (inr (none, e, top)) (inl b) = absurd (none q b)
  one_in_top of name p q (inr (none, e, top)) (inr (none', e', top')) = e ∙ sym e'

  -- what a member class names, where the member types that it is named by are one
  one_named : (T U : ClassKey → List ℕ → ClassKey → Type 0) → ((c : ClassKey) (n : List ℕ) (p q : ClassKey) → T c n p → U c n q → p ≡ q)
      → (outer : List ℕ) (w : Option Written) (p q : ClassKey) → MemberNames declarations T outer w p → MemberNames declarations U outer w q → p ≡ q
  one_named T U one outer None p q a b = a ∙ sym b
  one_named T U one outer (Some int) p q a b = absurd a
  one_named T U one outer (Some boolean) p q a b = absurd a
  one_named T U one outer (Some (named at None name)) p q a b = one_in_top outer name p q a b
  one_named T U one outer (Some (named at (Some left) name)) p q (c, finds, type) (d, finds', type') =
      let same = one_in_top outer left c d finds finds' in
      one d name p q (subst (λ x. T x name p) same type) type'

  one_type_within : (looks most : ℕ) (outer : Option (List ℕ)) (of name : List ℕ) (p q : ClassKey)
      → TypeWithin declarations looks (key outer of) name p → TypeWithin declarations most (key outer of) name q → p ≡ q
  one_type_within zero most outer of name p q a b = absurd a
  one_type_within (suc looks) zero outer of name p q a b = absurd b
  one_type_within (suc looks) (suc most) None of name p q (inl (none, a)) (inl (none', b)) = one_top_type of name p q a b
  one_type_within (suc looks) (suc most) None of name p q (inr a) b = absurd a
  one_type_within (suc looks) (suc most) None of name p q (inl a) (inr b) = absurd b
  one_type_within (suc looks) (suc most) (Some outer) of name p q (inl (none, a)) b = absurd cc
  one_type_within (suc looks) (suc most) (Some outer) of name p q (inr a) (inl (none, b)) = absurd cc
  one_type_within (suc looks) (suc most) (Some outer) of name p q (inr (at, r, d, names, type, shared)) (inr (at', r', d', names', type', shared')) =
      let same = one_class (key (Some outer) of) at at' d d' in
      let parent = one_named (λ d. TypeWithin declarations looks d) (λ d. TypeWithin declarations most d) (λ c n x y. one_type_within looks most c.outer c.name n x y) outer at'.parent r r'
      (subst (λ (c : DeclaredClass). MemberNames declarations (λ d. TypeWithin declarations looks d) outer c.parent r) same names) names' in
      one_type_within looks most r'.outer r'.name name p q (subst (λ c. TypeWithin declarations looks c name p) parent type) type'

  one_type : (c : ClassKey) (name : List ℕ) (p q : ClassKey) → HasMemberType declarations c name p → HasMemberType declarations c name q → p ≡ q
  one_type c name p q (l, a) (m, b) = one_type_within l m c.outer c.name name p q a b

  one_around : (outer : Option (List ℕ)) (name : List ℕ) (p q : ClassKey) → FindsAround declarations outer name p → FindsAround declarations outer name q → p ≡ q
  one_around None name p q a b = a.0 ∙ sym b.0
  one_around (Some outer) name p q a b = one_in_top outer name p q a b

  one_found : (c : ClassKey) (name : List ℕ) (p q : ClassKey) → FindsType declarations c name p → FindsType declarations c name q → p ≡ q
  one_found c name p q (inl a) (inl b) = one_type c name p q a b
  one_found c name p q (inl a) (inr (none, b)) = absurd (none p a)
  one_found c name p q (inr (none, a)) (inl b) = absurd (none q b)
  one_found c name p q (inr (none, a)) (inr (none', b)) = one_around c.outer name p q a b

  pub one_meaning : (c : ClassKey) (w : Written) (t u : Ty) → Means declarations c w t → Means declarations c w u → t ≡ u
  one_meaning c int t u a b = a ∙ sym b
  one_meaning c boolean t u a b = a ∙ sym b
  one_meaning c (named at None name) t u (p, e, a) (q, f, b) = e ∙ ap class (one_found c name p q a b) ∙ sym f
  one_meaning c (named at (Some left) name) t u (o, p, e, outer, a) (o', q, f, outer', b) =
      let same = one_found c left o o' outer outer' in
      e ∙ ap class (one_type o' name p q (subst (λ x. HasMemberType declarations x name p) same a) b) ∙ sym f

  pub one_meanings : (c : ClassKey) (ps : List DeclaredParam) (ts us : List Ty) → MeanTypes declarations c ps ts → MeanTypes declarations c ps us → ts ≡ us
  one_meanings c [] [] [] a b = refl
  one_meanings c [] [] (u ∷ us) a b = absurd b
  one_meanings c [] (t ∷ ts) us a b = absurd a
  one_meanings c (p ∷ ps) [] us a b = absurd a
  one_meanings c (p ∷ ps) (t ∷ ts) [] a b = absurd b
  one_meanings c (p ∷ ps) (t ∷ ts) (u ∷ us) a b = (λ i. one_meaning c p.type t u a.0 b.0 i ∷ one_meanings c ps ts us a.1 b.1 i)
