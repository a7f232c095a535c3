-- More looks find no less, and what is inherited is a member type.
use Rattle.std.proofs.Common.{◌≡◌, ℕ, zero, suc, ◌+◌, ◌<◌, ◌≤◌, List, [], ◌∷◌, Option, Some, None, refl, sym, ap, subst, ◌∙◌, inl, inr, arith}
use Rattle.std.specs.Prelude.{slice_get, ◌⊎◌}
use Rattle.jr_table.specs.Keys.{ClassKey}
use Rattle.jr_table.specs.Prelude.{top_key, object_key}
use Rattle.jr_table.specs.DeclaredItems.{Written, int, boolean, named, DeclaredClass, DeclaredItem}
use Rattle.jr_table.specs.Resolving.{DeclaresClass, IsDeclared, IsTopClass, TopParent, TopNames, IsPrivateClass, member_key, HasTopMemberType, FindsInTop, MemberNames, TypeWithin, HasMemberType, IsParent}

abbrev pub key : Option (List ℕ) → List ℕ → ClassKey
key outer name = record { outer = outer; name = name }

module _ (declarations : List DeclaredItem) where
  -- what a member class names, whatever is meant by member types
  pub names_so : (T U : ClassKey → List ℕ → ClassKey → Type 0) → ((c : ClassKey) (n : List ℕ) (q : ClassKey) → T c n q → U c n q)
      → (outer : List ℕ) (w : Option Written) (p : ClassKey) → MemberNames declarations T outer w p → MemberNames declarations U outer w p
  names_so T U f outer None p h = h
  names_so T U f outer (Some int) p h = absurd h
  names_so T U f outer (Some boolean) p h = absurd h
  names_so T U f outer (Some (named at None name)) p h = h
  names_so T U f outer (Some (named at (Some left) name)) p (c, finds, type) = (c, finds, f c name p type)

  one_more : (looks : ℕ) (outer : Option (List ℕ)) (class name : List ℕ) (q : ClassKey)
      → TypeWithin declarations looks (key outer class) name q → TypeWithin declarations (suc looks) (key outer class) name q
  one_more zero outer class name q h = absurd h
  one_more (suc looks) None class name q (inl top) = inl top
  one_more (suc looks) None class name q (inr h) = absurd h
  one_more (suc looks) (Some outer) class name q (inl (none, top)) = absurd cc
  one_more (suc looks) (Some outer) class name q (inr (at, p, d, names, rest, shared)) =
      inr (
        at,
        p,
        d,
        names_so (λ d. TypeWithin declarations looks d) (λ d. TypeWithin declarations (suc looks) d) (λ c n r. one_more looks c.outer c.name n r) outer at.parent p names,
        one_more looks p.outer p.name name q rest,
        shared,
      )

  order : (a b : ℕ) → a ≤ suc b → (a ≤ b) ⊎ (a ≡ suc b)
  order a b h = grind arith

  pub looks_more : (most looks : ℕ) (c : ClassKey) (name : List ℕ) (q : ClassKey) → looks ≤ most → TypeWithin declarations looks c name q → TypeWithin declarations most c name q
  looks_more zero looks c name q le h = let e : looks ≡ 0 = omega (arith, le) in subst (λ n. TypeWithin declarations n c name q) e h
  looks_more (suc most) looks c name q le h = by (order looks most le) (looks_more most looks c name q)
    where
      by : ((looks ≤ most) ⊎ (looks ≡ suc most)) → (looks ≤ most → TypeWithin declarations looks c name q → TypeWithin declarations most c name q) → TypeWithin declarations (suc most) c name q
      by (inl l) more = one_more most c.outer c.name name q (more l h)
      by (inr e) more = subst (λ n. TypeWithin declarations n c name q) e h

  -- of a top-level class
  pub top_type : (c : ClassKey) (name : List ℕ) (q : ClassKey) → c.outer ≡ None → HasTopMemberType declarations c.name name q → HasMemberType declarations c name q
  top_type c name q none h = (1, inl (none, h))

  within_top : (looks : ℕ) (outer : Option (List ℕ)) (class name : List ℕ) (q : ClassKey) → outer ≡ None → TypeWithin declarations looks (key outer class) name q → HasTopMemberType declarations class name q
  within_top zero outer class name q none h = absurd h
  within_top (suc looks) None class name q none (inl (e, top)) = top
  within_top (suc looks) None class name q none (inr h) = absurd h
  within_top (suc looks) (Some outer) class name q none h = absurd cc

  pub type_of_top : (c : ClassKey) (name : List ℕ) (q : ClassKey) → c.outer ≡ None → HasMemberType declarations c name q → HasTopMemberType declarations c.name name q
  type_of_top c name q none (looks, h) = within_top looks c.outer c.name name q none h

  -- of a member class
  names_within : (outer : List ℕ) (w : Option Written) (p : ClassKey) → MemberNames declarations (HasMemberType declarations) outer w p → (looks : ℕ) × MemberNames declarations (λ d. TypeWithin declarations looks d) outer w p
  names_within outer None p h = (0, h)
  names_within outer (Some int) p h = absurd h
  names_within outer (Some boolean) p h = absurd h
  names_within outer (Some (named at None name)) p h = (0, h)
  names_within outer (Some (named at (Some left) name)) p (c, finds, (looks, type)) = (looks, (c, finds, type))

  inner_within : (outer : Option (List ℕ)) (class around : List ℕ) (looks : ℕ) (at : DeclaredClass) (p : ClassKey) (name : List ℕ) (q : ClassKey) → outer ≡ Some around
      → DeclaresClass declarations (key outer class) at → MemberNames declarations (λ d. TypeWithin declarations looks d) around at.parent p → TypeWithin declarations looks p name q
      → (IsPrivateClass declarations q → ⊥) → TypeWithin declarations (suc looks) (key outer class) name q
  inner_within None class around looks at p name q e d names type shared = absurd cc
  inner_within (Some outer) class around looks at p name q e d names type shared =
      let same : around ≡ outer = cc in
      inr (at, p, d, subst (λ o. MemberNames declarations (λ d. TypeWithin declarations looks d) o at.parent p) same names, type, shared)

  pub inner_type : (c : ClassKey) (outer : List ℕ) (at : DeclaredClass) (p : ClassKey) (name : List ℕ) (q : ClassKey) → c.outer ≡ Some outer → DeclaresClass declarations c at
      → MemberNames declarations (HasMemberType declarations) outer at.parent p → HasMemberType declarations p name q → (IsPrivateClass declarations q → ⊥) → HasMemberType declarations c name q
  inner_type c outer at p name q e d names (l, type) shared =
      let n = names_within outer at.parent p names in
      let m = n.0 + l in
      let names' = names_so (λ d. TypeWithin declarations n.0 d) (λ d. TypeWithin declarations m d) (λ c k r. looks_more m n.0 c k r (omega arith)) outer at.parent p n.1 in
      let type' = looks_more m l p name q (omega arith) type in
      (suc m, inner_within c.outer c.name outer m at p name q e d names' type' shared)

  -- a superclass of a top-level class is a top-level class
  names_top : (w : Option Written) (p : ClassKey) → TopNames declarations w p → p.outer ≡ None
  names_top None p h = ap (λ (k : ClassKey). k.outer) h
  names_top (Some int) p h = absurd h
  names_top (Some boolean) p h = absurd h
  names_top (Some (named at None name)) p h = ap (λ (k : ClassKey). k.outer) h.0
  names_top (Some (named at (Some left) name)) p h = absurd h

  pub parent_is_top : (name : List ℕ) (p : ClassKey) → TopParent declarations name p → p.outer ≡ None
  parent_is_top name p (inl (at, d, names)) = names_top at.parent p names
  parent_is_top name p (inr (sub, e)) = ap (λ (k : ClassKey). k.outer) e

  pub top_eta : (k : ClassKey) → k.outer ≡ None → k ≡ top_key k.name
  top_eta k e = λ i. record { outer = e i; name = k.name }

  -- what a superclass hands down
  pub inherits : (k p : ClassKey) (name : List ℕ) (q : ClassKey) → IsParent declarations k p → HasMemberType declarations p name q → (IsPrivateClass declarations q → ⊥)
      → (k.outer ≡ None → IsDeclared declarations (member_key declarations k.name name) → ⊥) → HasMemberType declarations k name q
  inherits k p name q (inl (none, parent)) type shared hides =
      let top = parent_is_top k.name p parent in
      let t = type_of_top p name q top type in
      top_type k name q none (suc t.0, (p.name, subst (TopParent declarations k.name) (top_eta p top) parent, t.1, shared, hides none))
  inherits k p name q (inr (outer, at, some, d, names)) type shared hides = inner_type k outer at p name q some d names type shared
