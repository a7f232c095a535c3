-- Member types by numbers are member types, and those of top-level classes are all found.
use Rattle.std.proofs.Common.{◌≡◌, ℕ, zero, suc, ◌+◌, ◌<◌, ◌≤◌, List, [], ◌∷◌, length, Option, Some, None, Bool, true, false, cond, refl, sym, ap, subst, ◌∙◌, inl, inr, arith}
use Rattle.std.specs.Prelude.{slice_get, option_and_then, ◌⊎◌}
use Rattle.std.proofs.lemmas.Option.{slice_get_within}
use Rattle.jr_index.specs.Parents.{AreWithin, ComesEarly}
use Rattle.jr_table.specs.Keys.{ClassKey}
use Rattle.jr_table.specs.Prelude.{top_key, object_key}
use Rattle.jr_table.specs.DeclaredItems.{DeclaredClass, DeclaredItem}
use Rattle.jr_table.specs.Resolving.{IsDeclared, IsTopClass, TopParent, IsPrivateClass, IsPreludeSubclass, member_key, TopMemberType, HasTopMemberType, FindsInTop, HasMemberType, IsParent}
use Rattle.jr_build_hierarchy.specs.Hierarchies.{Hierarchy, key_at, parent_at, is_private_at, first_of, inner_key, own, own_at, nearest, inherited, parent_of, only_if, nearest_from, nearest_above, member_type, found_in_top}
use Rattle.jr_build_hierarchy.specs.Superclasses.{HasClasses, KnowsTops, IsParentAt, HasParent}
use Rattle.jr_build_hierarchy.proofs.ClassNumbers.{inside, same_number, number_has, number_is, number_none, is_declared, declares_class, inner_declared, top_class, top_number, private_class, class_private}
use Rattle.jr_build_hierarchy.proofs.Nearest.{Comes, comes, enough}
use Rattle.jr_build_hierarchy.proofs.Looks.{inherits, top_type, type_of_top, parent_is_top, top_eta}

-- a class has number m as a member type, which it declares or inherits
abbrev pub Inherits : Hierarchy → ClassKey → (name : List ℕ) → (m : ℕ) → Type 0
Inherits h k name m = (own h k name ≡ None) × ((p : ℕ) × (t : ℕ) × (parent_of h k ≡ Some p) × (nearest t h name p ≡ Some m) × (is_private_at h m ≡ false))

abbrev pub Has : Hierarchy → ClassKey → (name : List ℕ) → (m : ℕ) → Type 0
Has h k name m = (own h k name ≡ Some m) ⊎ Inherits h k name m

-- own classes, by whether a class is a member class
abbrev Own : Hierarchy → Option (List ℕ) → (class name : List ℕ) → Option ℕ
Own h outer class name = own h (record { outer = outer; name = class }) name

module _ (declarations : List DeclaredItem) (h : Hierarchy) (has : HasClasses declarations h) where
  own_is : (outer : Option (List ℕ)) (class name : List ℕ) (m : ℕ) → Own h outer class name ≡ Some m → (outer ≡ None) × (key_at h m ≡ Some (inner_key class name))
  own_is None class name m e = (refl, number_has declarations h has (inner_key class name) m e)
  own_is (Some outer) class name m e = absurd cc

  pub own_key : (k : ClassKey) (name : List ℕ) (m : ℕ) → own h k name ≡ Some m → (k.outer ≡ None) × (key_at h m ≡ Some (inner_key k.name name))
  own_key k name m e = own_is k.outer k.name name m e

  own_from : (outer : Option (List ℕ)) (class name : List ℕ) (m : ℕ) → outer ≡ None → key_at h m ≡ Some (inner_key class name) → Own h outer class name ≡ Some m
  own_from None class name m none e = number_is declarations h has (inner_key class name) m e
  own_from (Some outer) class name m none e = absurd cc

  pub own_of : (k : ClassKey) (name : List ℕ) (m : ℕ) → k.outer ≡ None → key_at h m ≡ Some (inner_key k.name name) → own h k name ≡ Some m
  own_of k name m none e = own_from k.outer k.name name m none e

  pub own_sound : (k : ClassKey) (name : List ℕ) (m : ℕ) (q : ClassKey) → own h k name ≡ Some m → key_at h m ≡ Some q → HasMemberType declarations k name q
  own_sound k name m q e is =
      let o = own_key k name m e in
      let same : q ≡ inner_key k.name name = inside _ _ (sym is ∙ o.1) in
      let d = declares_class declarations h has m q (inner_declared declarations h has m q k.name is (ap (λ (x : ClassKey). x.outer) same)) in
      top_type declarations k name q o.0 (0, (same, d))

  -- a class that declares none
  pub own_none : (k : ClassKey) (name : List ℕ) → own h k name ≡ None → k.outer ≡ None → IsDeclared declarations (member_key declarations k.name name) → ⊥
  own_none k name e none d =
      let j = is_declared declarations h has (member_key declarations k.name name) d in
      let f = own_of k name j.0 none j.1 in
      absurd cc

  -- one key of a number
  pub at_key : (j : ℕ) (k : ClassKey) (name : List ℕ) → key_at h j ≡ Some k → own_at h name j ≡ own h k name
  at_key j k name e = ap (option_and_then (λ x. own h x name)) e

  found_own : (o : Option ClassKey) (name : List ℕ) (m : ℕ) → option_and_then (λ k. own h k name) o ≡ Some m → (q : ClassKey) × (key_at h m ≡ Some q)
  found_own None name m e = absurd cc
  found_own (Some k) name m e = (inner_key k.name name, (own_key k name m e).1)

  -- what is found is a class
  pub nearest_key : (t : ℕ) (name : List ℕ) (j m : ℕ) → nearest t h name j ≡ Some m → (q : ClassKey) × (key_at h m ≡ Some q)
  nearest_key t name j m e = let c = comes h name t j m e in found_own (key_at h c.2.at) name m c.2.declares

  found_inner : (o : Option ClassKey) (name : List ℕ) (m : ℕ) → option_and_then (λ k. own h k name) o ≡ Some m → h.inner name ≡ None → ⊥
  found_inner None name m e none = absurd cc
  found_inner (Some k) name m e none = has.inner m k.name name (own_key k name m e).1 none

  -- what is found is looked for
  pub looked_for : (t : ℕ) (name : List ℕ) (p m : ℕ) → nearest t h name p ≡ Some m → (o : Option ℕ) → nearest_from h name o ≡ Some m → nearest_above h name o ≡ Some m
  looked_for t name p m e o f = by (h.inner name) refl
    where
      by : (i : Option ℕ) → h.inner name ≡ i → nearest_above h name o ≡ Some m
      by None none = let c = comes h name t p m e in absurd (found_inner (key_at h c.2.at) name m c.2.declares none)
      by (Some x) some = ap (λ i. only_if i (nearest_from h name o)) some ∙ f

  open_class : (m : ℕ) (q : ClassKey) → key_at h m ≡ Some q → is_private_at h m ≡ false → IsPrivateClass declarations q → ⊥
  open_class m q is none private = let t = class_private declarations h has m q is private in absurd cc

  pub is_open : (m : ℕ) (q : ClassKey) → key_at h m ≡ Some q → (IsPrivateClass declarations q → ⊥) → is_private_at h m ≡ false
  is_open m q is none = by (is_private_at h m) refl
    where
      by : (b : Bool) → is_private_at h m ≡ b → is_private_at h m ≡ false
      by true e = absurd (none (private_class declarations h has m q is e))
      by false e = e

  -- a class and its superclass
  pub of_parent : (k : ClassKey) (p : ℕ) → parent_of h k ≡ Some p → (j : ℕ) × (key_at h j ≡ Some k) × (parent_at h j ≡ Some p)
  of_parent k p e = by (h.number k) refl e
    where
      by : (o : Option ℕ) → h.number k ≡ o → option_and_then (λ j. parent_at h j) o ≡ Some p → (j : ℕ) × (key_at h j ≡ Some k) × (parent_at h j ≡ Some p)
      by None n e = absurd cc
      by (Some j) n e = (j, number_has declarations h has k j n, e)

  pub parent_from : (j : ℕ) (k : ClassKey) → key_at h j ≡ Some k → parent_of h k ≡ parent_at h j
  parent_from j k e = ap (option_and_then (λ i. parent_at h i)) (number_is declarations h has k j e)

  -- a class's member types are found on the way upwards to it
  pub on_way : (j : ℕ) (k : ClassKey) (name : List ℕ) (m : ℕ) → key_at h j ≡ Some k → Has h k name m → (t : ℕ) × (nearest t h name j ≡ Some m)
  unfolding nearest
  on_way j k name m is (inl e) = (1, ap (λ o. first_of o (option_and_then (λ p. nearest 0 h name p) (parent_at h j))) (at_key j k name is ∙ e))
  on_way j k name m is (inr (none, (p, t, parent, found, shared))) =
      (suc t, (λ i. first_of ((at_key j k name is ∙ none) i) (option_and_then (λ q. nearest t h name q) ((sym (parent_from j k is) ∙ parent) i))) ∙ found)

module _ (declarations : List DeclaredItem) (h : Hierarchy) (early : (parents : List (Option ℕ)) (n : ℕ) → AreWithin parents n → ComesEarly parents n) (knows : KnowsTops declarations h) where
  has : HasClasses declarations h
  has = knows.classes

  pub below : (j : ℕ) (k : ClassKey) → key_at h j ≡ Some k → j < length h.keys
  below j k e = by (slice_get h.keys j) refl e
    where
      by : (o : Option (Option ClassKey)) → slice_get h.keys j ≡ o → option_and_then (λ x. x) o ≡ Some k → j < length h.keys
      by None f e = absurd cc
      by (Some x) f e = slice_get_within h.keys j x f

  pub within_keys : AreWithin h.parents (length h.keys)
  within_keys j p e = let k = knows.each j p e in below p k.parent k.is_parent

  -- so many turns are enough
  pub all_turns : (t : ℕ) (name : List ℕ) (j m : ℕ) (k : ClassKey) → key_at h j ≡ Some k → nearest t h name j ≡ Some m → nearest (length h.keys) h name j ≡ Some m
  all_turns t name j m k is e = enough h name (length h.keys) (early h.parents (length h.keys) within_keys) t j m (below j k is) e

  pub has_is : (k : ClassKey) (name : List ℕ) (m : ℕ) → Has h k name m → member_type h k name ≡ Some m
  has_is k name m (inl e) = ap (λ o. first_of o (inherited h (nearest_above h name (parent_of h k)))) e
  has_is k name m (inr (none, (p, t, parent, found, shared))) =
      let j = of_parent declarations h knows.classes k p parent in
      let at = knows.each j.0 p j.2 in
      let f = all_turns t name p m at.parent at.is_parent found in
      let above : nearest_above h name (parent_of h k) ≡ Some m = looked_for declarations h knows.classes t name p m found (parent_of h k) (ap (nearest_from h name) parent ∙ f) in
      (λ i. first_of (none i) (inherited h (above i))) ∙ ap (λ b. cond b None (Some m)) shared

  pub is_has : (k : ClassKey) (name : List ℕ) (m : ℕ) → member_type h k name ≡ Some m → Has h k name m
  is_has k name m e = by (own h k name) refl (h.inner name) (parent_of h k) refl e
    where
      kept : (x : ℕ) (b : Bool) → is_private_at h x ≡ b → inherited h (Some x) ≡ Some m → (x ≡ m) × (is_private_at h m ≡ false)
      kept x true p e = let f : inherited h (Some x) ≡ None = ap (λ b. cond b None (Some x)) p in absurd cc
      kept x false p e =
          let f : inherited h (Some x) ≡ Some x = ap (λ b. cond b None (Some x)) p in
          let same : x ≡ m = inside _ _ (sym f ∙ e) in
          (same, ap (is_private_at h) (sym same) ∙ p)

      above : (p : ℕ) (n : Option ℕ) → nearest (length h.keys) h name p ≡ n → inherited h n ≡ Some m → (t : ℕ) × (nearest t h name p ≡ Some m) × (is_private_at h m ≡ false)
      above p None f e = absurd cc
      above p (Some x) f e =
          let r = kept x (is_private_at h x) refl e in
          (length h.keys, f ∙ ap Some r.0, r.1)

      by : (o : Option ℕ) → own h k name ≡ o → (i p : Option ℕ) → parent_of h k ≡ p → first_of o (inherited h (only_if i (nearest_from h name p))) ≡ Some m → Has h k name m
      by (Some x) o i p g e = inl (o ∙ e)
      by None o None p g e = absurd cc
      by None o (Some x) None g e = absurd cc
      by None o (Some x) (Some p) g e = let a = above p (nearest (length h.keys) h name p) refl e in inr (o, (p, a.0, g, a.1, a.2))

  pub member_key_of : (k : ClassKey) (name : List ℕ) (m : ℕ) → member_type h k name ≡ Some m → (q : ClassKey) × (key_at h m ≡ Some q)
  member_key_of k name m e = by (is_has k name m e)
    where
      by : Has h k name m → (q : ClassKey) × (key_at h m ≡ Some q)
      by (inl o) = (inner_key k.name name, (own_key declarations h knows.classes k name m o).1)
      by (inr (none, (p, t, parent, found, shared))) = nearest_key declarations h knows.classes t name p m found

  -- what is found is a member type
  nearest_sound : (t : ℕ) (name : List ℕ) (j : ℕ) (k : ClassKey) (m : ℕ) (q : ClassKey) → key_at h j ≡ Some k → key_at h m ≡ Some q → (IsPrivateClass declarations q → ⊥)
      → nearest t h name j ≡ Some m → HasMemberType declarations k name q
  unfolding nearest
  nearest_sound zero name j k m q is mine shared e = absurd cc
  nearest_sound (suc t) name j k m q is mine shared e = by (own h k name) refl (parent_at h j) refl
      (ap (λ o. first_of o (option_and_then (λ p. nearest t h name p) (parent_at h j))) (sym (at_key declarations h knows.classes j k name is)) ∙ e) (nearest_sound t name)
    where
      by : (o : Option ℕ) → own h k name ≡ o → (p : Option ℕ) → parent_at h j ≡ p → first_of o (option_and_then (λ x. nearest t h name x) p) ≡ Some m
          → ((j : ℕ) (k : ClassKey) (m : ℕ) (q : ClassKey) → key_at h j ≡ Some k → key_at h m ≡ Some q → (IsPrivateClass declarations q → ⊥) → nearest t h name j ≡ Some m → HasMemberType declarations k name q)
          → HasMemberType declarations k name q
      by (Some x) o p g e more = own_sound declarations h knows.classes k name m q (o ∙ e) mine
      by None o None g e more = absurd cc
      by None o (Some p) g e more =
          let at = knows.each j p g in
          let same : at.class ≡ k = inside _ _ (sym at.is_class ∙ is) in
          inherits declarations k at.parent name q (subst (λ c. IsParent declarations c at.parent) same at.extends) (more p at.parent m q at.is_parent mine shared e) shared
          (own_none declarations h knows.classes k name o)

  pub has_sound : (k : ClassKey) (name : List ℕ) (m : ℕ) (q : ClassKey) → Has h k name m → key_at h m ≡ Some q → HasMemberType declarations k name q
  has_sound k name m q (inl e) mine = own_sound declarations h knows.classes k name m q e mine
  has_sound k name m q (inr (none, (p, t, parent, found, shared))) mine =
      let j = of_parent declarations h knows.classes k p parent in
      let at = knows.each j.0 p j.2 in
      let same : at.class ≡ k = inside _ _ (sym at.is_class ∙ j.1) in
      let is_shared = open_class declarations h knows.classes m q mine shared in
      inherits declarations k at.parent name q (subst (λ c. IsParent declarations c at.parent) same at.extends) (nearest_sound t name p at.parent m q at.is_parent mine is_shared found) is_shared
      (own_none declarations h knows.classes k name none)

  pub member_sound : (k : ClassKey) (name : List ℕ) (m : ℕ) (q : ClassKey) → member_type h k name ≡ Some m → key_at h m ≡ Some q → HasMemberType declarations k name q
  member_sound k name m q e mine = has_sound k name m q (is_has k name m e) mine

  -- top-level classes

  -- a class that a superclass is known of has a number
  pub top_stands : (name : List ℕ) (p : ClassKey) → TopParent declarations name p → (j : ℕ) × (key_at h j ≡ Some (top_key name))
  top_stands name p (inl (at, d, names)) = is_declared declarations h knows.classes (top_key name) (at, d)
  top_stands name p (inr (sub, e)) = top_number declarations h knows.classes name (inr (inr sub))

  top_complete : (up : ℕ) (of name : List ℕ) (q : ClassKey) → TopMemberType declarations up of name q → (m : ℕ) × (key_at h m ≡ Some q) × Has h (top_key of) name m
  top_complete zero of name q (same, d) =
      let j = is_declared declarations h knows.classes q d in
      (j.0, j.1, inl (own_of declarations h knows.classes (top_key of) name j.0 refl (j.1 ∙ ap Some same)))
  top_complete (suc up) of name q (p, parent, rest, shared, hides) =
      let r = top_complete up p name q rest in
      let j = top_stands of (top_key p) parent in
      let a = knows.tops j.0 of (top_key p) j.1 parent in
      let w = on_way declarations h knows.classes a.number (top_key p) name r.0 a.is r.2 in (
        r.0,
        r.1,
        inr (
          none (own h (top_key of) name) refl,
          (a.number, w.0, parent_from declarations h knows.classes j.0 (top_key of) j.1 ∙ a.known, w.1, is_open declarations h knows.classes r.0 q r.1 shared),
        ),
      )
    where
      none : (o : Option ℕ) → own h (top_key of) name ≡ o → own h (top_key of) name ≡ None
      none None e = e
      none (Some m) e =
          let k = own_key declarations h knows.classes (top_key of) name m e in
          absurd (hides (declares_class declarations h knows.classes m (inner_key of name) (inner_declared declarations h knows.classes m (inner_key of name) of k.1 refl)))

  pub top_has : (of name : List ℕ) (q : ClassKey) → HasTopMemberType declarations of name q → (m : ℕ) × (key_at h m ≡ Some q) × Has h (top_key of) name m
  top_has of name q (up, type) = top_complete up of name q type

  pub top_sound : (of name : List ℕ) (m : ℕ) (q : ClassKey) → member_type h (top_key of) name ≡ Some m → key_at h m ≡ Some q → HasTopMemberType declarations of name q
  top_sound of name m q e is = type_of_top declarations (top_key of) name q refl (member_sound (top_key of) name m q e is)

  -- none is found
  top_none : (of name : List ℕ) → member_type h (top_key of) name ≡ None → (r : ClassKey) → HasTopMemberType declarations of name r → ⊥
  top_none of name e r type =
      let m = top_has of name r type in
      let f = has_is (top_key of) name m.0 m.2 in
      absurd cc

  -- simple names in a top-level class
  pub in_top_found : (of name : List ℕ) (q : ClassKey) → FindsInTop declarations of name q → (m : ℕ) × (key_at h m ≡ Some q) × (found_in_top h of name ≡ Some m)
  in_top_found of name q (inl type) =
      let m = top_has of name q type in
      (m.0, m.1, ap (λ o. first_of o (h.number (top_key name))) (has_is (top_key of) name m.0 m.2))
  in_top_found of name q (inr (none, same, top)) =
      let j = top_number declarations h knows.classes name top in
      (j.0, j.1 ∙ ap Some (sym same), by (member_type h (top_key of) name) refl j.0 (number_is declarations h knows.classes (top_key name) j.0 j.1))
    where
      by : (o : Option ℕ) → member_type h (top_key of) name ≡ o → (j : ℕ) → h.number (top_key name) ≡ Some j → found_in_top h of name ≡ Some j
      by None e j f = ap (λ o. first_of o (h.number (top_key name))) e ∙ f
      by (Some m) e j f =
          let k = member_key_of (top_key of) name m e in
          absurd (none k.0 (top_sound of name m k.0 e k.1))

  pub found_in_top_is : (of name : List ℕ) (m : ℕ) → found_in_top h of name ≡ Some m → (q : ClassKey) × (key_at h m ≡ Some q) × FindsInTop declarations of name q
  found_in_top_is of name m e = by (member_type h (top_key of) name) refl e
    where
      by : (o : Option ℕ) → member_type h (top_key of) name ≡ o → first_of o (h.number (top_key name)) ≡ Some m → (q : ClassKey) × (key_at h m ≡ Some q) × FindsInTop declarations of name q
      by (Some x) f e =
          let is = f ∙ e in
          let k = member_key_of (top_key of) name m is in
          (k.0, k.1, inl (top_sound of name m k.0 is k.1))
      by None f e =
          let k = number_has declarations h knows.classes (top_key name) m e in
          (top_key name, k, inr (top_none of name f, refl, top_class declarations h knows.classes m name k))
