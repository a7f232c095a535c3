-- A member that is written, and what holds of it: one place and tree that have the property.
use Rattle.std.proofs.Common.{◌≡◌, ℕ, zero, suc, List, [], ◌∷◌, Option, Some, None, refl, sym, subst, inl, inr}
use Rattle.std.specs.Prelude.{slice_get}
use Rattle.jr_ast.specs.MemberTree as syntax
use Rattle.jr_table.specs.Keys.{ClassKey}
use Rattle.jr_table.specs.Decls.{MemberKey}
use Rattle.jr_table.specs.DeclaredItems.{DeclaredItem, declarations_of, class_key}
use Rattle.jr_table.specs.Errors.{Part, class_part, member_part, InClass, InMembers, InInner, InClasses, InUnits}
use Rattle.jr_members.specs.WrittenLaws.{IsWritten}

module _ {A : Type 0} where
  -- a property of one place and tree
  abbrev pub IsAt : (base : ℕ) → Part A → MemberKey → (b : ℕ) → Part A → Type 0
  IsAt base part k b p = (b ≡ base) × (p ≡ part)

  -- the place and the tree of a member that has a property
  pub record Found (P : MemberKey → (base : ℕ) → Part A → Type 0) (In : (MemberKey → (base : ℕ) → Part A → Type 0) → Type 0) (k : MemberKey) : Type 0 where
    pub base : ℕ
    pub part : Part A
    pub there : In (IsAt base part)
    pub has : P k base part

module _ {A : Type 0} (begins : A → ℕ → ℕ) (declarations : List DeclaredItem) (P : MemberKey → (base : ℕ) → Part A → Type 0) where
  mutual
    unfolding InClass InMembers InInner

    pub class_found : (base : ℕ) (outer : Option (List ℕ)) (c : syntax.Class A) (k : MemberKey) → InClass begins declarations P base outer c k → Found P (λ Q. InClass begins declarations Q base outer c k) k
    class_found base outer (syntax.class m mods w t ms) k (inl h) =
        record { base = base; part = class_part (syntax.class m mods w t ms); there = inl (h.0, (refl, refl)); has = h.1 }
    class_found base outer (syntax.class m mods w t ms) k (inr h) =
        let f = members_found (begins m base) (class_key begins outer w.text) ms k h in
        record { base = f.base; part = f.part; there = inr f.there; has = f.has }

    members_found : (base : ℕ) (of : ClassKey) (xs : syntax.Members A) (k : MemberKey) → InMembers begins declarations P base of xs k → Found P (λ Q. InMembers begins declarations Q base of xs k) k
    members_found base of syntax.end k h = absurd h
    members_found base of (syntax.more x xs) k (inl (inl h)) = record { base = base; part = member_part x; there = inl (inl (h.0, (refl, refl))); has = h.1 }
    members_found base of (syntax.more x xs) k (inl (inr h)) =
        let f = inner_found base of x k h in
        record { base = f.base; part = f.part; there = inl (inr f.there); has = f.has }
    members_found base of (syntax.more x xs) k (inr h) =
        let f = members_found base of xs k h in
        record { base = f.base; part = f.part; there = inr f.there; has = f.has }

    inner_found : (base : ℕ) (of : ClassKey) (x : syntax.Member A) (k : MemberKey) → InInner begins declarations P base of x k → Found P (λ Q. InInner begins declarations Q base of x k) k
    inner_found base of (syntax.inner m c) k h = class_found (begins m base) (Some of.name) c k h
    inner_found base of (syntax.field m mods t w init) k h = absurd h
    inner_found base of (syntax.method m mods t w ps body) k h = absurd h
    inner_found base of (syntax.constructor m mods w ps args body) k h = absurd h

  pub classes_found : (base : ℕ) (cs : List (syntax.Class A)) (k : MemberKey) → InClasses begins declarations P base cs k → Found P (λ Q. InClasses begins declarations Q base cs k) k
  classes_found base [] k h = absurd h
  classes_found base (c ∷ cs) k (inl h) =
      let f = class_found base None c k h in
      record { base = f.base; part = f.part; there = inl f.there; has = f.has }
  classes_found base (c ∷ cs) k (inr h) =
      let f = classes_found base cs k h in
      record { base = f.base; part = f.part; there = inr f.there; has = f.has }

  -- and back
  module _ (b : ℕ) (p : Part A) where
    mutual
      unfolding InClass InMembers InInner

      pub found_class : (base : ℕ) (outer : Option (List ℕ)) (c : syntax.Class A) (k : MemberKey) → P k b p → InClass begins declarations (IsAt b p) base outer c k → InClass begins declarations P base outer c k
      found_class base outer (syntax.class m mods w t ms) k has (inl h) = inl (h.0, (subst (λ n. P k n (class_part (syntax.class m mods w t ms))) (sym h.1.0) (subst (λ q. P k b q) (sym h.1.1) has)))
      found_class base outer (syntax.class m mods w t ms) k has (inr h) = inr (found_members (begins m base) (class_key begins outer w.text) ms k has h)

      found_members : (base : ℕ) (of : ClassKey) (xs : syntax.Members A) (k : MemberKey) → P k b p → InMembers begins declarations (IsAt b p) base of xs k → InMembers begins declarations P base of xs k
      found_members base of syntax.end k has h = absurd h
      found_members base of (syntax.more x xs) k has (inl (inl h)) = inl (inl (h.0, (subst (λ n. P k n (member_part x)) (sym h.1.0) (subst (λ q. P k b q) (sym h.1.1) has))))
      found_members base of (syntax.more x xs) k has (inl (inr h)) = inl (inr (found_inner base of x k has h))
      found_members base of (syntax.more x xs) k has (inr h) = inr (found_members base of xs k has h)

      found_inner : (base : ℕ) (of : ClassKey) (x : syntax.Member A) (k : MemberKey) → P k b p → InInner begins declarations (IsAt b p) base of x k → InInner begins declarations P base of x k
      found_inner base of (syntax.inner m c) k has h = found_class (begins m base) (Some of.name) c k has h
      found_inner base of (syntax.field m mods t w init) k has h = absurd h
      found_inner base of (syntax.method m mods t w ps body) k has h = absurd h
      found_inner base of (syntax.constructor m mods w ps args body) k has h = absurd h

    pub found_classes : (base : ℕ) (cs : List (syntax.Class A)) (k : MemberKey) → P k b p → InClasses begins declarations (IsAt b p) base cs k → InClasses begins declarations P base cs k
    found_classes base [] k has h = absurd h
    found_classes base (c ∷ cs) k has (inl h) = inl (found_class base None c k has h)
    found_classes base (c ∷ cs) k has (inr h) = inr (found_classes base cs k has h)

-- of all files
module _ {A : Type 0} (begins : A → ℕ → ℕ) (units : List (syntax.Unit A)) (P : MemberKey → (base : ℕ) → Part A → Type 0) where
  pub record Written (us : List (syntax.Unit A)) (k : MemberKey) : Type 0 where
    pub file : ℕ
    pub unit : syntax.Unit A
    pub stands : slice_get us file ≡ Some unit
    pub base : ℕ
    pub part : Part A
    pub there : InClasses begins (declarations_of begins units) (IsAt base part) (begins unit.mark 0) unit.classes k
    pub has : P k base part

  written_in : (us : List (syntax.Unit A)) (k : MemberKey) → InUnits begins (declarations_of begins units) P us k → Written us k
  written_in [] k h = absurd h
  written_in (u ∷ us) k (inl h) =
      let f = classes_found begins (declarations_of begins units) P (begins u.mark 0) u.classes k h in
      record { file = 0; unit = u; stands = refl; base = f.base; part = f.part; there = f.there; has = f.has }
  written_in (u ∷ us) k (inr h) =
      let f = written_in us k h in
      record { file = suc f.file; unit = f.unit; stands = f.stands; base = f.base; part = f.part; there = f.there; has = f.has }

  inside : {X : Type 0} (x y : X) → Some x ≡ Some y → x ≡ y
  inside x y e = cc

  in_written : (us : List (syntax.Unit A)) (file : ℕ) (u : syntax.Unit A) → slice_get us file ≡ Some u → (k : MemberKey)
      → InClasses begins (declarations_of begins units) P (begins u.mark 0) u.classes k → InUnits begins (declarations_of begins units) P us k
  in_written [] file u e k h = absurd cc
  in_written (v ∷ us) zero u e k h = inl (subst (λ (x : syntax.Unit A). InClasses begins (declarations_of begins units) P (begins x.mark 0) x.classes k) (sym (inside v u e)) h)
  in_written (v ∷ us) (suc n) u e k h = inr (in_written us n u e k h)

  -- a member of the program with a property is written at a place and as a tree that have it
  pub member_written : (k : MemberKey) → InUnits begins (declarations_of begins units) P units k → (file : ℕ) × (base : ℕ) × (part : Part A) × IsWritten begins units file k base part × P k base part
  member_written k h =
      let w = written_in units k h in
      (w.file, w.base, w.part, record { unit = w.unit; stands = w.stands; writes = w.there }, w.has)

  pub written_member : (file : ℕ) (k : MemberKey) (base : ℕ) (part : Part A) → IsWritten begins units file k base part → P k base part → InUnits begins (declarations_of begins units) P units k
  written_member file k base part w has =
      in_written units file w.unit w.stands k (found_classes begins (declarations_of begins units) P base part (begins w.unit.mark 0) w.unit.classes k has w.writes)
