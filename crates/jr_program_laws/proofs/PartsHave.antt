-- What a file has, one of its parts has.
use Rattle.std.proofs.Common.{◌≡◌, ℕ, List, [], ◌∷◌, Some, None, refl, sym, subst, inl, inr}
use Rattle.std.specs.Prelude.{Option}
use Rattle.jr_text.specs.declared.spans.Span.{Span}
use Rattle.jr_ast.specs.MemberTree as syntax
use Rattle.jr_table.specs.Keys.{ClassKey}
use Rattle.jr_table.specs.Decls.{MemberKey}
use Rattle.jr_table.specs.DeclaredItems.{DeclaredItem, class_key, declarations_of}
use Rattle.jr_table.specs.Errors.{Part, class_part, member_part, InClass, InMembers, InInner, InClasses}
use Rattle.jr_program_laws.specs.FileParts.{begins, InFile}
use Rattle.jr_program_laws.specs.PlaceLaws.{IsPart}

-- this part
abbrev Is : MemberKey → (base : ℕ) → Part Span → MemberKey → (base : ℕ) → Part Span → Type 0
Is k base part l b p = (l ≡ k) × (b ≡ base) × (p ≡ part)

module _ (declarations : List DeclaredItem) (P : MemberKey → (base : ℕ) → Part Span → Type 0) where
  -- ---- one part of a class has the property

  module _ (Q : MemberKey → (base : ℕ) → Part Span → Type 0) (each : (k : MemberKey) (base : ℕ) (part : Part Span) → P k base part → Q k base part) where
    mutual
      unfolding InClass InMembers InInner

      class_in : (base : ℕ) (outer : Option (List ℕ)) (c : syntax.Class Span) (k : MemberKey) → InClass begins declarations P base outer c k → InClass begins declarations Q base outer c k
      class_in base outer (syntax.class m mods w t ms) k (inl h) = inl (h.0, each k base (class_part (syntax.class m mods w t ms)) h.1)
      class_in base outer (syntax.class m mods w t ms) k (inr h) = inr (members_in (begins m base) (class_key begins outer w.text) ms k h)

      members_in : (base : ℕ) (of : ClassKey) (ms : syntax.Members Span) (k : MemberKey) → InMembers begins declarations P base of ms k → InMembers begins declarations Q base of ms k
      members_in base of syntax.end k h = h
      members_in base of (syntax.more x xs) k (inl (inl h)) = inl (inl (h.0, each k base (member_part x) h.1))
      members_in base of (syntax.more x xs) k (inl (inr h)) = inl (inr (inner_in base of x k h))
      members_in base of (syntax.more x xs) k (inr h) = inr (members_in base of xs k h)

      inner_in : (base : ℕ) (of : ClassKey) (x : syntax.Member Span) (k : MemberKey) → InInner begins declarations P base of x k → InInner begins declarations Q base of x k
      inner_in base of (syntax.inner m c) k h = class_in (begins m base) (Some of.name) c k h
      inner_in base of (syntax.field m mods t w init) k h = h
      inner_in base of (syntax.method m mods t w ps body) k h = h
      inner_in base of (syntax.constructor m mods w ps args body) k h = h

    classes_in : (base : ℕ) (cs : List (syntax.Class Span)) (k : MemberKey) → InClasses begins declarations P base cs k → InClasses begins declarations Q base cs k
    classes_in base [] k h = h
    classes_in base (c ∷ cs) k (inl h) = inl (class_in base None c k h)
    classes_in base (c ∷ cs) k (inr h) = inr (classes_in base cs k h)

  -- a part that has it, and In says where it is
  record Has (k : MemberKey) (In : (MemberKey → (base : ℕ) → Part Span → Type 0) → Type 0) : Type 0 where
    base : ℕ
    part : Part Span
    has : P k base part
    there : In (Is k base part)

  moved : (k : MemberKey) (In To : (MemberKey → (base : ℕ) → Part Span → Type 0) → Type 0) → ((Q : MemberKey → (base : ℕ) → Part Span → Type 0) → In Q → To Q) → Has k In → Has k To
  moved k In To to h = record { base = h.base; part = h.part; has = h.has; there = to _ h.there }

  mutual
    unfolding InClass InMembers InInner

    class_has : (base : ℕ) (outer : Option (List ℕ)) (c : syntax.Class Span) (k : MemberKey) → InClass begins declarations P base outer c k → Has k (λ Q. InClass begins declarations Q base outer c k)
    class_has base outer (syntax.class m mods w t ms) k (inl h) = record { base = base; part = class_part (syntax.class m mods w t ms); has = h.1; there = inl (h.0, (refl, refl, refl)) }
    class_has base outer (syntax.class m mods w t ms) k (inr h) =
        moved k (λ Q. InMembers begins declarations Q (begins m base) (class_key begins outer w.text) ms k) (λ Q. InClass begins declarations Q base outer (syntax.class m mods w t ms) k) (λ Q g. inr g)
        (members_has (begins m base) (class_key begins outer w.text) ms k h)

    members_has : (base : ℕ) (of : ClassKey) (ms : syntax.Members Span) (k : MemberKey) → InMembers begins declarations P base of ms k → Has k (λ Q. InMembers begins declarations Q base of ms k)
    members_has base of syntax.end k h = absurd h
    members_has base of (syntax.more x xs) k (inl (inl h)) = record { base = base; part = member_part x; has = h.1; there = inl (inl (h.0, (refl, refl, refl))) }
    members_has base of (syntax.more x xs) k (inl (inr h)) =
        moved k (λ Q. InInner begins declarations Q base of x k) (λ Q. InMembers begins declarations Q base of (syntax.more x xs) k) (λ Q g. inl (inr g)) (inner_has base of x k h)
    members_has base of (syntax.more x xs) k (inr h) = moved k (λ Q. InMembers begins declarations Q base of xs k) (λ Q. InMembers begins declarations Q base of (syntax.more x xs) k) (λ Q g. inr g) (members_has base of xs k h)

    inner_has : (base : ℕ) (of : ClassKey) (x : syntax.Member Span) (k : MemberKey) → InInner begins declarations P base of x k → Has k (λ Q. InInner begins declarations Q base of x k)
    inner_has base of (syntax.inner m c) k h =
        moved k (λ Q. InClass begins declarations Q (begins m base) (Some of.name) c k) (λ Q. InInner begins declarations Q base of (syntax.inner m c) k) (λ Q g. g) (class_has (begins m base) (Some of.name) c k h)
    inner_has base of (syntax.field m mods t w init) k h = absurd h
    inner_has base of (syntax.method m mods t w ps body) k h = absurd h
    inner_has base of (syntax.constructor m mods w ps args body) k h = absurd h

  classes_has : (base : ℕ) (cs : List (syntax.Class Span)) (k : MemberKey) → InClasses begins declarations P base cs k → Has k (λ Q. InClasses begins declarations Q base cs k)
  classes_has base [] k h = absurd h
  classes_has base (c ∷ cs) k (inl h) = moved k (λ Q. InClass begins declarations Q base None c k) (λ Q. InClasses begins declarations Q base (c ∷ cs) k) (λ Q g. inl g) (class_has base None c k h)
  classes_has base (c ∷ cs) k (inr h) = moved k (λ Q. InClasses begins declarations Q base cs k) (λ Q. InClasses begins declarations Q base (c ∷ cs) k) (λ Q g. inr g) (classes_has base cs k h)

module _ (units : List (syntax.Unit Span)) (file : ℕ) (P : MemberKey → (base : ℕ) → Part Span → Type 0) where
  pub part_has : InFile units file P → (k : MemberKey) × (base : ℕ) × (part : Part Span) × IsPart units file k base part × P k base part
  part_has h =
      let r = classes_has (declarations_of begins units) P (begins h.unit.mark 0) h.unit.classes h.member h.has in
      (h.member, r.base, r.part, record { unit = h.unit; stands = h.stands; member = h.member; has = r.there }, r.has)

  pub has_part : (k : MemberKey) (base : ℕ) (part : Part Span) → IsPart units file k base part → P k base part → InFile units file P
  has_part k base part is h = record {
    unit = is.unit;
    stands = is.stands;
    member = is.member;
    has = classes_in (declarations_of begins units) (Is k base part) P each (begins is.unit.mark 0) is.unit.classes is.member is.has;
  }
    where
      each : (l : MemberKey) (b : ℕ) (p : Part Span) → Is k base part l b p → P l b p
      each l b p e =
          let a = subst (λ (x : MemberKey). P x base part) (sym e.0) h in
          let c = subst (λ (x : ℕ). P l x part) (sym e.1) a in
          subst (λ (x : Part Span). P l b x) (sym e.2) c
