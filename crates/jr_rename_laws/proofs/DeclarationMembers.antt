-- The member of a tree that a declaration is of.
use Rattle.std.proofs.Common.{◌≡◌, ℕ, zero, suc, List, [], ◌∷◌, ◌++◌, Option, Some, None, refl, ap, subst, inl, inr}
use Rattle.std.specs.Prelude.{◌⊎◌, map, slice_get}
use Rattle.jr_ast.specs.MemberTree as syntax
use Rattle.jr_table.specs.Keys.{ClassKey}
use Rattle.jr_table.specs.Decls.{MemberKey}
use Rattle.jr_table.specs.DeclaredItems.{DeclaredClass, Item, class_item, DeclaredItem, class_key, member_declarations, class_declarations, members_declarations, classes_declarations, declarations_from, declarations_of}
use Rattle.jr_table.specs.Errors.{Part, member_part, Declares, InClass, InMembers, InInner, InClasses, InUnits}

abbrev Has : {T : Type 0} → List T → T → Type 0
Has [] z = ⊥
Has (x ∷ xs) z = (x ≡ z) ⊎ Has xs z

has_at : {T : Type 0} (xs : List T) (i : ℕ) (z : T) → slice_get xs i ≡ Some z → Has xs z
has_at [] i z e = absurd cc
has_at (x ∷ xs) zero z e = inl cc
has_at (x ∷ xs) (suc i) z e = inr (has_at xs i z e)

has_either : {T : Type 0} (xs ys : List T) (z : T) → Has (xs ++ ys) z → Has xs z ⊎ Has ys z
has_either [] ys z h = inr h
has_either (x ∷ xs) ys z (inl e) = inl (inl e)
has_either (x ∷ xs) ys z (inr h) = elim (has_either xs ys z h) [ inl a ↦ inl (inr a) | inr b ↦ inr b ]

has_image : {S T : Type 0} (f : S → T) (xs : List S) (z : T) → Has (map f xs) z → (x : S) × Has xs x × (f x ≡ z)
has_image f [] z h = absurd h
has_image f (x ∷ xs) z (inl e) = (x, inl refl, e)
has_image f (x ∷ xs) z (inr h) = let r = has_image f xs z h in (r.0, inr r.1, r.2)

module _ {A : Type 0} (begins : A → ℕ → ℕ) (declarations : List DeclaredItem) (P : MemberKey → (base : ℕ) → Part A → Type 0) where
  -- a member has this one declaration, and what holds of it holds of the whole
  pub record OfMember (z : Item) (Whole : MemberKey → Type 0) : Type 0 where
    pub base : ℕ
    pub of : ClassKey
    pub part : syntax.Member A
    pub is : member_declarations begins base of part ≡ z ∷ []
    pub whole : (k : MemberKey) → Declares begins declarations base of part k → P k base (member_part part) → Whole k

  wider : (z : Item) (V W : MemberKey → Type 0) → ((k : MemberKey) → V k → W k) → OfMember z V → OfMember z W
  wider z V W f h = record { base = h.base; of = h.of; part = h.part; is = h.is; whole = λ k d p. f k (h.whole k d p) }

  module _ (z : Item) (other : (c : DeclaredClass) → class_item c ≡ z → ⊥) where
    mutual
      unfolding class_declarations members_declarations member_declarations InClass InMembers InInner

      in_class : (b : ℕ) (o : Option (List ℕ)) (c : syntax.Class A) → Has (class_declarations begins b o c) z → OfMember z (InClass begins declarations P b o c)
      in_class b o (syntax.class m mods w t ms) (inl e) = absurd (other _ e)
      in_class b o (syntax.class m mods w t ms) (inr h) = wider z (InMembers begins declarations P (begins m b) (class_key begins o w.text) ms) (InClass begins declarations P b o (syntax.class m mods w t ms)) (λ k p. inr p) (in_members (begins m b) (class_key begins o w.text) ms h)

      in_members : (b : ℕ) (of : ClassKey) (xs : syntax.Members A) → Has (members_declarations begins b of xs) z → OfMember z (InMembers begins declarations P b of xs)
      in_members b of syntax.end h = absurd h
      in_members b of (syntax.more x xs) h = elim (has_either (member_declarations begins b of x) (members_declarations begins b of xs) z h) [
        | inl a ↦ wider z (λ k. (Declares begins declarations b of x k × P k b (member_part x)) ⊎ InInner begins declarations P b of x k) (InMembers begins declarations P b of (syntax.more x xs)) (λ k p. inl p) (in_one b of x a)
        | inr r ↦ wider z (InMembers begins declarations P b of xs) (InMembers begins declarations P b of (syntax.more x xs)) (λ k p. inr p) (in_members b of xs r)
      ]

      in_one : (b : ℕ) (of : ClassKey) (x : syntax.Member A) → Has (member_declarations begins b of x) z → OfMember z (λ k. (Declares begins declarations b of x k × P k b (member_part x)) ⊎ InInner begins declarations P b of x k)
      in_one b of (syntax.field m mods t w init) (inl e) = record { base = b; of = of; part = (syntax.field m mods t w init); is = ap (λ (y : Item). y ∷ []) e; whole = λ k d p. inl (d, p) }
      in_one b of (syntax.field m mods t w init) (inr h) = absurd h
      in_one b of (syntax.method m mods t w ps body) (inl e) = record { base = b; of = of; part = (syntax.method m mods t w ps body); is = ap (λ (y : Item). y ∷ []) e; whole = λ k d p. inl (d, p) }
      in_one b of (syntax.method m mods t w ps body) (inr h) = absurd h
      in_one b of (syntax.constructor m mods w ps args body) (inl e) = record { base = b; of = of; part = (syntax.constructor m mods w ps args body); is = ap (λ (y : Item). y ∷ []) e; whole = λ k d p. inl (d, p) }
      in_one b of (syntax.constructor m mods w ps args body) (inr h) = absurd h
      in_one b of (syntax.inner m c) h = wider z (InClass begins declarations P (begins m b) (Some of.name) c) (λ k. (Declares begins declarations b of (syntax.inner m c) k × P k b (member_part (syntax.inner m c))) ⊎ InInner begins declarations P b of (syntax.inner m c) k) (λ k p. inr p) (in_class (begins m b) (Some of.name) c h)

    in_classes : (b : ℕ) (cs : List (syntax.Class A)) → Has (classes_declarations begins b cs) z → OfMember z (InClasses begins declarations P b cs)
    in_classes b [] h = absurd h
    in_classes b (c ∷ cs) h = elim (has_either (class_declarations begins b None c) (classes_declarations begins b cs) z h) [
      | inl a ↦ wider z (InClass begins declarations P b None c) (InClasses begins declarations P b (c ∷ cs)) (λ k p. inl p) (in_class b None c a)
      | inr r ↦ wider z (InClasses begins declarations P b cs) (InClasses begins declarations P b (c ∷ cs)) (λ k p. inr p) (in_classes b cs r)
    ]

    in_units : (file at : ℕ) (us : List (syntax.Unit A)) → Has (declarations_from begins file us) (record { file = at; item = z }) → OfMember z (InUnits begins declarations P us)
    in_units file at [] h = absurd h
    in_units file at (u ∷ us) h = elim (has_either (map (λ (i : Item). record { file = file; item = i }) (classes_declarations begins (begins u.mark 0) u.classes)) (declarations_from begins (suc file) us) (record { file = at; item = z }) h) [
      | inl a ↦
          let r = has_image (λ (i : Item). record { file = file; item = i }) (classes_declarations begins (begins u.mark 0) u.classes) (record { file = at; item = z }) a in
          let same : r.0 ≡ z = ap (λ (s : DeclaredItem). s.item) r.2 in
          wider z (InClasses begins declarations P (begins u.mark 0) u.classes) (InUnits begins declarations P (u ∷ us)) (λ k p. inl p)
          (in_classes (begins u.mark 0) u.classes (subst (Has (classes_declarations begins (begins u.mark 0) u.classes)) same r.1))
      | inr r ↦ wider z (InUnits begins declarations P us) (InUnits begins declarations P (u ∷ us)) (λ k p. inr p) (in_units (suc file) at us r)
    ]

    pub of_declaration : (us : List (syntax.Unit A)) (i file : ℕ) → slice_get (declarations_of begins us) i ≡ Some (record { file = file; item = z }) → OfMember z (InUnits begins declarations P us)
    unfolding declarations_of
    of_declaration us i file at = in_units 0 file us (has_at (declarations_from begins 0 us) i (record { file = file; item = z }) at)
