-- A member that is written has its declarations among the program's.
use Rattle.std.proofs.Common.{◌≡◌, ℕ, zero, suc, List, [], ◌∷◌, Option, Some, None, refl, ap, subst, inl, inr}
use Rattle.std.specs.Prelude.{map, option_map, slice_get}
use Rattle.jr_ast.specs.MemberTree as syntax
use Rattle.jr_table.specs.Keys.{ClassKey}
use Rattle.jr_table.specs.Decls.{MemberKey, head}
use Rattle.jr_table.specs.DeclaredItems.{Item, class_item, DeclaredItem, word_at, written, words, writes_ctor, class_key, member_declarations, class_declarations, members_declarations, classes_declarations, declarations_from, declarations_of}
use Rattle.jr_table.specs.Errors.{Part, class_part, member_part, Declares, InClass, InMembers, InInner, InClasses}
use Rattle.jr_members.specs.WrittenLaws.{IsWritten}
use Rattle.jr_members.proofs.Anywhere.{IsAt}
use Rattle.jr_members.proofs.Walking.{In, in_left, in_right}

in_at : {X : Type 0} (xs : List X) (x : X) → In xs x → (n : ℕ) × (slice_get xs n ≡ Some x)
in_at [] x h = absurd h
in_at (y ∷ xs) x (inl e) = (0, ap (λ z. Some z) e)
in_at (y ∷ xs) x (inr h) = let r = in_at xs x h in (suc r.0, r.1)

in_map : {X Y : Type 0} (f : X → Y) (xs : List X) (x : X) → In xs x → In (map f xs) (f x)
in_map f [] x h = absurd h
in_map f (y ∷ xs) x (inl e) = inl (ap f e)
in_map f (y ∷ xs) x (inr h) = inr (in_map f xs x h)

module _ {A : Type 0} (begins : A → ℕ → ℕ) (declarations : List DeclaredItem) where
  -- the item is a declaration's
  abbrev pub Stands : Item → Type 0
  Stands x = (n : ℕ) × (file : ℕ) × (slice_get declarations n ≡ Some (record { file = file; item = x }))

  -- the member of the key, whose parent begins at base, has its declarations among these
  abbrev pub StandsDeclared : MemberKey → (base : ℕ) → Part A → Type 0
  StandsDeclared k base (class_part (syntax.class m mods w t ms)) = (o : Option (List ℕ)) × (k ≡ head (class_key begins o w.text)) × Stands (class_item (record {
    at = word_at begins (begins m base) w;
    key = class_key begins o w.text;
    modifiers = words begins mods;
    parent = option_map (written begins (begins m base)) t;
    has_ctor = writes_ctor begins ms;
  }))
  StandsDeclared k base (member_part x) = (of : ClassKey) × Declares begins declarations base of x k × ((z : Item) → In (member_declarations begins base of x) z → Stands z)

  module _ (b : ℕ) (p : Part A) where
    abbrev Here : MemberKey → Type 0
    Here k = StandsDeclared k b p

    moved : (k : MemberKey) (base : ℕ) (q : Part A) → base ≡ b → q ≡ p → StandsDeclared k base q → Here k
    moved k base q e f h = subst (λ (n : ℕ). StandsDeclared k n p) e (subst (λ (x : Part A). StandsDeclared k base x) f h)

    mutual
      unfolding class_declarations members_declarations member_declarations InClass InMembers InInner

      in_class : (base : ℕ) (o : Option (List ℕ)) (c : syntax.Class A) (k : MemberKey) → ((x : Item) → In (class_declarations begins base o c) x → Stands x) → InClass begins declarations (IsAt b p) base o c k → Here k
      in_class base o (syntax.class m mods w t ms) k all (inl (is, (e, f))) = moved k base (class_part (syntax.class m mods w t ms)) e f (o, is, all _ (inl refl))
      in_class base o (syntax.class m mods w t ms) k all (inr h) = in_members (begins m base) (class_key begins o w.text) ms k (λ x i. all x (inr i)) h

      in_members : (base : ℕ) (of : ClassKey) (xs : syntax.Members A) (k : MemberKey) → ((x : Item) → In (members_declarations begins base of xs) x → Stands x) → InMembers begins declarations (IsAt b p) base of xs k → Here k
      in_members base of syntax.end k all h = absurd h
      in_members base of (syntax.more x xs) k all (inl (inl (d, (e, f)))) =
          moved k base (member_part x) e f (of, d, λ z i. all z (in_left (member_declarations begins base of x) (members_declarations begins base of xs) z i))
      in_members base of (syntax.more x xs) k all (inl (inr h)) = in_inner base of x k (λ z i. all z (in_left (member_declarations begins base of x) (members_declarations begins base of xs) z i)) h
      in_members base of (syntax.more x xs) k all (inr h) = in_members base of xs k (λ z i. all z (in_right (member_declarations begins base of x) (members_declarations begins base of xs) z i)) h

      in_inner : (base : ℕ) (of : ClassKey) (x : syntax.Member A) (k : MemberKey) → ((z : Item) → In (member_declarations begins base of x) z → Stands z) → InInner begins declarations (IsAt b p) base of x k → Here k
      in_inner base of (syntax.inner m c) k all h = in_class (begins m base) (Some of.name) c k all h
      in_inner base of (syntax.field m mods t w init) k all h = absurd h
      in_inner base of (syntax.method m mods t w ps body) k all h = absurd h
      in_inner base of (syntax.constructor m mods w ps args body) k all h = absurd h

    in_classes : (base : ℕ) (cs : List (syntax.Class A)) (k : MemberKey) → ((x : Item) → In (classes_declarations begins base cs) x → Stands x) → InClasses begins declarations (IsAt b p) base cs k → Here k
    in_classes base [] k all h = absurd h
    in_classes base (c ∷ cs) k all (inl h) = in_class base None c k (λ z i. all z (in_left (class_declarations begins base None c) (classes_declarations begins base cs) z i)) h
    in_classes base (c ∷ cs) k all (inr h) = in_classes base cs k (λ z i. all z (in_right (class_declarations begins base None c) (classes_declarations begins base cs) z i)) h

module _ {A : Type 0} (begins : A → ℕ → ℕ) where
  in_file : (first : ℕ) (us : List (syntax.Unit A)) (file : ℕ) (u : syntax.Unit A) → slice_get us file ≡ Some u → (x : Item) → In (classes_declarations begins (begins u.mark 0) u.classes) x
      → (f : ℕ) × In (declarations_from begins first us) (record { file = f; item = x })
  in_file first [] file u e x h = absurd cc
  in_file first (v ∷ us) zero u e x h =
      let same : u ≡ v = cc in
      let i = in_map (λ (z : Item). record { file = first; item = z }) (classes_declarations begins (begins v.mark 0) v.classes) x (subst (λ (n : syntax.Unit A). In (classes_declarations begins (begins n.mark 0) n.classes) x) same h) in
      (first, in_left (map (λ (z : Item). record { file = first; item = z }) (classes_declarations begins (begins v.mark 0) v.classes)) (declarations_from begins (suc first) us) (record { file = first; item = x }) i)
  in_file first (v ∷ us) (suc n) u e x h =
      let r = in_file (suc first) us n u e x h in
      (r.0, in_right (map (λ (z : Item). record { file = first; item = z }) (classes_declarations begins (begins v.mark 0) v.classes)) (declarations_from begins (suc first) us) (record { file = r.0; item = x }) r.1)

  file_stands : (units : List (syntax.Unit A)) (file : ℕ) (u : syntax.Unit A) → slice_get units file ≡ Some u → (x : Item) → In (classes_declarations begins (begins u.mark 0) u.classes) x → Stands begins (declarations_of begins units) x
  unfolding declarations_of
  file_stands units file u e x h =
      let r = in_file 0 units file u e x h in
      let at = in_at (declarations_from begins 0 units) (record { file = r.0; item = x }) r.1 in
      (at.0, r.0, at.1)

  pub written_sited : (units : List (syntax.Unit A)) (file : ℕ) (k : MemberKey) (base : ℕ) (part : Part A) → IsWritten begins units file k base part → StandsDeclared begins (declarations_of begins units) k base part
  written_sited units file k base part w =
      in_classes begins (declarations_of begins units) base part (begins w.unit.mark 0) w.unit.classes k (file_stands units file w.unit w.stands) w.writes
