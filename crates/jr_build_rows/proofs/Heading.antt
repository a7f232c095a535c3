-- Declared of trees: members' classes are declared.
use Rattle.std.proofs.Common.{◌≡◌, ℕ, zero, suc, List, [], ◌∷◌, ◌++◌, map, Option, Some, None, Bool, true, false, refl, sym, ap, subst, ◌∙◌, inl, inr}
use Rattle.std.specs.Prelude.{slice_get, ◌⊎◌, option_map}
use Rattle.jr_ast.specs.Tree as tree
use Rattle.jr_ast.specs.MemberTree as syntax
use Rattle.jr_table.specs.Keys.{ClassKey}
use Rattle.jr_table.specs.Prelude.{top_key}
use Rattle.jr_table.specs.DeclaredItems.{Written, int, boolean, named, DeclaredClass, DeclaredCtor, Item, class_item, field_item, method_item, ctor_item, DeclaredItem, written, writes_ctor, member_declarations, class_declarations, members_declarations, classes_declarations, declarations_from, declarations_of}
use Rattle.jr_table.specs.Resolving.{DeclaresClass, IsDeclared}
use Rattle.jr_table.specs.Faults.{At}
use Rattle.jr_build_declared.specs.Gathers.{in_file}
use Rattle.jr_build_rows.specs.Heads.{NamesClass, MayHold, ClassHeads, MemberHeads, MembersHeads, ClassesHeads, UnitsHeads, IsOwner, AreHeaded}
use Rattle.jr_build_declared.proofs.CtorLaws.{first_is}
use Rattle.jr_build_declared.proofs.Earliest.{inside}

-- one of the items
abbrev In : List Item → Item → Type 0
In [] x = ⊥
In (y ∷ ys) x = (y ≡ x) ⊎ In ys x

in_left : (xs ys : List Item) (x : Item) → In xs x → In (xs ++ ys) x
in_left [] ys x h = absurd h
in_left (y ∷ xs) ys x (inl e) = inl e
in_left (y ∷ xs) ys x (inr h) = inr (in_left xs ys x h)

in_right : (xs ys : List Item) (x : Item) → In ys x → In (xs ++ ys) x
in_right [] ys x h = h
in_right (y ∷ xs) ys x h = inr (in_right xs ys x h)

in_either : (xs ys : List Item) (x : Item) → In (xs ++ ys) x → In xs x ⊎ In ys x
in_either [] ys x h = inr h
in_either (y ∷ xs) ys x (inl e) = inl (inl e)
in_either (y ∷ xs) ys x (inr h) = elim (in_either xs ys x h) [ inl l ↦ inl (inr l) | inr r ↦ inr r ]

-- what an item among others meets
module _ (all : List Item) where
  abbrev Declares : ClassKey → Type 0
  Declares k = (d : DeclaredClass) × In all (class_item d) × (d.key ≡ k)

  pub record Meets (x : Item) : Type 0 where
    pub owned : (k : ClassKey) → IsOwner x k → Declares k
    pub outers : (c : DeclaredClass) (outer : List ℕ) → x ≡ class_item c → c.key.outer ≡ Some outer → Declares (top_key outer)
    pub named : (c : DeclaredClass) → x ≡ class_item c → (c.parent ≡ Some int → ⊥) × (c.parent ≡ Some boolean → ⊥)
    pub ctors : (c : DeclaredCtor) → x ≡ ctor_item c → (d : DeclaredClass) × In all (class_item d) × (d.key ≡ c.of) × (d.has_ctor ≡ true)

  member_meets : (d : DeclaredClass) → In all (class_item d) → (x : Item) → ((c : DeclaredClass) → x ≡ class_item c → ⊥)
      → ((k : ClassKey) → IsOwner x k → d.key ≡ k) → ((c : DeclaredCtor) → x ≡ ctor_item c → d.has_ctor ≡ true × (d.key ≡ c.of)) → Meets x
  member_meets d stands x no_class owner ctor = record {
    owned = λ k h. (d, stands, owner k h);
    outers = λ c outer e f. absurd (no_class c e);
    named = λ c e. absurd (no_class c e);
    ctors = λ c e. (d, stands, (ctor c e).1, (ctor c e).0);
  }

  class_meets : (d : DeclaredClass) → ((outer : List ℕ) → d.key.outer ≡ Some outer → Declares (top_key outer))
      → (d.parent ≡ Some int → ⊥) × (d.parent ≡ Some boolean → ⊥) → Meets (class_item d)
  class_meets d outer parent = record {
    owned = λ k h. absurd h;
    outers = λ c o e f. outer o (ap (λ (k : ClassKey). k.outer) (ap (λ (x : DeclaredClass). x.key) (same d c e)) ∙ f);
    named = λ c e. subst (λ (x : DeclaredClass). (x.parent ≡ Some int → ⊥) × (x.parent ≡ Some boolean → ⊥)) (same d c e) parent;
    ctors = λ c e. absurd cc;
  }
    where
      same : (x y : DeclaredClass) → class_item x ≡ class_item y → x ≡ y
      same x y e = cc

module _ {A : Type 0} (begins : A → ℕ → ℕ) where
  parent_named : (base : ℕ) (t : Option (tree.TypeName A)) → NamesClass t
      → (option_map (written begins base) t ≡ Some int → ⊥) × (option_map (written begins base) t ≡ Some boolean → ⊥)
  parent_named base None h = (λ e. absurd cc, λ e. absurd cc)
  parent_named base (Some (tree.int m)) h = absurd h
  parent_named base (Some (tree.boolean m)) h = absurd h
  parent_named base (Some (tree.named m outer w)) h = (λ e. absurd cc, λ e. absurd cc)

  abbrev top_or_nested : Bool → Option (List ℕ) → Type 0
  top_or_nested true o = Unit {0}
  top_or_nested false o = o ≡ None

  writes_rest : (m : syntax.Member A) (ms : syntax.Members A) → writes_ctor begins ms ≡ true → writes_ctor begins (syntax.more m ms) ≡ true
  writes_rest (syntax.field m mods t w init) ms e = e
  writes_rest (syntax.method m mods t w ps body) ms e = e
  writes_rest (syntax.constructor m mods w ps args body) ms e = refl
  writes_rest (syntax.inner m c) ms e = e

  top_is : (k : ClassKey) → k.outer ≡ None → k ≡ top_key k.name
  top_is k e = λ i. record { outer = e i; name = k.name }

  ctor_of : (x y : DeclaredCtor) → ctor_item x ≡ ctor_item y → x.of ≡ y.of
  ctor_of x y e = cc

  mutual
    unfolding member_declarations class_declarations members_declarations MemberHeads ClassHeads MembersHeads

    member_items : (all : List Item) (base : ℕ) (nested : Bool) (d : DeclaredClass) → In all (class_item d) → top_or_nested nested d.key.outer
        → (m : syntax.Member A) → MemberHeads nested m → (writes_ctor begins (syntax.more m syntax.end) ≡ true → d.has_ctor ≡ true)
        → ((x : Item) → In (member_declarations begins base d.key m) x → In all x) → (x : Item) → In (member_declarations begins base d.key m) x → Meets all x
    member_items all base nested d stands top (syntax.field m mods t w init) heads has within x h =
        elim h [ inl e ↦ subst (Meets all) e (member_meets all d stands _ (λ c f. absurd cc) (λ k o. o) (λ c f. absurd cc)) | inr z ↦ absurd z ]
    member_items all base nested d stands top (syntax.method m mods t w ps body) heads has within x h =
        elim h [ inl e ↦ subst (Meets all) e (member_meets all d stands _ (λ c f. absurd cc) (λ k o. o) (λ c f. absurd cc)) | inr z ↦ absurd z ]
    member_items all base nested d stands top (syntax.constructor m mods w ps args body) heads has within x h =
        elim h [ inl e ↦ subst (Meets all) e (member_meets all d stands _ (λ c f. absurd cc) (λ k o. o) (λ c f. (has refl, ctor_of _ c f))) | inr z ↦ absurd z ]
    member_items all base false d stands top (syntax.inner m c) heads has within x h =
        class_items all (begins m base) true (Some d.key.name) tt (λ o e. (d, stands, top_is d.key top ∙ ap top_key (inside _ _ e))) c heads.1 within x h
    member_items all base true d stands top (syntax.inner m c) heads has within x h = absurd heads.0

    class_items : (all : List Item) (base : ℕ) (nested : Bool) (outer : Option (List ℕ)) → top_or_nested nested outer
        → ((o : List ℕ) → outer ≡ Some o → Declares all (top_key o))
        → (c : syntax.Class A) → ClassHeads nested c → ((x : Item) → In (class_declarations begins base outer c) x → In all x)
        → (x : Item) → In (class_declarations begins base outer c) x → Meets all x
    class_items all base nested outer top around (syntax.class m mods w t ms) heads within x h =
        elim h [
          | inl e ↦ subst (Meets all) e (class_meets all _ around (parent_named (begins m base) t heads.0))
          | inr r ↦ members_items all (begins m base) nested _ (within _ (inl refl)) top ms heads.1 (λ e. e) (λ y k. within y (inr k)) x r
        ]

    members_items : (all : List Item) (base : ℕ) (nested : Bool) (d : DeclaredClass) → In all (class_item d) → top_or_nested nested d.key.outer
        → (ms : syntax.Members A) → MembersHeads nested ms → (writes_ctor begins ms ≡ true → d.has_ctor ≡ true)
        → ((x : Item) → In (members_declarations begins base d.key ms) x → In all x) → (x : Item) → In (members_declarations begins base d.key ms) x → Meets all x
    members_items all base nested d stands top syntax.end heads has within x h = absurd h
    members_items all base nested d stands top (syntax.more m ms) heads has within x h =
        elim (in_either (member_declarations begins base d.key m) (members_declarations begins base d.key ms) x h) [
          | inl l ↦ member_items all base nested d stands top m heads.0 (λ e. has (first_is begins m ms e))
              (λ y k. within y (in_left (member_declarations begins base d.key m) (members_declarations begins base d.key ms) y k)) x l
          | inr r ↦ members_items all base nested d stands top ms heads.1 (λ e. has (writes_rest m ms e))
              (λ y k. within y (in_right (member_declarations begins base d.key m) (members_declarations begins base d.key ms) y k)) x r
        ]

  classes_items : (all : List Item) (base : ℕ) (cs : List (syntax.Class A)) → ClassesHeads cs → ((x : Item) → In (classes_declarations begins base cs) x → In all x)
      → (x : Item) → In (classes_declarations begins base cs) x → Meets all x
  classes_items all base [] heads within x h = absurd h
  classes_items all base (c ∷ cs) heads within x h =
      elim (in_either (class_declarations begins base None c) (classes_declarations begins base cs) x h) [
        | inl l ↦ class_items all base false None refl (λ o e. absurd cc) c heads.0 (λ y k. within y (in_left (class_declarations begins base None c) (classes_declarations begins base cs) y k)) x l
        | inr r ↦ classes_items all base cs heads.1 (λ y k. within y (in_right (class_declarations begins base None c) (classes_declarations begins base cs) y k)) x r
      ]

  abbrev items_of : List DeclaredItem → List Item
  items_of ss = map (λ (s : DeclaredItem). s.item) ss

  items_join : (file : ℕ) (xs : List Item) (ss : List DeclaredItem) → items_of (in_file file xs ++ ss) ≡ xs ++ items_of ss
  items_join file [] ss = refl
  items_join file (x ∷ xs) ss = ap (λ ys. x ∷ ys) (items_join file xs ss)

  units_items : (all : List Item) (file : ℕ) (us : List (syntax.Unit A)) → UnitsHeads us → ((x : Item) → In (items_of (declarations_from begins file us)) x → In all x)
      → (x : Item) → In (items_of (declarations_from begins file us)) x → Meets all x
  units_items all file [] heads within x h = absurd h
  units_items all file (u ∷ us) heads within x h =
      let own = classes_declarations begins (begins u.mark 0) u.classes in
      let rest = declarations_from begins (suc file) us in
      let join : items_of (in_file file own ++ rest) ≡ own ++ items_of rest = items_join file own rest in
      elim (in_either own (items_of rest) x (subst (λ ys. In ys x) join h)) [
        | inl l ↦ classes_items all (begins u.mark 0) u.classes heads.0 (λ y k. within y (subst (λ ys. In ys y) (sym join) (in_left own (items_of rest) y k))) x l
        | inr r ↦ units_items all (suc file) us heads.1 (λ y k. within y (subst (λ ys. In ys y) (sym join) (in_right own (items_of rest) y k))) x r
      ]

  at_in : (ss : List DeclaredItem) (i file : ℕ) (x : Item) → slice_get ss i ≡ Some (record { file = file; item = x }) → In (items_of ss) x
  at_in [] i file x e = absurd cc
  at_in (s ∷ ss) zero file x e = inl (ap (λ (y : DeclaredItem). y.item) (inside _ _ e))
  at_in (s ∷ ss) (suc i) file x e = inr (at_in ss i file x e)

  in_at : (ss : List DeclaredItem) (x : Item) → In (items_of ss) x → (i : ℕ) × (file : ℕ) × (slice_get ss i ≡ Some (record { file = file; item = x }))
  in_at [] x h = absurd h
  in_at (s ∷ ss) x (inl e) = (0, s.file, (λ i. Some (record { file = s.file; item = e i })))
  in_at (s ∷ ss) x (inr h) = let p = in_at ss x h in (suc p.0, p.1, p.2)

  declared : (ss : List DeclaredItem) (k : ClassKey) → Declares (items_of ss) k → IsDeclared ss k
  declared ss k (d, stands, e) = let p = in_at ss (class_item d) stands in (d, record { number = p.0; file = p.1; stands = p.2; is = e })

  meets_at : (ss : List DeclaredItem) → ((x : Item) → In (items_of ss) x → Meets (items_of ss) x) → AreHeaded ss
  meets_at ss all = record {
    owned = λ i file x k at o. declared ss k ((meets i file x at).owned k o);
    outers = λ i file c o at e. declared ss (top_key o) ((meets i file (class_item c) at).outers c o refl e);
    named = λ i file c at. (meets i file (class_item c) at).named c refl;
    ctors = λ i file c at.
        let m = (meets i file (ctor_item c) at).ctors c refl in
        let p = in_at ss (class_item m.0) m.1 in
        (m.0, record { number = p.0; file = p.1; stands = p.2; is = m.2 }, m.3);
  }
    where
      meets : (i file : ℕ) (x : Item) → At ss i file x → Meets (items_of ss) x
      meets i file x at = all x (at_in ss i file x at.stands)

  pub headed : (us : List (syntax.Unit A)) → UnitsHeads us → AreHeaded (declarations_of begins us)
  unfolding declarations_of
  headed us heads = meets_at (declarations_from begins 0 us) (units_items (items_of (declarations_from begins 0 us)) 0 us heads (λ y k. k))
