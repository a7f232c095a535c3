-- Tests of declarations: each is true exactly where the relation holds.
use Rattle.std.proofs.Common.{◌≡◌, ℕ, ◌≤◌, List, [], ◌∷◌, Option, Some, None, Bool, true, false, refl, sym, ap, subst, ◌∙◌, inl, inr}
use Rattle.std.specs.Prelude.{◌⊎◌, ◌↔◌, ◌&&◌, not, nat_lt, codes}
use Rattle.std.specs.List.{list_any}
use Rattle.std.specs.Str.{bytes_eq}
use Rattle.std.proofs.lemmas.Bool.{ltb-false, le-ltb}
use Rattle.std.proofs.lemmas.Slice.Eq.{bytes_eq-Decides}
use Rattle.jr_ast.specs.Tree as tree
use Rattle.jr_table.specs.Keys.{ClassKey, FieldKey, CtorKey}
use Rattle.jr_table.specs.Decls.{MemberKey, head, field, method, constructor, LocalKey, Decl, class_decl, field_decl, method_decl, constructor_decl, local_decl}
use Rattle.jr_table.specs.Rows.{Row}
use Rattle.jr_table.specs.Conditions.{AreRows}
use Rattle.jr_table.specs.SameKeys.{same_class, class_decides}
use Rattle.jr_table.specs.SameDecls.{local_decides}
use Rattle.jr_table.specs.Entries.{IsRowOf, number_of, is_static_word}
use Rattle.jr_table.specs.Found.{Found, one, nothing, many, not_accessible, from_static}
use Rattle.jr_table.specs.LookupLaws.{Decided}
use Rattle.jr_table.specs.Context.{Local, Context, Knows, IsStaticDecl, IsInstanceDecl, IsFinal, is_final_word}
use Rattle.jr_table.specs.ExpressionRules.{IsBlank, IsBlankDecl, IsFixed, HasInit, IsConstantVariable, IsLater, IsForward, FinalBehind, IsObjectMethod}
use Rattle.jr_table.specs.Meanings.{row_of, test_row, local_of_key}
use Rattle.jr_table.specs.Notes.{has_word, is_static_decl, is_instance_decl, test_local, is_final_decl, has_init_decl, is_ctor_of, is_blank, is_fixed, is_fixed_behind, test_found, is_own, number_le, is_later, is_later_than, is_forward, is_object_method}
use Rattle.jr_table.proofs.RowLaws.{number_stands, the_number}
use Rattle.jr_table.proofs.RowTypes.{chain, local_iff, test_iff}
use Rattle.jr_table.proofs.TypeTests.{and_iff, or_iff, not_iff}

-- a test of the declaration that is found
pub found_test : (f : Found) (Finds : Found → Type 0) → Decided f Finds → (test : Decl → Bool) (P : Decl → Type 0) → ((d : Decl) → (test d ≡ true) ↔ P d)
    → (test_found test f ≡ true) ↔ ((d : Decl) × Finds (one d) × P d)
found_test (one d) Finds is test P holds = (λ h. (d, (is (one d)).0 refl, (holds d).0 h), back)
  where
    back : ((x : Decl) × Finds (one x) × P x) → test d ≡ true
    back (x, f, p) = let e = (is (one x)).1 f in let same : d ≡ x = cc in (holds d).1 (subst P (sym same) p)
found_test nothing Finds is test P holds = (λ h. absurd cc, λ h. let e = (is (one h.0)).1 h.1 in absurd cc)
found_test (many a b) Finds is test P holds = (λ h. absurd cc, λ h. let e = (is (one h.0)).1 h.1 in absurd cc)
found_test (not_accessible a) Finds is test P holds = (λ h. absurd cc, λ h. let e = (is (one h.0)).1 h.1 in absurd cc)
found_test (from_static a) Finds is test P holds = (λ h. absurd cc, λ h. let e = (is (one h.0)).1 h.1 in absurd cc)

pub not_false : (b : Bool) → (not b ≡ true) ↔ (b ≡ false)
not_false true = (λ h. absurd cc, λ h. absurd cc)
not_false false = (λ h. refl, λ h. refl)

local_test : (c : Context) (k : LocalKey) (test : Local → Bool) → (test_local test (local_of_key k c.locals) ≡ true) ↔ ((l : Local) × Knows c k l × (test l ≡ true))
local_test c k test = (to (local_of_key k c.locals) refl, back (local_of_key k c.locals) refl)
  where
    to : (o : Option Local) → local_of_key k c.locals ≡ o → test_local test o ≡ true → (l : Local) × Knows c k l × (test l ≡ true)
    to None e h = absurd cc
    to (Some l) e h = (l, (local_iff c k l).0 e, h)

    back : (o : Option Local) → local_of_key k c.locals ≡ o → ((l : Local) × Knows c k l × (test l ≡ true)) → test_local test o ≡ true
    back None e (l, knows, h) = let x = (local_iff c k l).1 knows in absurd cc
    back (Some m) e (l, knows, h) = let x = (local_iff c k l).1 knows in let same : m ≡ l = cc in ap test same ∙ h

ctor_of_iff : (m : MemberKey) (k : ClassKey) → (is_ctor_of m k ≡ true) ↔ ((q : CtorKey) × (m ≡ constructor q) × (q.class ≡ k))
ctor_of_iff (constructor q) k = (λ h. (q, refl, (class_decides q.class k).0 h), back)
  where
    back : ((p : CtorKey) × (constructor q ≡ constructor p) × (p.class ≡ k)) → same_class q.class k ≡ true
    back (p, e, h) = let same : q ≡ p = cc in (class_decides q.class k).1 (ap (λ (x : CtorKey). x.class) same ∙ h)
ctor_of_iff (head j) k = (λ h. absurd cc, λ h. let e = h.1 in absurd cc)
ctor_of_iff (field j) k = (λ h. absurd cc, λ h. let e = h.1 in absurd cc)
ctor_of_iff (method j) k = (λ h. absurd cc, λ h. let e = h.1 in absurd cc)

own_iff : (o : Option LocalKey) (k : LocalKey) → (is_own o k ≡ true) ↔ (o ≡ Some k)
own_iff None k = (λ h. absurd cc, λ h. absurd cc)
own_iff (Some j) k = (λ h. ap Some ((local_decides j k).0 h), λ h. let same : j ≡ k = cc in (local_decides j k).1 same)

-- one number is at most another, where both are there
at_most_iff : (i j : ℕ) → (not (nat_lt j i) ≡ true) ↔ (i ≤ j)
at_most_iff i j = chain (not_false (nat_lt j i)) (λ h. ltb-false j i h, λ h. le-ltb j i h)

number_iff : (o p : Option ℕ) → (number_le o p ≡ true) ↔ ((i : ℕ) × (j : ℕ) × (o ≡ Some i) × (p ≡ Some j) × (i ≤ j))
number_iff None p = (λ h. absurd cc, λ h. let e = h.2 in absurd cc)
number_iff (Some i) None = (λ h. absurd cc, λ h. let e = h.3 in absurd cc)
number_iff (Some i) (Some j) = chain (at_most_iff i j) (λ h. (i, j, refl, refl, h), back)
  where
    back : ((m : ℕ) × (n : ℕ) × (Some i ≡ Some m) × (Some j ≡ Some n) × (m ≤ n)) → i ≤ j
    back (m, n, e, f, h) = let a : m ≡ i = cc in let b : n ≡ j = cc in subst (λ x. x ≤ j) a (subst (λ y. m ≤ y) b h)

-- a name is one of a list
abbrev Among : List (List ℕ) → List ℕ → Type 0
Among [] name = ⊥
Among (x ∷ xs) name = (name ≡ x) ⊎ Among xs name

among_iff : (xs : List (List ℕ)) (name : List ℕ) → (list_any (λ n. bytes_eq name n) xs ≡ true) ↔ Among xs name
among_iff [] name = (λ h. absurd cc, λ h. absurd h)
among_iff (x ∷ xs) name = or_iff (bytes_eq name x) (list_any (λ n. bytes_eq name n) xs) (name ≡ x) (Among xs name) (bytes_eq-Decides name x) (among_iff xs name)

last_one : {P : Type 0} → (P ⊎ ⊥) ↔ P
last_one {P} = (to, λ p. inl p)
  where
    to : (P ⊎ ⊥) → P
    to (inl p) = p
    to (inr h) = absurd h

behind_one : {P Q R : Type 0} → (Q ↔ R) → (P ⊎ Q) ↔ (P ⊎ R)
behind_one {P} {Q} {R} f = (to, back)
  where
    to : (P ⊎ Q) → P ⊎ R
    to (inl p) = inl p
    to (inr q) = inr (f.0 q)

    back : (P ⊎ R) → P ⊎ Q
    back (inl p) = inl p
    back (inr r) = inr (f.1 r)

pub object_method_iff : (name : List ℕ) → (is_object_method name ≡ true) ↔ IsObjectMethod name
object_method_iff name = chain (among_iff (codes "equals" ∷ codes "hashCode" ∷ codes "toString" ∷ codes "getClass" ∷ codes "notify" ∷ codes "notifyAll" ∷ codes "wait" ∷ codes "clone" ∷ codes "finalize" ∷ []) name)
    (behind_one (behind_one (behind_one (behind_one (behind_one (behind_one (behind_one (behind_one last_one))))))))

module _ (rows : List Row) (fit : AreRows rows) where
  pub static_iff : (d : Decl) → (is_static_decl rows d ≡ true) ↔ IsStaticDecl rows d
  static_iff d = test_iff rows fit (has_word is_static_word) d

  pub instance_iff : (d : Decl) → (is_instance_decl rows d ≡ true) ↔ IsInstanceDecl rows d
  instance_iff d = chain (test_iff rows fit (λ r. not (has_word is_static_word r)) d)
      (λ h. (h.0, h.1, (not_false (list_any is_static_word h.1.row.modifiers)).0 h.2), λ h. (h.0, h.1, (not_false (list_any is_static_word h.1.row.modifiers)).1 h.2))

  module _ (c : Context) where
    pub final_iff : (d : Decl) → (is_final_decl rows c d ≡ true) ↔ IsFinal rows c d
    final_iff (local_decl k) = local_test c k (λ l. l.is_final)
    final_iff (class_decl k) = test_iff rows fit (has_word is_final_word) (class_decl k)
    final_iff (field_decl k) = test_iff rows fit (has_word is_final_word) (field_decl k)
    final_iff (method_decl k) = test_iff rows fit (has_word is_final_word) (method_decl k)
    final_iff (constructor_decl k) = test_iff rows fit (has_word is_final_word) (constructor_decl k)

    init_iff : (d : Decl) → (has_init_decl rows c d ≡ true) ↔ HasInit rows c d
    init_iff (local_decl k) = local_test c k (λ l. l.has_init)
    init_iff (class_decl k) = test_iff rows fit (λ r. r.has_init) (class_decl k)
    init_iff (field_decl k) = test_iff rows fit (λ r. r.has_init) (field_decl k)
    init_iff (method_decl k) = test_iff rows fit (λ r. r.has_init) (method_decl k)
    init_iff (constructor_decl k) = test_iff rows fit (λ r. r.has_init) (constructor_decl k)

    pub constant_iff : (d : Decl) → ((is_final_decl rows c d && has_init_decl rows c d) ≡ true) ↔ IsConstantVariable rows c d
    constant_iff d = and_iff (is_final_decl rows c d) (has_init_decl rows c d) (IsFinal rows c d) (HasInit rows c d) (final_iff d) (init_iff d)

    blank_iff : (d : Decl) → (is_blank rows c d ≡ true) ↔ IsBlankDecl rows c d
    blank_iff (field_decl k) = chain (and_iff _ _ _ _ (ctor_of_iff c.member k.class) (test_iff rows fit (λ r. not (has_word is_static_word r) && not r.has_init) (field_decl k))) (to, back)
      where
        to : (((q : CtorKey) × (c.member ≡ constructor q) × (q.class ≡ k.class)) × ((j : ℕ) × (i : IsRowOf rows (field_decl k) j) × ((not (has_word is_static_word i.row) && not i.row.has_init) ≡ true))) → IsBlank rows c k
        to (a, b) =
            let both = (and_iff (not (has_word is_static_word b.1.row)) (not b.1.row.has_init) _ _ (not_false (list_any is_static_word b.1.row.modifiers)) (not_false b.1.row.has_init)).0 b.2 in
            record { place = a.0; within = a.1; same = a.2; instance = (b.0, b.1, both.0); number = b.0; row = b.1; no_init = both.1 }

        back : IsBlank rows c k → ((q : CtorKey) × (c.member ≡ constructor q) × (q.class ≡ k.class)) × ((j : ℕ) × (i : IsRowOf rows (field_decl k) j) × ((not (has_word is_static_word i.row) && not i.row.has_init) ≡ true))
        back b =
            let s = (test_iff rows fit (λ r. not (has_word is_static_word r)) (field_decl k)).1 (b.instance.0, b.instance.1, (not_false (list_any is_static_word b.instance.1.row.modifiers)).1 b.instance.2) in
            let n = (test_iff rows fit (λ r. not r.has_init) (field_decl k)).1 (b.number, b.row, (not_false b.row.row.has_init).1 b.no_init) in
            ((b.place, b.within, b.same), (test_iff rows fit (λ r. not (has_word is_static_word r) && not r.has_init) (field_decl k)).0 (together (row_of rows (field_decl k)) s n))
          where
            together : (o : Option Row) → test_row (λ r. not (has_word is_static_word r)) o ≡ true → test_row (λ r. not r.has_init) o ≡ true → test_row (λ r. not (has_word is_static_word r) && not r.has_init) o ≡ true
            together None s n = absurd cc
            together (Some r) s n = (and_iff (not (has_word is_static_word r)) (not r.has_init) _ _ (λ h. h, λ h. h) (λ h. h, λ h. h)).1 (s, n)
    blank_iff (local_decl k) = (λ h. absurd cc, λ h. absurd h)
    blank_iff (class_decl k) = (λ h. absurd cc, λ h. absurd h)
    blank_iff (method_decl k) = (λ h. absurd cc, λ h. absurd h)
    blank_iff (constructor_decl k) = (λ h. absurd cc, λ h. absurd h)

    pub fixed_iff : (d : Decl) → (is_fixed rows c d ≡ true) ↔ IsFixed rows c d
    fixed_iff d = and_iff (is_final_decl rows c d) (not (is_blank rows c d)) (IsFinal rows c d) (IsBlankDecl rows c d → ⊥) (final_iff d) (not_iff (is_blank rows c d) (IsBlankDecl rows c d) (blank_iff d))

    -- what is assigned through `this`, or through another value
    pub behind_iff : {A : Type 0} (e : tree.Exp A) (d : Decl) → (is_fixed_behind rows c e d ≡ true) ↔ FinalBehind rows c e d
    behind_iff (tree.this m) d = fixed_iff d
    behind_iff _ d = final_iff d

    -- an instance field of the class, declared no earlier
    later_iff : (k q : FieldKey) → (is_later rows k q ≡ true) ↔ IsLater rows c k q
    later_iff k q = chain (and_iff _ _ _ _ (and_iff _ _ _ _ (class_decides k.class q.class) (instance_iff (field_decl q))) (number_iff (number_of rows (field_decl k)) (number_of rows (field_decl q)))) (to, back)
      where
        to : (((k.class ≡ q.class) × IsInstanceDecl rows (field_decl q)) × ((i : ℕ) × (j : ℕ) × (number_of rows (field_decl k) ≡ Some i) × (number_of rows (field_decl q) ≡ Some j) × (i ≤ j))) → IsLater rows c k q
        to ((same, instance), (i, j, e, f, order)) = record { same = same; instance = instance; i = i; j = j; here = number_stands rows (field_decl k) i e; there = number_stands rows (field_decl q) j f; order = order }

        back : IsLater rows c k q → ((k.class ≡ q.class) × IsInstanceDecl rows (field_decl q)) × ((i : ℕ) × (j : ℕ) × (number_of rows (field_decl k) ≡ Some i) × (number_of rows (field_decl q) ≡ Some j) × (i ≤ j))
        back l = ((l.same, l.instance), (l.i, l.j, the_number rows fit (field_decl k) l.i l.here, the_number rows fit (field_decl q) l.j l.there, l.order))

    later_than_iff : (m : MemberKey) (q : FieldKey) → (is_later_than rows m q ≡ true) ↔ ((k : FieldKey) × (m ≡ field k) × IsLater rows c k q)
    later_than_iff (field k) q = chain (later_iff k q) (λ h. (k, refl, h), back)
      where
        back : ((j : FieldKey) × (field k ≡ field j) × IsLater rows c j q) → IsLater rows c k q
        back (j, e, h) = let same : j ≡ k = cc in subst (λ x. IsLater rows c x q) same h
    later_than_iff (head j) q = (λ h. absurd cc, λ h. let e = h.1 in absurd cc)
    later_than_iff (method j) q = (λ h. absurd cc, λ h. let e = h.1 in absurd cc)
    later_than_iff (constructor j) q = (λ h. absurd cc, λ h. let e = h.1 in absurd cc)

    pub forward_iff : (d : Decl) → (is_forward rows c d ≡ true) ↔ IsForward rows c d
    forward_iff (local_decl k) = own_iff c.own k
    forward_iff (field_decl q) = chain (and_iff (not c.is_static) (is_later_than rows c.member q) (c.is_static ≡ false) ((k : FieldKey) × (c.member ≡ field k) × IsLater rows c k q) (not_false c.is_static) (later_than_iff c.member q))
        (λ h. (h.1.0, h.1.1, h.0, h.1.2), λ h. (h.2, (h.0, h.1, h.3)))
    forward_iff (class_decl k) = (λ h. absurd cc, λ h. absurd h)
    forward_iff (method_decl k) = (λ h. absurd cc, λ h. absurd h)
    forward_iff (constructor_decl k) = (λ h. absurd cc, λ h. absurd h)
