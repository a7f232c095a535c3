-- An entry passes a test exactly where it declares that.
use Rattle.std.proofs.Common.{◌≡◌, ℕ, List, [], ◌∷◌, Option, Some, None, Bool, true, false, refl, sym, ap, subst, ◌∙◌, eq-eqb}
use Rattle.std.specs.Prelude.{◌==◌, ◌&&◌, ◌↔◌, not, slice_get}
use borrow.Author.Tests.{eqb-true}
use Rattle.std.specs.Str.{bytes_eq}
use Rattle.std.proofs.lemmas.Slice.Eq.{bytes_eq-Decides}
use Rattle.jr_table.specs.declared.entries.Kind.{Kind}
use Rattle.jr_table.specs.declared.entries.Kind.TheVariants.{Int, Boolean, Void, Null, Class}
use Rattle.jr_table.specs.declared.entries.Sort.{Sort}
use Rattle.jr_table.specs.declared.entries.Sort.TheVariants as sort
use Rattle.jr_table.specs.declared.entries.Entry.{Entry}
use Rattle.jr_table.specs.Firsts.{first_that}
use Rattle.jr_table.specs.Members.{DeclaresField, DeclaresMethod, DeclaresType, DeclaresVirtual, IsPrivate, IsStatic}
use Rattle.jr_table.specs.Looking.{same_kind, same_kinds, is_sort, is_number, is_field, is_method, is_type, is_virtual, own_row}
use Rattle.jr_table.proofs.FirstLaws.{PassesAt, first_is, first_none}
use Rattle.jr_table.proofs.MemberLaws.{Says}

pub and_both : (a b : Bool) → (a && b) ≡ true → (a ≡ true) × (b ≡ true)
and_both true b h = (refl, h)
and_both false b h = absurd cc

pub and_true : (a b : Bool) → a ≡ true → b ≡ true → (a && b) ≡ true
and_true true b h k = k
and_true false b h k = absurd cc

not_true : (b : Bool) → not b ≡ true → b ≡ false
not_true true h = absurd cc
not_true false h = refl

true_not : (b : Bool) → (b ≡ true → ⊥) → not b ≡ true
true_not true h = absurd (h refl)
true_not false h = refl

pub sort_is : (a b : Sort) → is_sort a b ≡ true → a ≡ b
sort_is sort.Class sort.Class h = refl
sort_is sort.Field sort.Field h = refl
sort_is sort.Method sort.Method h = refl
sort_is sort.Ctor sort.Ctor h = refl
sort_is sort.Local sort.Local h = refl
sort_is _ _ h = absurd cc

is_same_sort : (a : Sort) → is_sort a a ≡ true
is_same_sort sort.Class = refl
is_same_sort sort.Field = refl
is_same_sort sort.Method = refl
is_same_sort sort.Ctor = refl
is_same_sort sort.Local = refl

pub is_sort_is : (a b : Sort) → a ≡ b → is_sort a b ≡ true
is_sort_is a b e = subst (λ (s : Sort). is_sort a s ≡ true) e (is_same_sort a)

pub kind_same : (a b : Kind) → (same_kind a b ≡ true) ↔ (a ≡ b)
kind_same Int Int = (λ h. refl, λ h. refl)
kind_same Boolean Boolean = (λ h. refl, λ h. refl)
kind_same Void Void = (λ h. refl, λ h. refl)
kind_same Null Null = (λ h. refl, λ h. refl)
kind_same (Class c) (Class d) = (λ h. ap Class (eqb-true c d h), λ h. let e : c ≡ d = cc in eq-eqb c d e)
kind_same _ _ = (λ h. absurd cc, λ h. absurd cc)

pub kinds_same : (xs ys : List Kind) → (same_kinds xs ys ≡ true) ↔ (xs ≡ ys)
kinds_same [] [] = (λ h. refl, λ h. refl)
kinds_same [] (b ∷ ys) = (λ h. absurd cc, λ h. absurd cc)
kinds_same (a ∷ xs) [] = (λ h. absurd cc, λ h. absurd cc)
kinds_same (a ∷ xs) (b ∷ ys) = (
  λ h. let p = and_both (same_kind a b) (same_kinds xs ys) h in (λ i. (kind_same a b).0 p.0 i ∷ (kinds_same xs ys).0 p.1 i),
  λ h. let e : a ≡ b = cc in let f : xs ≡ ys = cc in and_true _ _ ((kind_same a b).1 e) ((kinds_same xs ys).1 f),
)

pub number_is : (o : Option ℕ) (c : ℕ) → is_number o c ≡ true → o ≡ Some c
number_is None c h = absurd cc
number_is (Some d) c h = ap Some (eqb-true d c h)

pub is_number_is : (o : Option ℕ) (c : ℕ) → o ≡ Some c → is_number o c ≡ true
is_number_is None c h = absurd cc
is_number_is (Some d) c h = let e : d ≡ c = cc in eq-eqb d c e

module _ (rows : List Entry) where
  pub field_is : (name : List ℕ) (c j : ℕ) → PassesAt (is_field name c) rows j → DeclaresField rows name c j
  field_is name c j p =
      let e = p.element in
      let a = and_both (is_sort e.sort sort.Field && (e.class == c)) (bytes_eq e.name name) p.passes in
      let b = and_both (is_sort e.sort sort.Field) (e.class == c) a.0 in
      record { row = e; stands = p.stands; field = sort_is e.sort sort.Field b.0; class = eqb-true e.class c b.1; named = (bytes_eq-Decides e.name name).0 a.1 }

  pub is_field_is : (name : List ℕ) (c j : ℕ) → DeclaresField rows name c j → PassesAt (is_field name c) rows j
  is_field_is name c j d =
      let e = d.row in
      record { element = e; stands = d.stands; passes = and_true _ _ (and_true _ _ (is_sort_is e.sort sort.Field d.field) (eq-eqb e.class c d.class)) ((bytes_eq-Decides e.name name).1 d.named) }

  pub type_is : (name : List ℕ) (c j : ℕ) → PassesAt (is_type name c) rows j → DeclaresType rows name c j
  type_is name c j p =
      let e = p.element in
      let a = and_both (is_sort e.sort sort.Class && is_number e.outer c) (bytes_eq e.name name) p.passes in
      let b = and_both (is_sort e.sort sort.Class) (is_number e.outer c) a.0 in
      record { row = e; stands = p.stands; type = sort_is e.sort sort.Class b.0; outer = number_is e.outer c b.1; named = (bytes_eq-Decides e.name name).0 a.1 }

  pub is_type_is : (name : List ℕ) (c j : ℕ) → DeclaresType rows name c j → PassesAt (is_type name c) rows j
  is_type_is name c j d =
      let e = d.row in
      record { element = e; stands = d.stands; passes = and_true _ _ (and_true _ _ (is_sort_is e.sort sort.Class d.type) (is_number_is e.outer c d.outer)) ((bytes_eq-Decides e.name name).1 d.named) }

  pub method_is : (name : List ℕ) (params : List Kind) (c j : ℕ) → PassesAt (is_method name params c) rows j → DeclaresMethod rows name params c j
  method_is name params c j p =
      let e = p.element in
      let s = and_both (is_sort e.sort sort.Method && (e.class == c) && bytes_eq e.name name) (same_kinds e.params params) p.passes in
      let a = and_both (is_sort e.sort sort.Method && (e.class == c)) (bytes_eq e.name name) s.0 in
      let b = and_both (is_sort e.sort sort.Method) (e.class == c) a.0 in
      record { row = e; stands = p.stands; method = sort_is e.sort sort.Method b.0; class = eqb-true e.class c b.1; named = (bytes_eq-Decides e.name name).0 a.1; takes = (kinds_same e.params params).0 s.1 }

  pub is_method_is : (name : List ℕ) (params : List Kind) (c j : ℕ) (d : DeclaresMethod rows name params c j) → is_method name params c d.row ≡ true
  is_method_is name params c j d =
      let e = d.row in
      and_true _ _ (and_true _ _ (and_true _ _ (is_sort_is e.sort sort.Method d.method) (eq-eqb e.class c d.class)) ((bytes_eq-Decides e.name name).1 d.named)) ((kinds_same e.params params).1 d.takes)

  pub virtual_is : (name : List ℕ) (params : List Kind) (c j : ℕ) → PassesAt (is_virtual name params c) rows j → DeclaresVirtual rows name params c j
  virtual_is name params c j p =
      let e = p.element in
      let s = and_both (is_method name params c e && not e.is_private) (not e.is_static) p.passes in
      let a = and_both (is_method name params c e) (not e.is_private) s.0 in
      record {
        declared = method_is name params c j (record { element = e; stands = p.stands; passes = a.0 });
        visible = λ q. let same : e ≡ q.row = some_inside (slice_get rows j) e q.row p.stands q.stands in let f = not_true e.is_private a.1 in let t : e.is_private ≡ true = ap (λ (x : Entry). x.is_private) same ∙ q.private in absurd cc;
        instance = λ q. let same : e ≡ q.row = some_inside (slice_get rows j) e q.row p.stands q.stands in let f = not_true e.is_static s.1 in let t : e.is_static ≡ true = ap (λ (x : Entry). x.is_static) same ∙ q.static in absurd cc;
      }
    where
      some_inside : {A : Type 0} (o : Option A) (a b : A) → o ≡ Some a → o ≡ Some b → a ≡ b
      some_inside o a b h k = let e : Some a ≡ Some b = sym h ∙ k in cc

  pub is_virtual_is : (name : List ℕ) (params : List Kind) (c j : ℕ) → DeclaresVirtual rows name params c j → PassesAt (is_virtual name params c) rows j
  is_virtual_is name params c j v =
      let d = v.declared in
      let e = d.row in
      record {
        element = e;
        stands = d.stands;
        passes = and_true _ _ (and_true _ _ (is_method_is name params c j d)
            (true_not e.is_private (λ h. v.visible (record { row = e; stands = d.stands; private = h }))))
            (true_not e.is_static (λ h. v.instance (record { row = e; stands = d.stands; static = h })));
      }

  -- the first that passes, where passing is a property
  pub first_says : (P : ℕ → Type 0) (test : Entry → Bool) → ((j : ℕ) → PassesAt test rows j → P j) → ((j : ℕ) → P j → PassesAt test rows j) → Says P (first_that test rows)
  first_says P test to back = of (first_that test rows) refl
    where
      of : (o : Option ℕ) → first_that test rows ≡ o → Says P o
      of None e = λ j p. let at = back j p in let f = first_none test rows e j at.element at.stands in let t = at.passes in absurd cc
      of (Some j) e = to j (first_is test rows j e)

  pub field_says : (name : List ℕ) (c : ℕ) → Says (DeclaresField rows name c) (own_row rows (is_field name) c)
  unfolding own_row
  field_says name c = first_says (DeclaresField rows name c) (is_field name c) (field_is name c) (is_field_is name c)

  pub type_says : (name : List ℕ) (c : ℕ) → Says (DeclaresType rows name c) (own_row rows (is_type name) c)
  unfolding own_row
  type_says name c = first_says (DeclaresType rows name c) (is_type name c) (type_is name c) (is_type_is name c)

  pub method_says : (name : List ℕ) (params : List Kind) (c : ℕ) → Says (DeclaresMethod rows name params c) (own_row rows (is_method name params) c)
  unfolding own_row
  method_says name params c = first_says (DeclaresMethod rows name params c) (is_method name params c) (method_is name params c)
      (λ j d. record { element = d.row; stands = d.stands; passes = is_method_is name params c j d })

  pub virtual_says : (name : List ℕ) (params : List Kind) (c : ℕ) → Says (DeclaresVirtual rows name params c) (own_row rows (is_virtual name params) c)
  unfolding own_row
  virtual_says name params c = first_says (DeclaresVirtual rows name params c) (is_virtual name params c) (virtual_is name params c) (is_virtual_is name params c)
