-- Classes by their keys.
use Rattle.std.proofs.Common.{◌≡◌, ℕ, suc, ◌+◌, ◌<◌, List, [], map, length, Option, Some, None, Bool, true, false, refl, sym, ap, subst, ◌∙◌, arith, eqb-true, eq-eqb}
use Rattle.std.specs.Prelude.{slice_get, option_and_then, ◌&&◌, ◌==◌}
use Rattle.std.specs.Str.{bytes_eq}
use Rattle.std.specs.Cmp.Lexicographic.{bytes_decides}
use Rattle.jr_index.specs.Linked.{is_owner, is_at, PassesAt, IsFirstFrom, first_of, AreOwned, AreLinkedFrom}
use Rattle.jr_table.specs.declared.class_index.ClassIndex.{ClassIndex}
use Rattle.jr_table.specs.Keys.{ClassKey}
use Rattle.jr_table.specs.Decls.{Decl, class_decl, field_decl, method_decl, constructor_decl, local_decl}
use Rattle.jr_table.specs.Rows.{Row}
use Rattle.jr_table.specs.SameDecls.{same_decl, decl_decides}
use Rattle.jr_table.specs.Entries.{IsRowOf, number_of, top_class, name_of, outer_name}
use Rattle.jr_table.specs.Conditions.{AreRows, as_outer}
use Rattle.jr_table.specs.ClassIndex.{top_owner, top_place, class_owner, class_place, place_in, class_in, class_found, FindsClasses}
use Rattle.jr_table.proofs.FirstLaws.{first_at, first_past}
use Rattle.jr_table.proofs.RowLaws.{number_stands, number_none, within, some_inside}
use Rattle.jr_table.proofs.Testing.{and_both, and_true}
use Rattle.jr_table.proofs.Walking.{from_map, owned_map}

-- a test that holds of a declaration alone finds its row
module _ (rows : List Row) (d : Decl) (test : Row → Bool) (to : (r : Row) → test r ≡ true → r.decl ≡ d) (back : (r : Row) → r.decl ≡ d → test r ≡ true) where
  not_same : (r : Row) → test r ≡ false → same_decl r.decl d ≡ false
  not_same r f = by (same_decl r.decl d) refl
    where
      by : (b : Bool) → same_decl r.decl d ≡ b → b ≡ false
      by false e = refl
      by true e = let t = back r ((decl_decides r.decl d).0 e) in absurd cc

  pub found_number : (o : Option ℕ) → IsFirstFrom test rows 0 o → number_of rows d ≡ o
  unfolding number_of
  found_number None none = first_past (λ (r : Row). same_decl r.decl d) rows (λ j x at. not_same x (none j x (omega arith) (within rows x.decl j (record { row = x; stands = at; declares = refl })) at))
  found_number (Some j) first =
      first_at (λ (r : Row). same_decl r.decl d) rows j first.1.element first.1.stands ((decl_decides first.1.element.decl d).1 (to first.1.element first.1.passes))
      (λ k x lt at. not_same x (first.2 k x (omega arith) lt at))

pub owner_is : (o : Option ℕ) (c : ℕ) → is_owner o c ≡ true → o ≡ Some c
owner_is None c h = absurd cc
owner_is (Some d) c h = ap Some (eqb-true d c h)

pub is_place : (c : ℕ) (q : List ℕ) (o : Option ℕ) → o ≡ Some c → is_at c q (o, q) ≡ true
is_place c q o is = and_true (is_owner o c) (bytes_eq q q) (ap (λ o. is_owner o c) is ∙ eq-eqb c c refl) ((bytes_decides q q).1 refl)

class_is : (k : ClassKey) (o : Option (List ℕ)) (q : List ℕ) → k.outer ≡ o → bytes_eq k.name q ≡ true → class_decl k ≡ class_decl (record { outer = o; name = q })
class_is k o q e h = let n = (bytes_decides k.name q).0 h in λ i. class_decl (record { outer = e i; name = n i })

-- where top-level classes alone are found
top_is : (q : List ℕ) (d : Decl) → is_at 0 q (top_place d) ≡ true → d ≡ top_class q
top_is q (class_decl k) h = of k.outer refl h
  where
    of : (o : Option (List ℕ)) → k.outer ≡ o → (is_owner (top_owner o) 0 && bytes_eq k.name q) ≡ true → class_decl k ≡ top_class q
    of None e h = class_is k None q e (and_both (is_owner (top_owner None) 0) (bytes_eq k.name q) h).1
    of (Some outer) e h = absurd cc
top_is q (field_decl k) h = absurd cc
top_is q (method_decl k) h = absurd cc
top_is q (constructor_decl k) h = absurd cc
top_is q (local_decl k) h = absurd cc

is_top : (q : List ℕ) (d : Decl) → d ≡ top_class q → is_at 0 q (top_place d) ≡ true
is_top q d e = ap (λ d. is_at 0 q (top_place d)) e ∙ is_place 0 q (Some 0) refl

top_owned : (d : Decl) (c : ℕ) → (top_place d).0 ≡ Some c → c < 1
top_owned (class_decl k) c h = of k.outer h
  where
    of : (o : Option (List ℕ)) → top_owner o ≡ Some c → c < 1
    of None h = let e : 0 ≡ c = cc in omega (arith, e)
    of (Some outer) h = absurd cc
top_owned (field_decl k) c h = absurd cc
top_owned (method_decl k) c h = absurd cc
top_owned (constructor_decl k) c h = absurd cc
top_owned (local_decl k) c h = absurd cc

module _ (rows : List Row) where
  pub tops_owned : AreOwned (map (λ (r : Row). top_place r.decl) rows) 1
  tops_owned = owned_map (λ (r : Row). top_place r.decl) 1 rows (λ r c h. top_owned r.decl c h)

  pub top_found : (q : List ℕ) (o : Option ℕ) → IsFirstFrom (is_at 0 q) (map (λ (r : Row). top_place r.decl) rows) 0 o → number_of rows (top_class q) ≡ o
  top_found q o h =
      found_number rows (top_class q) (λ r. is_at 0 q (top_place r.decl)) (λ r. top_is q r.decl) (λ r. is_top q r.decl) o
      (from_map (λ (r : Row). top_place r.decl) rows (is_at 0 q) 0 o h)

  abbrev find : List ℕ → Option ℕ
  find q = number_of rows (top_class q)

  find_within : (q : List ℕ) (c : ℕ) → find q ≡ Some c → c < length rows
  find_within q c h = within rows (top_class q) c (number_stands rows (top_class q) c h)

  class_owned : (d : Decl) (c : ℕ) → (class_place find (length rows) d).0 ≡ Some c → c < length rows + 1
  class_owned (class_decl k) c h = of k.outer h
    where
      of : (o : Option (List ℕ)) → class_owner find (length rows) o ≡ Some c → c < length rows + 1
      of None h = let e : length rows ≡ c = cc in omega (arith, e)
      of (Some outer) h = let lt = find_within outer c h in omega (arith, lt)
  class_owned (field_decl k) c h = absurd cc
  class_owned (method_decl k) c h = absurd cc
  class_owned (constructor_decl k) c h = absurd cc
  class_owned (local_decl k) c h = absurd cc

  pub classes_owned : AreOwned (map (place_in rows) rows) (length rows + 1)
  classes_owned = owned_map (place_in rows) (length rows + 1) rows (λ r c h. class_owned r.decl c h)

  -- a class that is no member class
  among_tops : (q : List ℕ) (d : Decl) → is_at (length rows) q (class_place find (length rows) d) ≡ true → d ≡ top_class q
  among_tops q (class_decl k) h = of k.outer refl h
    where
      of : (o : Option (List ℕ)) → k.outer ≡ o → (is_owner (class_owner find (length rows) o) (length rows) && bytes_eq k.name q) ≡ true → class_decl k ≡ top_class q
      of None e h = class_is k None q e (and_both (is_owner (Some (length rows)) (length rows)) (bytes_eq k.name q) h).1
      of (Some outer) e h =
          let lt = find_within outer (length rows) (owner_is (find outer) (length rows) (and_both (is_owner (find outer) (length rows)) (bytes_eq k.name q) h).0) in
          absurd (omega (arith, lt))
  among_tops q (field_decl k) h = absurd cc
  among_tops q (method_decl k) h = absurd cc
  among_tops q (constructor_decl k) h = absurd cc
  among_tops q (local_decl k) h = absurd cc

  is_among_tops : (q : List ℕ) (d : Decl) → d ≡ top_class q → is_at (length rows) q (class_place find (length rows) d) ≡ true
  is_among_tops q d e = ap (λ d. is_at (length rows) q (class_place find (length rows) d)) e ∙ is_place (length rows) q (Some (length rows)) refl

  -- a member class
  abbrev member_class : List ℕ → List ℕ → Decl
  member_class outer q = class_decl (record { outer = Some outer; name = q })

  one_name : (p q : List ℕ) (c : ℕ) → find p ≡ Some c → find q ≡ Some c → p ≡ q
  one_name p q c h k =
      let r = number_stands rows (top_class p) c h in
      let s = number_stands rows (top_class q) c k in
      let same = some_inside (slice_get rows c) r.row s.row r.stands s.stands in
      let e : top_class p ≡ top_class q = sym r.declares ∙ ap (λ (x : Row). x.decl) same ∙ s.declares in
      ap name_of e

  module _ (outer q : List ℕ) (c : ℕ) (around : find outer ≡ Some c) where
    among_members : (d : Decl) → is_at c q (class_place find (length rows) d) ≡ true → d ≡ member_class outer q
    among_members (class_decl k) h = of k.outer refl h
      where
        of : (o : Option (List ℕ)) → k.outer ≡ o → (is_owner (class_owner find (length rows) o) c && bytes_eq k.name q) ≡ true → class_decl k ≡ member_class outer q
        of None e h =
            let lt = find_within outer c around in
            let is = eqb-true (length rows) c (and_both (is_owner (Some (length rows)) c) (bytes_eq k.name q) h).0 in
            absurd (omega (arith, lt, is))
        of (Some other) e h =
            let b = and_both (is_owner (find other) c) (bytes_eq k.name q) h in
            class_is k (Some outer) q (e ∙ ap Some (one_name other outer c (owner_is (find other) c b.0) around)) b.1
    among_members (field_decl k) h = absurd cc
    among_members (method_decl k) h = absurd cc
    among_members (constructor_decl k) h = absurd cc
    among_members (local_decl k) h = absurd cc

    is_among_members : (d : Decl) → d ≡ member_class outer q → is_at c q (class_place find (length rows) d) ≡ true
    is_among_members d e = ap (λ d. is_at c q (class_place find (length rows) d)) e ∙ is_place c q (find outer) around

  module _ (are : AreRows rows) where
    none_around : (outer q : List ℕ) → find outer ≡ None → number_of rows (member_class outer q) ≡ None
    none_around outer q none = by (number_of rows (member_class outer q)) refl
      where
        by : (o : Option ℕ) → number_of rows (member_class outer q) ≡ o → o ≡ None
        by None e = refl
        by (Some j) e =
            let r = number_stands rows (member_class outer q) j e in
            let n = are.named j r.row _ r.stands (as_outer outer (ap outer_name r.declares) refl) in
            absurd (number_none rows (top_class outer) none n.0 n.1)

    module _ (x : ClassIndex) (top : x.top ≡ length rows) (linked : AreLinkedFrom (map (place_in rows) rows) (length rows + 1) 0 x.classes) where
      tops : (q : List ℕ) → first_of x.classes x.top q ≡ number_of rows (top_class q)
      tops q =
          ap (λ n. first_of x.classes n q) top
          ∙ sym (found_number rows (top_class q) (λ r. is_at (length rows) q (place_in rows r)) (λ r. among_tops q r.decl) (λ r. is_among_tops q r.decl) _
          (from_map (place_in rows) rows (is_at (length rows) q) 0 _ (linked.firsts (length rows) q)))

      members : (outer q : List ℕ) (o : Option ℕ) → find outer ≡ o → option_and_then (λ c. first_of x.classes c q) o ≡ number_of rows (member_class outer q)
      members outer q None e = sym (none_around outer q e)
      members outer q (Some c) e =
          sym (found_number rows (member_class outer q) (λ r. is_at c q (place_in rows r)) (λ r. among_members outer q c e r.decl) (λ r. is_among_members outer q c e r.decl) _
          (from_map (place_in rows) rows (is_at c q) 0 _ (linked.firsts c q)))

      pub finds_classes : FindsClasses rows x
      finds_classes k = of k.outer refl
        where
          key : (o : Option (List ℕ)) → k.outer ≡ o → number_of rows (class_decl (record { outer = o; name = k.name })) ≡ number_of rows (class_decl k)
          key o e = ap (number_of rows) (λ i. class_decl (record { outer = sym e i; name = k.name }))

          of : (o : Option (List ℕ)) → k.outer ≡ o → class_in x o k.name ≡ number_of rows (class_decl k)
          of None e = tops k.name ∙ key None e
          of (Some outer) e = ap (option_and_then (λ c. first_of x.classes c k.name)) (tops outer) ∙ members outer k.name (find outer) refl ∙ key (Some outer) e
