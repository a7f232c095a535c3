-- The direct superclass that is computed is the one of the class's row.
use Rattle.std.proofs.Common.{◌≡◌, ℕ, zero, suc, List, [], ◌∷◌, Option, Some, None, Bool, true, false, cond, refl, sym, ap, subst, ◌∙◌}
use Rattle.std.specs.Prelude.{slice_get, option_map, option_and_then, ◌↔◌}
use Rattle.jr_table.specs.Keys.{ClassKey}
use Rattle.jr_table.specs.Decls.{Decl, class_decl}
use Rattle.jr_table.specs.Rows.{Row}
use Rattle.jr_table.specs.SameDecls.{same_decl, decl_decides}
use Rattle.jr_table.specs.Firsts.{first_that}
use Rattle.jr_table.specs.Entries.{IsRowOf, number_of}
use Rattle.jr_table.specs.Conditions.{AreRows}
use Rattle.jr_table.specs.Context.{IsSuperclass}
use Rattle.jr_table.specs.Meanings.{row_of, superclass_of}

-- an element that passes, at its number, which is the first such number
record FoundAt {X : Type 0} (test : X → Bool) (xs : List X) (i : ℕ) : Type 0 where
  element : X
  stands : slice_get xs i ≡ Some element
  passes : test element ≡ true

record First {X : Type 0} (test : X → Bool) (xs : List X) : Type 0 where
  number : ℕ
  is : first_that test xs ≡ Some number
  found : FoundAt test xs number

module _ {X : Type 0} (test : X → Bool) where
  -- where one passes, a first one does
  first_of_any : (xs : List X) (j : ℕ) (x : X) → slice_get xs j ≡ Some x → test x ≡ true → First test xs
  first_of_any [] j x at passes = absurd cc
  first_of_any (y ∷ ys) zero x at passes =
      let same : y ≡ x = cc in
      let holds : test y ≡ true = ap test same ∙ passes in
      record {
        number = 0;
        is = ap (λ b. cond b (Some 0) (option_map suc (first_that test ys))) holds;
        found = record { element = y; stands = refl; passes = holds };
      }
  first_of_any (y ∷ ys) (suc j) x at passes = by (test y) refl (first_of_any ys j x at passes)
    where
      by : (b : Bool) → test y ≡ b → First test ys → First test (y ∷ ys)
      by true e later = record {
        number = 0;
        is = ap (λ b. cond b (Some 0) (option_map suc (first_that test ys))) e;
        found = record { element = y; stands = refl; passes = e };
      }
      by false e later = record {
        number = suc later.number;
        is = ap (λ b. cond b (Some 0) (option_map suc (first_that test ys))) e ∙ ap (option_map suc) later.is;
        found = record { element = later.found.element; stands = later.found.stands; passes = later.found.passes };
      }

  first_stands : (xs : List X) (i : ℕ) → first_that test xs ≡ Some i → FoundAt test xs i
  first_stands [] i h = absurd cc
  first_stands (y ∷ ys) i h = by (test y) refl h (first_stands ys)
    where
      later : (o : Option ℕ) → option_map suc o ≡ Some i → ((j : ℕ) → o ≡ Some j → FoundAt test ys j) → FoundAt test (y ∷ ys) i
      later None e more = absurd cc
      later (Some j) e more =
          let is : suc j ≡ i = cc in
          let found = more j refl in
          subst (FoundAt test (y ∷ ys)) is (record { element = found.element; stands = found.stands; passes = found.passes })

      by : (b : Bool) → test y ≡ b → cond b (Some 0) (option_map suc (first_that test ys)) ≡ Some i → ((j : ℕ) → first_that test ys ≡ Some j → FoundAt test ys j) → FoundAt test (y ∷ ys) i
      by true e h more = let is : 0 ≡ i = cc in subst (FoundAt test (y ∷ ys)) is (record { element = y; stands = refl; passes = e })
      by false e h more = later (first_that test ys) h more

module _ (rows : List Row) where
  -- the row of a number that is found
  pub row_stands : (d : Decl) (j : ℕ) → number_of rows d ≡ Some j → IsRowOf rows d j
  unfolding number_of
  row_stands d j h =
      let found = first_stands (λ (r : Row). same_decl r.decl d) rows j h in
      record { row = found.element; stands = found.stands; declares = (decl_decides found.element.decl d).0 found.passes }

  -- a declaration's row is the one that is found
  pub the_number : AreRows rows → (d : Decl) (j : ℕ) → IsRowOf rows d j → number_of rows d ≡ Some j
  unfolding number_of
  the_number are d j row =
      let first = first_of_any (λ (r : Row). same_decl r.decl d) rows j row.row row.stands ((decl_decides row.row.decl d).1 row.declares) in
      let here : IsRowOf rows d first.number = record {
        row = first.found.element;
        stands = first.found.stands;
        declares = (decl_decides first.found.element.decl d).0 first.found.passes;
      } in
      first.is ∙ ap Some (are.one_each d first.number j here row)

  parent_stands : (k p : ClassKey) (o : Option ℕ) → number_of rows (class_decl k) ≡ o
      → option_and_then (λ (r : Row). r.parent) (option_and_then (λ j. slice_get rows j) o) ≡ Some p → IsSuperclass rows k p
  parent_stands k p None e h = absurd cc
  parent_stands k p (Some j) e h =
      let row = row_stands (class_decl k) j e in
      (j, row, ap (option_and_then (λ (r : Row). r.parent)) (sym row.stands) ∙ h)

  pub superclass_exact : AreRows rows → (k p : ClassKey) → (superclass_of rows k ≡ Some p) ↔ IsSuperclass rows k p
  unfolding row_of
  superclass_exact are k p = (
    λ h. parent_stands k p (number_of rows (class_decl k)) refl h,
    λ (j, row, parent). ap (λ o. option_and_then (λ (r : Row). r.parent) (option_and_then (λ j. slice_get rows j) o)) (the_number are (class_decl k) j row)
        ∙ ap (option_and_then (λ (r : Row). r.parent)) row.stands ∙ parent,
  )

  -- what holds of the superclass that is computed
  pub the_superclass : AreRows rows → (k p : ClassKey) → Some p ≡ superclass_of rows k → IsSuperclass rows k p
  the_superclass are k p is = (superclass_exact are k p).0 (sym is)

  pub of_the_superclass : AreRows rows → (k p : ClassKey) → Some p ≡ superclass_of rows k → (P : ClassKey → Type 0) (q : ClassKey) → IsSuperclass rows k q → P q → P p
  of_the_superclass are k p is P q over holds =
      let e : Some p ≡ Some q = is ∙ (superclass_exact are k q).1 over in
      let same : q ≡ p = cc in
      subst P same holds

  pub no_superclass : AreRows rows → (k : ClassKey) → None ≡ superclass_of rows k → (q : ClassKey) → IsSuperclass rows k q → ⊥
  no_superclass are k is q over =
      let e : None ≡ Some q = is ∙ (superclass_exact are k q).1 over in
      cc
