-- Rows by key and by number.
use Rattle.std.proofs.Common.{◌≡◌, ℕ, ◌<◌, List, [], ◌∷◌, ◌++◌, length, map, Option, Some, None, Bool, true, false, refl, sym, ap, subst, ◌∙◌, arith}
use Rattle.std.specs.Prelude.{slice_get, option_map, option_and_then, Decides}
use Rattle.std.proofs.lemmas.Option.{slice_get_within}
use Rattle.jr_table.specs.declared.entries.Entry.{Entry}
use Rattle.jr_table.specs.Keys.{ClassKey}
use Rattle.jr_table.specs.Decls.{Decl, class_decl}
use Rattle.jr_table.specs.Rows.{Row}
use Rattle.jr_table.specs.SameDecls.{same_decl, decl_decides}
use Rattle.jr_table.specs.Firsts.{first_that}
use Rattle.jr_table.specs.Entries.{IsRowOf, number_of, entry_of, entries_of}
use Rattle.jr_table.specs.Conditions.{AreRows}
use Rattle.jr_table.specs.Chains.{parent_of, IsAcyclic}
use Rattle.jr_table.proofs.FirstLaws.{first_is, first_none, get-map}
use Rattle.jr_table.specs.Spans.{ParentsStand}
use Rattle.jr_table.proofs.Ending.{acyclic}

pub some_inside : {A : Type 0} (o : Option A) (a b : A) → o ≡ Some a → o ≡ Some b → a ≡ b
some_inside o a b h k = let e : Some a ≡ Some b = sym h ∙ k in cc

module _ (rows : List Row) where
  pub number_stands : (d : Decl) (j : ℕ) → number_of rows d ≡ Some j → IsRowOf rows d j
  unfolding number_of
  number_stands d j h =
      let p = first_is (λ (r : Row). same_decl r.decl d) rows j h in
      record { row = p.element; stands = p.stands; declares = (decl_decides p.element.decl d).0 p.passes }

  pub number_none : (d : Decl) → number_of rows d ≡ None → (j : ℕ) → IsRowOf rows d j → ⊥
  unfolding number_of
  number_none d h j r =
      let f = first_none (λ (r : Row). same_decl r.decl d) rows h j r.row r.stands in
      let t = (decl_decides r.row.decl d).1 r.declares in
      absurd cc

  pub within : (d : Decl) (j : ℕ) → IsRowOf rows d j → j < length rows
  within d j r = slice_get_within rows j r.row r.stands

  -- the entry at a number is that of the row there
  pub entry_at : (j : ℕ) → slice_get (entries_of rows) j ≡ option_map (entry_of rows) (slice_get rows j)
  unfolding entries_of
  entry_at j = get-map (entry_of rows) rows j

  pub entry_stands : (j : ℕ) (r : Row) → slice_get rows j ≡ Some r → slice_get (entries_of rows) j ≡ Some (entry_of rows r)
  entry_stands j r h = entry_at j ∙ ap (option_map (entry_of rows)) h

  pub record RowAt (j : ℕ) (e : Entry) : Type 0 where
    pub row : Row
    pub stands : slice_get rows j ≡ Some row
    pub is : e ≡ entry_of rows row

  pub row_at : (j : ℕ) (e : Entry) → slice_get (entries_of rows) j ≡ Some e → RowAt j e
  row_at j e h = by (slice_get rows j) refl (sym (entry_at j) ∙ h)
    where
      by : (o : Option Row) → slice_get rows j ≡ o → option_map (entry_of rows) o ≡ Some e → RowAt j e
      by None is h = absurd cc
      by (Some r) is h = record { row = r; stands = is; is = let s : entry_of rows r ≡ e = some_inside (Some (entry_of rows r)) (entry_of rows r) e refl h in sym s }

  pub as_many : length (entries_of rows) ≡ length rows
  unfolding entries_of
  as_many = count rows
    where
      count : (xs : List Row) → length (map (entry_of rows) xs) ≡ length xs
      count [] = refl
      count (x ∷ xs) = let e = count xs in omega (arith, e)

  pub parents_stand : ParentsStand (entries_of rows)
  parents_stand c p up = by (slice_get (entries_of rows) c) refl up
    where
      named : (k : Option ClassKey) → option_and_then (λ k. number_of rows (class_decl k)) k ≡ Some p → p < length (entries_of rows)
      named None h = absurd cc
      named (Some k) h = subst (λ (n : ℕ). p < n) (sym as_many) (within (class_decl k) p (number_stands (class_decl k) p h))

      by : (o : Option Entry) → slice_get (entries_of rows) c ≡ o → option_and_then (λ (x : Entry). x.parent) o ≡ Some p → p < length (entries_of rows)
      by None is h = absurd cc
      by (Some e) is h = let r = row_at c e is in named r.row.parent (sym (ap (λ (x : Entry). x.parent) r.is) ∙ h)

  module _ (are : AreRows rows) where
    pub acyclic_rows : IsAcyclic (entries_of rows)
    acyclic_rows = acyclic (entries_of rows) are.no_cycle parents_stand

    pub the_number : (d : Decl) (j : ℕ) → IsRowOf rows d j → number_of rows d ≡ Some j
    the_number d j r = by (number_of rows d) refl
      where
        by : (o : Option ℕ) → number_of rows d ≡ o → number_of rows d ≡ Some j
        by None e = absurd (number_none d e j r)
        by (Some i) e = e ∙ ap Some (are.one_each d i j (number_stands d i e) r)
