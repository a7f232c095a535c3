-- Whether the row that is found declares an instance member.
use Rattle.std.proofs.Common.{◌≡◌, ℕ, zero, suc, List, [], ◌∷◌, Option, Some, None, Bool, true, false, refl, sym, ap, ◌∙◌, map}
use Rattle.std.specs.Prelude.{◌↔◌, ◌&&◌, not, IsTrue, slice_get, option_map}
use Rattle.std.specs.List.{list_any}
use Rattle.jr_table.specs.Decls.{Decl}
use Rattle.jr_table.specs.Rows.{Row}
use Rattle.jr_table.specs.Found.{one}
use Rattle.jr_table.specs.Entries.{IsRowOf, entry_of, entries_of, is_static_word}
use Rattle.jr_table.specs.Access.{is_instance_entry, is_instance_at}
use Rattle.jr_table.specs.Lookup.{shown_one, decl_at}
use Rattle.jr_table.specs.Conditions.{AreRows}
use Rattle.jr_table.specs.Context.{IsStaticDecl, IsInstanceDecl}

get-map : {X Y : Type 0} (f : X → Y) (xs : List X) (j : ℕ) → slice_get (map f xs) j ≡ option_map f (slice_get xs j)
get-map f [] j = refl
get-map f (x ∷ xs) zero = refl
get-map f (x ∷ xs) (suc j) = get-map f xs j

module _ (rows : List Row) (j : ℕ) (d : Decl) where
  row_by : (o : Option Row) → slice_get rows j ≡ o → shown_one one (option_map (λ (r : Row). r.decl) o) ≡ one d → IsRowOf rows d j
  row_by None is e = absurd cc
  row_by (Some r) is e = let same : r.decl ≡ d = cc in record { row = r; stands = is; declares = same }

  -- the row that is shown
  row_shown : shown_one one (decl_at rows j) ≡ one d → IsRowOf rows d j
  row_shown e = row_by (slice_get rows j) refl e

  is_instance : (i : IsRowOf rows d j) → is_instance_at (entries_of rows) j ≡ not (list_any is_static_word i.row.modifiers)
  unfolding entries_of
  is_instance i = ap is_instance_entry (get-map (entry_of rows) rows j ∙ ap (option_map (entry_of rows)) i.stands)

  -- the only row of the declaration
  same_row : AreRows rows → (i : IsRowOf rows d j) (k : ℕ) (o : IsRowOf rows d k) → o.row ≡ i.row
  same_row are i k o =
      let n = are.one_each d k j o i in
      let e : Some o.row ≡ Some i.row = sym o.stands ∙ ap (slice_get rows) n ∙ i.stands in
      cc

  static_means : AreRows rows → (i : IsRowOf rows d j) → IsStaticDecl rows d → list_any is_static_word i.row.modifiers ≡ true
  static_means are i (k, o, word) = ap (λ (r : Row). list_any is_static_word r.modifiers) (sym (same_row are i k o)) ∙ word

  instance_means : AreRows rows → (i : IsRowOf rows d j) → IsInstanceDecl rows d → list_any is_static_word i.row.modifiers ≡ false
  instance_means are i (k, o, word) = ap (λ (r : Row). list_any is_static_word r.modifiers) (sym (same_row are i k o)) ∙ word

  -- found, and no static member
  pub value_is : AreRows rows → (a b : Bool) → IsTrue a ↔ (shown_one one (decl_at rows j) ≡ one d) → b ≡ is_instance_at (entries_of rows) j
      → IsTrue (a && b) ↔ ((shown_one one (decl_at rows j) ≡ one d) × (IsStaticDecl rows d → ⊥))
  value_is are false b test is = (λ e. absurd cc, λ x. test.1 x.0)
  value_is are true b test is = by (test.0 refl) (row_shown (test.0 refl)) (list_any is_static_word (row_shown (test.0 refl)).row.modifiers) refl
    where
      by : (shown : shown_one one (decl_at rows j) ≡ one d) (row : IsRowOf rows d j) (w : Bool) → list_any is_static_word row.row.modifiers ≡ w → IsTrue (true && b) ↔ ((shown_one one (decl_at rows j) ≡ one d) × (IsStaticDecl rows d → ⊥))
      by shown row true e = (
        λ t. let no : false ≡ true = sym (ap not e) ∙ sym (is_instance row) ∙ sym is ∙ t in absurd cc,
        λ x. absurd (x.1 (j, row, e)),
      )
      by shown row false e = (
        λ t. (shown, λ s. let no : false ≡ true = sym e ∙ static_means are row s in cc),
        λ x. is ∙ is_instance row ∙ ap not e,
      )

  -- found, and no instance member
  pub class_is : AreRows rows → (a b : Bool) → IsTrue a ↔ (shown_one one (decl_at rows j) ≡ one d) → b ≡ is_instance_at (entries_of rows) j
      → IsTrue (a && not b) ↔ ((shown_one one (decl_at rows j) ≡ one d) × (IsInstanceDecl rows d → ⊥))
  class_is are false b test is = (λ e. absurd cc, λ x. test.1 x.0)
  class_is are true b test is = by (test.0 refl) (row_shown (test.0 refl)) (list_any is_static_word (row_shown (test.0 refl)).row.modifiers) refl
    where
      by : (shown : shown_one one (decl_at rows j) ≡ one d) (row : IsRowOf rows d j) (w : Bool) → list_any is_static_word row.row.modifiers ≡ w → IsTrue (true && not b) ↔ ((shown_one one (decl_at rows j) ≡ one d) × (IsInstanceDecl rows d → ⊥))
      by shown row true e = (
        λ t. (shown, λ s. let no : true ≡ false = sym e ∙ instance_means are row s in cc),
        λ x. ap not (is ∙ is_instance row ∙ ap not e),
      )
      by shown row false e = (
        λ t. let no : false ≡ true = sym (ap (λ w. not (not w)) e) ∙ ap not (sym (is_instance row)) ∙ ap not (sym is) ∙ t in absurd cc,
        λ x. absurd (x.1 (j, row, e)),
      )
