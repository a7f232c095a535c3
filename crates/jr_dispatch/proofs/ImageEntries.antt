-- A program and the one that a renaming makes of it differ in names alone.
use Rattle.std.proofs.Common.{◌≡◌, ℕ, List, [], ◌∷◌, map, Option, Some, None, refl, sym, ap, subst, ◌∙◌, inl, inr}
use Rattle.std.specs.Prelude.{slice_get, option_map, option_and_then}
use Rattle.std.proofs.lemmas.Option.{slice_get-map}
use Rattle.jr_table.specs.declared.entries.Kind.{Kind}
use Rattle.jr_table.specs.declared.entries.Kind.TheVariants as kind
use Rattle.jr_table.specs.declared.entries.Entry.{Entry}
use Rattle.jr_table.specs.Keys.{ClassKey, Ty, int, boolean, void, null, class}
use Rattle.jr_table.specs.Decls.{MemberKey, head, field, method, constructor, Decl, class_decl, field_decl, method_decl, constructor_decl, local_decl}
use Rattle.jr_table.specs.Rows.{Row}
use Rattle.jr_table.specs.Entries.{IsRowOf, number_of, class_number, kind_of, class_of_member, class_of, params_of, sort_of, entry_of, entries_of}
use Rattle.jr_table.specs.Conditions.{AreRows, TypesName, as_declarer, as_superclass, as_parameter}
use Rattle.jr_table.specs.Chains.{parent_of}
use Rattle.jr_table.proofs.RowLaws.{the_number, row_at, acyclic_rows, entry_at}
use Rattle.jr_table.proofs.OneEach.{class_stands, one_virtual}
use Rattle.jr_images.specs.Images.{Renaming, class_to, type_to, types_to, member_to, decl_to, row_to, rows_to}
use Rattle.jr_images.proofs.Imaging.{map_some}
use Rattle.jr_images.proofs.KeyImages.{decl_class_to, params_to, sort_to, new_entry, at_new}
use Rattle.jr_dispatch.specs.Changes.{IsLike, AreAlike}
use Rattle.jr_dispatch.proofs.Parting.{Programs}

module _ (g : Renaming) where
  module _ (rows : List Row) where
    pub row_goes : (d : Decl) (j : ℕ) → IsRowOf rows d j → IsRowOf (rows_to g rows) (decl_to g d) j
    row_goes d j r = record {
      row = row_to g r.row;
      stands = slice_get-map (row_to g) rows j ∙ ap (option_map (row_to g)) r.stands;
      declares = ap (decl_to g) r.declares;
    }

    module _ (are : AreRows rows) (news : AreRows (rows_to g rows)) where
      number_to : (k : ClassKey) (n : ℕ) → IsRowOf rows (class_decl k) n → number_of (rows_to g rows) (class_decl (class_to g k)) ≡ number_of rows (class_decl k)
      number_to k n r = the_number (rows_to g rows) news (class_decl (class_to g k)) n (row_goes (class_decl k) n r) ∙ sym (the_number rows are (class_decl k) n r)

      class_number_to : (k : ClassKey) (n : ℕ) → IsRowOf rows (class_decl k) n → class_number (rows_to g rows) (class_to g k) ≡ class_number rows k
      class_number_to k n r = class_stands (rows_to g rows) news (class_to g k) n (row_goes (class_decl k) n r) ∙ sym (class_stands rows are k n r)

      kind_to : (t : Ty) → ((k : ClassKey) → t ≡ class k → (n : ℕ) × IsRowOf rows (class_decl k) n) → kind_of (rows_to g rows) (type_to g t) ≡ kind_of rows t
      kind_to int named = refl
      kind_to boolean named = refl
      kind_to void named = refl
      kind_to null named = refl
      kind_to (class k) named = let n = named k refl in ap kind.Class (class_number_to k n.0 n.1)

      kinds_to : (ts : List Ty) → ((k : ClassKey) → TypesName ts k → (n : ℕ) × IsRowOf rows (class_decl k) n) → map (kind_of (rows_to g rows)) (types_to g ts) ≡ map (kind_of rows) ts
      kinds_to [] named = refl
      kinds_to (t ∷ ts) named = λ i. kind_to t (λ k e. named k (inl e)) i ∷ kinds_to ts (λ k h. named k (inr h)) i

      parent_to : (o : Option ClassKey) → ((k : ClassKey) → o ≡ Some k → (n : ℕ) × IsRowOf rows (class_decl k) n)
          → option_and_then (λ (k : ClassKey). number_of (rows_to g rows) (class_decl k)) (option_map (class_to g) o) ≡ option_and_then (λ (k : ClassKey). number_of rows (class_decl k)) o
      parent_to None named = refl
      parent_to (Some k) named = let n = named k refl in number_to k n.0 n.1

      module _ (j : ℕ) (r : Row) (at : slice_get rows j ≡ Some r) where
        class_entry : (new_entry g rows r).class ≡ (entry_of rows r).class
        class_entry = let n = are.named j r (class_of r.decl) at (as_declarer refl) in ap (class_number (rows_to g rows)) (decl_class_to g r.decl) ∙ class_number_to (class_of r.decl) n.0 n.1

        params_entry : (new_entry g rows r).params ≡ (entry_of rows r).params
        params_entry = ap (map (kind_of (rows_to g rows))) (params_to g r.decl) ∙ kinds_to (params_of r.decl) (λ k h. are.named j r k at (as_parameter h))

        parent_entry : (new_entry g rows r).parent ≡ (entry_of rows r).parent
        parent_entry = parent_to r.parent (λ k e. are.named j r k at (as_superclass e))

        like : IsLike (entry_of rows r) (new_entry g rows r)
        like = record { of_sort = sort_to g r.decl; of_class = class_entry; takes = params_entry; private = refl; static = refl }

      parent_at : (c : ℕ) → parent_of (entries_of (rows_to g rows)) c ≡ parent_of (entries_of rows) c
      parent_at c = ap (option_and_then (λ (x : Entry). x.parent)) (at_new g rows c) ∙ of (slice_get rows c) refl ∙ sym (ap (option_and_then (λ (x : Entry). x.parent)) (entry_at rows c))
        where
          of : (o : Option Row) → slice_get rows c ≡ o → option_and_then (λ (x : Entry). x.parent) (option_map (new_entry g rows) o) ≡ option_and_then (λ (x : Entry). x.parent) (option_map (entry_of rows) o)
          of None e = refl
          of (Some r) e = parent_entry c r e

      pub alike : AreAlike (entries_of rows) (entries_of (rows_to g rows))
      alike = record {
        parents = parent_at;
        there = λ j e at.
            let r = map_some (entry_of rows) (slice_get rows j) e (sym (entry_at rows j) ∙ at) in
            (new_entry g rows r.0, at_new g rows j ∙ ap (option_map (new_entry g rows)) r.1, subst (λ (z : Entry). IsLike z (new_entry g rows r.0)) r.2 (like j r.0 r.1));
        back = λ j f at.
            let r = map_some (new_entry g rows) (slice_get rows j) f (sym (at_new g rows j) ∙ at) in
            (entry_of rows r.0, entry_at rows j ∙ ap (option_map (entry_of rows)) r.1, subst (λ (z : Entry). IsLike (entry_of rows r.0) z) r.2 (like j r.0 r.1));
      }
