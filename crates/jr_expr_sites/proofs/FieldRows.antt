-- A field's row is the one that its class has of its name.
use Rattle.std.proofs.Common.{◌≡◌, ℕ, List, Option, Some, None, length, refl, sym, ap, subst, ◌∙◌}
use Rattle.std.specs.Prelude.{unwrap_or}
use Rattle.jr_table.specs.declared.entries.Entry.{Entry}
use Rattle.jr_table.specs.Keys.{FieldKey}
use Rattle.jr_table.specs.Decls.{class_decl, field_decl}
use Rattle.jr_table.specs.Rows.{Row}
use Rattle.jr_table.specs.Entries.{IsRowOf, number_of, class_number, class_of, name_of, sort_of, entry_of, entries_of}
use Rattle.jr_table.specs.Conditions.{AreRows, as_declarer}
use Rattle.jr_table.specs.Members.{DeclaresField}
use Rattle.jr_table.specs.Looking.{is_field, own_row}
use Rattle.jr_table.proofs.MemberLaws.{Says}
use Rattle.jr_table.proofs.OneEach.{is_field_decl, one_class}
use Rattle.jr_table.proofs.RowLaws.{number_stands, number_none, the_number, entry_stands, row_at}
use Rattle.jr_table.proofs.Testing.{field_says}

same_field : (j k : FieldKey) → j.class ≡ k.class → j.name ≡ k.name → field_decl j ≡ field_decl k
same_field j k c n = ap field_decl (λ i. record { class = c i; name = n i })

module _ (rows : List Row) (are : AreRows rows) (k : FieldKey) where
  -- the class of a field that has a row has one
  class_stands : (j : ℕ) → IsRowOf rows (field_decl k) j → (n : ℕ) × IsRowOf rows (class_decl k.class) n
  class_stands j r = are.named j r.row k.class r.stands (as_declarer (ap class_of r.declares))

  -- a class without a row has no fields
  pub no_class : number_of rows (class_decl k.class) ≡ None → number_of rows (field_decl k) ≡ None
  no_class none = by (number_of rows (field_decl k)) refl
    where
      by : (o : Option ℕ) → number_of rows (field_decl k) ≡ o → number_of rows (field_decl k) ≡ None
      by None e = e
      by (Some j) e =
          let c = class_stands j (number_stands rows (field_decl k) j e) in
          absurd (number_none rows (class_decl k.class) none c.0 c.1)

  module _ (c : ℕ) (of : number_of rows (class_decl k.class) ≡ Some c) where
    numbered : class_number rows k.class ≡ c
    numbered = ap (λ o. unwrap_or o (length rows)) of

    declares : (j : ℕ) → IsRowOf rows (field_decl k) j → DeclaresField (entries_of rows) k.name c j
    declares j r = record {
      row = entry_of rows r.row;
      stands = entry_stands rows j r.row r.stands;
      field = ap sort_of r.declares;
      class = ap (λ d. class_number rows (class_of d)) r.declares ∙ numbered;
      named = ap name_of r.declares;
    }

    is_row : (j : ℕ) → DeclaresField (entries_of rows) k.name c j → IsRowOf rows (field_decl k) j
    is_row j d =
        let r = row_at rows j d.row d.stands in
        let own = is_field_decl r.row.decl (sym (ap (λ (x : Entry). x.sort) r.is) ∙ d.field) in
        let there = are.named j r.row (class_of r.row.decl) r.stands (as_declarer refl) in
        let number : class_number rows (class_of r.row.decl) ≡ class_number rows k.class = sym (ap (λ (x : Entry). x.class) r.is) ∙ d.class ∙ sym numbered in
        let class = one_class rows are (class_of r.row.decl) k.class there.0 c there.1 (number_stands rows (class_decl k.class) c of) number in
        let name : name_of r.row.decl ≡ k.name = sym (ap (λ (x : Entry). x.name) r.is) ∙ d.named in
        record {
          row = r.row;
          stands = r.stands;
          declares = own.1 ∙ same_field own.0 k (sym (ap class_of own.1) ∙ class) (sym (ap name_of own.1) ∙ name);
        }

    pub own_is : own_row (entries_of rows) (is_field k.name) c ≡ number_of rows (field_decl k)
    own_is = by (own_row (entries_of rows) (is_field k.name) c) refl (field_says (entries_of rows) k.name c)
      where
        none : (o : Option ℕ) → number_of rows (field_decl k) ≡ o → ((j : ℕ) → DeclaresField (entries_of rows) k.name c j → ⊥) → None ≡ number_of rows (field_decl k)
        none None e never = sym e
        none (Some j) e never = absurd (never j (declares j (number_stands rows (field_decl k) j e)))

        by : (o : Option ℕ) → own_row (entries_of rows) (is_field k.name) c ≡ o → Says (DeclaresField (entries_of rows) k.name c) (own_row (entries_of rows) (is_field k.name) c) → own_row (entries_of rows) (is_field k.name) c ≡ number_of rows (field_decl k)
        by None e says = e ∙ none (number_of rows (field_decl k)) refl (subst (Says (DeclaresField (entries_of rows) k.name c)) e says)
        by (Some j) e says = e ∙ sym (the_number rows are (field_decl k) j (is_row j (subst (Says (DeclaresField (entries_of rows) k.name c)) e says)))
