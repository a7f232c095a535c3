-- A class declares one constructor of a list of parameter types.
use Rattle.std.proofs.Common.{◌≡◌, ℕ, List, map, Option, Some, refl, sym, ap, ◌∙◌}
use Rattle.std.specs.Prelude.{slice_get}
use Rattle.jr_table.specs.declared.entries.Kind.{Kind}
use Rattle.jr_table.specs.declared.entries.Sort.TheVariants as sort
use Rattle.jr_table.specs.declared.entries.Entry.{Entry}
use Rattle.jr_table.specs.Keys.{CtorKey}
use Rattle.jr_table.specs.Decls.{Decl, class_decl, field_decl, method_decl, constructor_decl, local_decl}
use Rattle.jr_table.specs.Rows.{Row}
use Rattle.jr_table.specs.Entries.{sort_of, class_of, params_of, entries_of, kind_of, class_number}
use Rattle.jr_table.specs.Conditions.{AreRows, as_declarer}
use Rattle.jr_table.specs.Calls.{DeclaresCtor}
use Rattle.jr_table.proofs.RowLaws.{RowAt, row_at}
use Rattle.jr_table.proofs.OneEach.{one_class, one_params}

is_ctor_decl : (d : Decl) → sort_of d ≡ sort.Ctor → (k : CtorKey) × (d ≡ constructor_decl k)
is_ctor_decl (constructor_decl k) e = (k, refl)
is_ctor_decl (class_decl k) e = absurd cc
is_ctor_decl (field_decl k) e = absurd cc
is_ctor_decl (method_decl k) e = absurd cc
is_ctor_decl (local_decl k) e = absurd cc

same_ctor : (j k : CtorKey) → j.class ≡ k.class → j.params ≡ k.params → constructor_decl j ≡ constructor_decl k
same_ctor j k c p = ap constructor_decl (λ i. record { class = c i; params = p i })

module _ (rows : List Row) (are : AreRows rows) where
  ctors : (i j : ℕ) (r s : Row) → slice_get rows i ≡ Some r → slice_get rows j ≡ Some s → sort_of r.decl ≡ sort.Ctor → sort_of s.decl ≡ sort.Ctor
      → class_number rows (class_of r.decl) ≡ class_number rows (class_of s.decl) → map (kind_of rows) (params_of r.decl) ≡ map (kind_of rows) (params_of s.decl) → i ≡ j
  ctors i j r s at bt fr fs c p =
      let a = is_ctor_decl r.decl fr in
      let b = is_ctor_decl s.decl fs in
      let n = are.named i r (class_of r.decl) at (as_declarer refl) in
      let m = are.named j s (class_of s.decl) bt (as_declarer refl) in
      let class = one_class rows are (class_of r.decl) (class_of s.decl) n.0 m.0 n.1 m.1 c in
      let params = one_params rows are i j r s at bt p in
      let same = a.1 ∙ same_ctor a.0 b.0 (sym (ap class_of a.1) ∙ class ∙ ap class_of b.1) (sym (ap params_of a.1) ∙ params ∙ ap params_of b.1) ∙ sym b.1 in
      are.one_each s.decl i j (record { row = r; stands = at; declares = same }) (record { row = s; stands = bt; declares = refl })

  pub one_ctor : (params : List Kind) (c i j : ℕ) → DeclaresCtor (entries_of rows) params c i → DeclaresCtor (entries_of rows) params c j → i ≡ j
  one_ctor params c i j d e =
      let a = row_at rows i d.row d.stands in
      let b = row_at rows j e.row e.stands in
      ctors i j a.row b.row a.stands b.stands
      (sym (ap (λ (x : Entry). x.sort) a.is) ∙ d.constructor) (sym (ap (λ (x : Entry). x.sort) b.is) ∙ e.constructor)
      (sym (ap (λ (x : Entry). x.class) a.is) ∙ d.class ∙ sym e.class ∙ ap (λ (x : Entry). x.class) b.is)
      (sym (ap (λ (x : Entry). x.params) a.is) ∙ d.takes ∙ sym e.takes ∙ ap (λ (x : Entry). x.params) b.is)
