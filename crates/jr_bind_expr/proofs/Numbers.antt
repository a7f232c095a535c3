-- What is computed by numbers is what is said by keys.
use Rattle.std.proofs.Common.{◌≡◌, ℕ, List, map, length, Option, Some, None, true, false, refl, sym, ap, ◌∙◌}
use Rattle.std.specs.Prelude.{slice_get, option_map, unwrap_or}
use Rattle.jr_table.specs.declared.answers.Answer.{Answer}
use Rattle.jr_table.specs.declared.answers.Answer.TheVariants.{One, Many, NotAccessible, FromStatic}
use Rattle.jr_table.specs.declared.entries.Kind.{Kind}
use Rattle.jr_table.specs.Keys.{ClassKey, Ty, int, boolean, void, null, class}
use Rattle.jr_table.specs.Decls.{Decl, class_decl, field_decl, method_decl, constructor_decl, local_decl}
use Rattle.jr_table.specs.Rows.{Row}
use Rattle.jr_table.specs.Entries.{class_number, kind_of, entries_of}
use Rattle.jr_table.specs.Conditions.{AreRows}
use Rattle.jr_table.specs.Found.{one, not_accessible, from_static}
use Rattle.jr_table.specs.Scope.{Scope}
use Rattle.jr_table.specs.Lookup.{decl_at, shown_one, shown_two, shown, find_type_named, find_type_of, find_field_in, find_method_named, find_method_of, find_ctor_of}
use Rattle.jr_table.specs.Fields.{find_field_of, find_member_type}
use Rattle.jr_table.specs.TypeNames.{find_type}
use Rattle.jr_table.specs.Calls.{find_call, find_method, find_ctor}
use Rattle.jr_table.specs.Meanings as pure
use Rattle.jr_table.specs.Meanings.{class_found, find_in, find_for}
use Rattle.jr_table.proofs.RowLaws.{the_number}
use Rattle.jr_bind_expr.specs.Numbered.{in_class, for_kinds, class_in, on_class, is_class}

module _ (rows : List Row) where
  -- a row that declares a class has the class's number
  class_here : AreRows rows → (j : ℕ) (r : Row) → slice_get rows j ≡ Some r → (k : ClassKey) → r.decl ≡ class_decl k → class_number rows k ≡ j
  class_here are j r at k is = ap (λ (o : Option ℕ). unwrap_or o (length rows)) (the_number rows are (class_decl k) j (record { row = r; stands = at; declares = is }))

  pub row_here : (j : ℕ) (d : Decl) → decl_at rows j ≡ Some d → (r : Row) × (slice_get rows j ≡ Some r) × (r.decl ≡ d)
  row_here j d h = by (slice_get rows j) refl h
    where
      by : (o : Option Row) → slice_get rows j ≡ o → option_map (λ (r : Row). r.decl) o ≡ Some d → (r : Row) × (slice_get rows j ≡ Some r) × (r.decl ≡ d)
      by None is e = absurd cc
      by (Some r) is e = (r, is, cc)

  one_class : AreRows rows → (j : ℕ) (d : Decl) → decl_at rows j ≡ Some d → is_class d ≡ true → Some j ≡ option_map (class_number rows) (class_found (one d))
  one_class are j (class_decl k) h is = let r = row_here j (class_decl k) h in ap Some (sym (class_here are j r.0 r.1 k r.2))
  one_class are j (field_decl k) h is = absurd cc
  one_class are j (method_decl k) h is = absurd cc
  one_class are j (constructor_decl k) h is = absurd cc
  one_class are j (local_decl k) h is = absurd cc

  other : (d : Decl) → is_class d ≡ false → class_found (one d) ≡ None
  other (class_decl k) is = absurd cc
  other (field_decl k) is = refl
  other (method_decl k) is = refl
  other (constructor_decl k) is = refl
  other (local_decl k) is = refl

  -- the class that a row declares
  pub class_shown : AreRows rows → (j : ℕ) (d : Decl) → decl_at rows j ≡ Some d → is_class d ≡ true → Some j ≡ option_map (class_number rows) (class_found (shown rows (One j)))
  unfolding shown
  class_shown are j d h is = one_class are j d h is ∙ sym (ap (λ o. option_map (class_number rows) (class_found (shown_one one o))) h)

  pub other_shown : (j : ℕ) (d : Decl) → decl_at rows j ≡ Some d → is_class d ≡ false → None ≡ option_map (class_number rows) (class_found (shown rows (One j)))
  unfolding shown
  other_shown j d h is = sym (ap (λ o. option_map (class_number rows) (class_found (shown_one one o))) h ∙ ap (option_map (class_number rows)) (other d is))

  pub none_shown : (j : ℕ) → decl_at rows j ≡ None → None ≡ option_map (class_number rows) (class_found (shown rows (One j)))
  unfolding shown
  none_shown j h = sym (ap (λ o. option_map (class_number rows) (class_found (shown_one one o))) h)

  -- what isn't one declaration is no class
  pub many_shown : (j k : ℕ) → None ≡ option_map (class_number rows) (class_found (shown rows (Many j k)))
  unfolding shown
  many_shown j k = by (decl_at rows j) (decl_at rows k)
    where
      by : (a b : Option Decl) → None ≡ option_map (class_number rows) (class_found (shown_two a b))
      by None None = refl
      by None (Some d) = refl
      by (Some d) None = refl
      by (Some d) (Some e) = refl

  pub private_shown : (j : ℕ) → None ≡ option_map (class_number rows) (class_found (shown rows (NotAccessible j)))
  unfolding shown
  private_shown j = by (decl_at rows j)
    where
      by : (a : Option Decl) → None ≡ option_map (class_number rows) (class_found (shown_one not_accessible a))
      by None = refl
      by (Some d) = refl

  pub static_shown : (j : ℕ) → None ≡ option_map (class_number rows) (class_found (shown rows (FromStatic j)))
  unfolding shown
  static_shown j = by (decl_at rows j)
    where
      by : (a : Option Decl) → None ≡ option_map (class_number rows) (class_found (shown_one from_static a))
      by None = refl
      by (Some d) = refl

  -- what is found in a class, and for arguments
  pub in_class_is : (o : Option ClassKey) (find : ℕ → Answer) → shown rows (in_class (option_map (class_number rows) o) find) ≡ find_in o (λ k. shown rows (find (class_number rows k)))
  unfolding shown
  in_class_is None find = refl
  in_class_is (Some k) find = refl

  pub for_kinds_is : (ts : Option (List Ty)) (find : List Kind → Answer) → shown rows (for_kinds (option_map (map (kind_of rows)) ts) find) ≡ find_for ts (λ us. shown rows (find (map (kind_of rows) us)))
  unfolding shown
  for_kinds_is None find = refl
  for_kinds_is (Some ts) find = refl

  pub class_in_is : (t : Option Ty) → class_in (option_map (kind_of rows) t) ≡ option_map (class_number rows) (pure.class_in t)
  class_in_is None = refl
  class_in_is (Some int) = refl
  class_in_is (Some boolean) = refl
  class_in_is (Some void) = refl
  class_in_is (Some null) = refl
  class_in_is (Some (class k)) = refl

  pub on_class_is : (o : Option ClassKey) (t : Option Ty) → on_class (option_map (class_number rows) o) (option_map (kind_of rows) t) ≡ option_map (class_number rows) (pure.on_class o t)
  on_class_is None t = class_in_is t
  on_class_is (Some k) t = refl

  -- lookups by keys, at a place of class p
  module _ (s : Scope) (p : ℕ) (here : class_number rows s.class ≡ p) where
    pub fields_are : (o : Option ClassKey) (name : List ℕ) → shown rows (in_class (option_map (class_number rows) o) (λ c. find_field_of (entries_of rows) p c name)) ≡ find_in o (λ k. find_field_in rows s k name)
    unfolding shown find_field_in
    fields_are None name = refl
    fields_are (Some k) name = λ i. shown rows (find_field_of (entries_of rows) (sym here i) (class_number rows k) name)

    pub named_is : (name : List ℕ) → shown rows (find_type rows p name) ≡ find_type_named rows s name
    unfolding find_type_named
    named_is name = λ i. shown rows (find_type rows (sym here i) name)

    pub types_are : (o : Option ClassKey) (name : List ℕ) → shown rows (in_class (option_map (class_number rows) o) (λ c. find_member_type (entries_of rows) p c name)) ≡ find_in o (λ k. find_type_of rows s k name)
    unfolding shown find_type_of
    types_are None name = refl
    types_are (Some k) name = λ i. shown rows (find_member_type (entries_of rows) (sym here i) (class_number rows k) name)

    pub methods_are : (o : Option ClassKey) (name : List ℕ) (ts : Option (List Ty))
        → shown rows (in_class (option_map (class_number rows) o) (λ c. for_kinds (option_map (map (kind_of rows)) ts) (λ us. find_method (entries_of rows) p c name us))) ≡ find_in o (λ k. find_for ts (λ us. find_method_of rows s k name us))
    unfolding shown find_method_of
    methods_are None name ts = refl
    methods_are (Some k) name None = refl
    methods_are (Some k) name (Some ts) = λ i. shown rows (find_method (entries_of rows) (sym here i) (class_number rows k) name (map (kind_of rows) ts))

    pub ctors_are : (o : Option ClassKey) (ts : Option (List Ty))
        → shown rows (in_class (option_map (class_number rows) o) (λ c. for_kinds (option_map (map (kind_of rows)) ts) (λ us. find_ctor (entries_of rows) p c us))) ≡ find_in o (λ k. find_for ts (λ us. find_ctor_of rows s k us))
    unfolding shown find_ctor_of
    ctors_are None ts = refl
    ctors_are (Some k) None = refl
    ctors_are (Some k) (Some ts) = λ i. shown rows (find_ctor (entries_of rows) (sym here i) (class_number rows k) (map (kind_of rows) ts))

    pub calls_are : (name : List ℕ) (ts : Option (List Ty)) → shown rows (for_kinds (option_map (map (kind_of rows)) ts) (λ us. find_call (entries_of rows) p s.is_static name us)) ≡ find_for ts (λ us. find_method_named rows s name us)
    unfolding shown find_method_named
    calls_are name None = refl
    calls_are name (Some ts) = λ i. shown rows (find_call (entries_of rows) (sym here i) s.is_static name (map (kind_of rows) ts))
