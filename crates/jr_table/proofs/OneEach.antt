-- A class declares one field of a name, one member type of a name, one method of a name and parameter types.
use Rattle.std.proofs.Common.{◌≡◌, ℕ, ◌<◌, List, [], ◌∷◌, length, map, Option, Some, None, refl, sym, ap, subst, ◌∙◌, inl, inr, arith}
use Rattle.std.specs.Prelude.{slice_get, unwrap_or, option_and_then}
use Rattle.jr_table.specs.declared.entries.Kind.{Kind}
use Rattle.jr_table.specs.declared.entries.Kind.TheVariants as kind
use Rattle.jr_table.specs.declared.entries.Sort.{Sort}
use Rattle.jr_table.specs.declared.entries.Sort.TheVariants as sort
use Rattle.jr_table.specs.declared.entries.Entry.{Entry}
use Rattle.jr_table.specs.Keys.{ClassKey, FieldKey, MethodKey, CtorKey, Ty, int, boolean, void, null, class}
use Rattle.jr_table.specs.Decls.{Decl, class_decl, field_decl, method_decl, constructor_decl, local_decl}
use Rattle.jr_table.specs.Rows.{Row}
use Rattle.jr_table.specs.Entries.{IsRowOf, number_of, class_number, kind_of, sort_of, class_of, name_of, params_of, outer_name, top_class, entry_of, entries_of}
use Rattle.jr_table.specs.Conditions.{AreRows, Names, as_declarer, as_outer, as_superclass, as_type, as_parameter, TypesName}
use Rattle.jr_table.specs.Members.{DeclaresField, DeclaresMethod, DeclaresType, DeclaresVirtual}
use Rattle.jr_table.specs.Prelude.{top_key}
use Rattle.jr_table.proofs.RowLaws.{number_stands, RowAt, row_at, the_number, some_inside}

-- what a declaration of each sort is
pub is_field_decl : (d : Decl) → sort_of d ≡ sort.Field → (k : FieldKey) × (d ≡ field_decl k)
is_field_decl (field_decl k) e = (k, refl)
is_field_decl (class_decl k) e = absurd cc
is_field_decl (method_decl k) e = absurd cc
is_field_decl (constructor_decl k) e = absurd cc
is_field_decl (local_decl k) e = absurd cc

pub is_method_decl : (d : Decl) → sort_of d ≡ sort.Method → (k : MethodKey) × (d ≡ method_decl k)
is_method_decl (method_decl k) e = (k, refl)
is_method_decl (field_decl k) e = absurd cc
is_method_decl (class_decl k) e = absurd cc
is_method_decl (constructor_decl k) e = absurd cc
is_method_decl (local_decl k) e = absurd cc

pub is_class_decl : (d : Decl) → sort_of d ≡ sort.Class → (k : ClassKey) × (d ≡ class_decl k)
is_class_decl (class_decl k) e = (k, refl)
is_class_decl (field_decl k) e = absurd cc
is_class_decl (method_decl k) e = absurd cc
is_class_decl (constructor_decl k) e = absurd cc
is_class_decl (local_decl k) e = absurd cc

one_class_key : (j k : ClassKey) → class_decl j ≡ class_decl k → j ≡ k
one_class_key j k e = cc

one_number : (a b : ℕ) → kind.Class a ≡ kind.Class b → a ≡ b
one_number a b e = cc

module _ (rows : List Row) (are : AreRows rows) where
  -- a row declares one thing
  one_decl : (d e : Decl) (j : ℕ) → IsRowOf rows d j → IsRowOf rows e j → d ≡ e
  one_decl d e j r s = let same = some_inside (slice_get rows j) r.row s.row r.stands s.stands in sym r.declares ∙ ap (λ (x : Row). x.decl) same ∙ s.declares

  -- classes that have rows are told apart by their numbers
  pub class_stands : (k : ClassKey) (n : ℕ) → IsRowOf rows (class_decl k) n → class_number rows k ≡ n
  class_stands k n r = ap (λ o. unwrap_or o (length rows)) (the_number rows are (class_decl k) n r)

  pub one_class : (j k : ClassKey) (n m : ℕ) → IsRowOf rows (class_decl j) n → IsRowOf rows (class_decl k) m → class_number rows j ≡ class_number rows k → j ≡ k
  one_class j k n m r s e =
      let same : n ≡ m = sym (class_stands j n r) ∙ e ∙ class_stands k m s in
      one_class_key j k (one_decl (class_decl j) (class_decl k) m (subst (λ (x : ℕ). IsRowOf rows (class_decl j) x) same r) s)

  -- classes that rows name
  named_class : (i j : ℕ) (r s : Row) (a b : ClassKey) → slice_get rows i ≡ Some r → slice_get rows j ≡ Some s → Names r a → Names s b → class_number rows a ≡ class_number rows b → a ≡ b
  named_class i j r s a b at bt na nb e =
      let n = are.named i r a at na in
      let m = are.named j s b bt nb in
      one_class a b n.0 m.0 n.1 m.1 e

  module _ (i j : ℕ) (r s : Row) (at : slice_get rows i ≡ Some r) (bt : slice_get rows j ≡ Some s) where
    one_type : (a b : Ty) → ((k : ClassKey) → a ≡ class k → Names r k) → ((k : ClassKey) → b ≡ class k → Names s k) → kind_of rows a ≡ kind_of rows b → a ≡ b
    one_type int int na nb e = refl
    one_type boolean boolean na nb e = refl
    one_type void void na nb e = refl
    one_type null null na nb e = refl
    one_type (class a) (class b) na nb e = ap class (named_class i j r s a b at bt (na a refl) (nb b refl) (one_number (class_number rows a) (class_number rows b) e))
    one_type _ _ na nb e = absurd cc

    one_types : (xs ys : List Ty) → ((k : ClassKey) → TypesName xs k → Names r k) → ((k : ClassKey) → TypesName ys k → Names s k) → map (kind_of rows) xs ≡ map (kind_of rows) ys → xs ≡ ys
    one_types [] [] na nb e = refl
    one_types [] (y ∷ ys) na nb e = absurd cc
    one_types (x ∷ xs) [] na nb e = absurd cc
    one_types (x ∷ xs) (y ∷ ys) na nb e =
        let first : kind_of rows x ≡ kind_of rows y = cc in
        let rest : map (kind_of rows) xs ≡ map (kind_of rows) ys = cc in
        (λ t. one_type x y (λ k h. na k (inl h)) (λ k h. nb k (inl h)) first t ∷ one_types xs ys (λ k h. na k (inr h)) (λ k h. nb k (inr h)) rest t)

    pub one_params : map (kind_of rows) (params_of r.decl) ≡ map (kind_of rows) (params_of s.decl) → params_of r.decl ≡ params_of s.decl
    one_params e = one_types (params_of r.decl) (params_of s.decl) (λ k h. as_parameter h) (λ k h. as_parameter h) e

  -- two rows of one declaration
  one_row : (i j : ℕ) (r s : Row) → slice_get rows i ≡ Some r → slice_get rows j ≡ Some s → r.decl ≡ s.decl → i ≡ j
  one_row i j r s at bt e = are.one_each s.decl i j (record { row = r; stands = at; declares = e }) (record { row = s; stands = bt; declares = refl })

  same_field : (j k : FieldKey) → j.class ≡ k.class → j.name ≡ k.name → field_decl j ≡ field_decl k
  same_field j k c n = ap field_decl (λ i. record { class = c i; name = n i })

  same_method : (j k : MethodKey) → j.class ≡ k.class → j.name ≡ k.name → j.params ≡ k.params → method_decl j ≡ method_decl k
  same_method j k c n p = ap method_decl (λ i. record { class = c i; name = n i; params = p i })

  same_key : (j k : ClassKey) → j.outer ≡ k.outer → j.name ≡ k.name → class_decl j ≡ class_decl k
  same_key j k o n = ap class_decl (λ i. record { outer = o i; name = n i })

  -- fields
  fields : (i j : ℕ) (r s : Row) → slice_get rows i ≡ Some r → slice_get rows j ≡ Some s → sort_of r.decl ≡ sort.Field → sort_of s.decl ≡ sort.Field
      → class_number rows (class_of r.decl) ≡ class_number rows (class_of s.decl) → name_of r.decl ≡ name_of s.decl → i ≡ j
  fields i j r s at bt fr fs c n =
      let a = is_field_decl r.decl fr in
      let b = is_field_decl s.decl fs in
      let class = named_class i j r s (class_of r.decl) (class_of s.decl) at bt (as_declarer refl) (as_declarer refl) c in
      one_row i j r s at bt (a.1 ∙ same_field a.0 b.0 (sym (ap class_of a.1) ∙ class ∙ ap class_of b.1) (sym (ap name_of a.1) ∙ n ∙ ap name_of b.1) ∙ sym b.1)

  pub one_field : (name : List ℕ) (c i j : ℕ) → DeclaresField (entries_of rows) name c i → DeclaresField (entries_of rows) name c j → i ≡ j
  one_field name c i j d e =
      let a = row_at rows i d.row d.stands in
      let b = row_at rows j e.row e.stands in
      fields i j a.row b.row a.stands b.stands
      (sym (ap (λ (x : Entry). x.sort) a.is) ∙ d.field) (sym (ap (λ (x : Entry). x.sort) b.is) ∙ e.field)
      (sym (ap (λ (x : Entry). x.class) a.is) ∙ d.class ∙ sym e.class ∙ ap (λ (x : Entry). x.class) b.is)
      (sym (ap (λ (x : Entry). x.name) a.is) ∙ d.named ∙ sym e.named ∙ ap (λ (x : Entry). x.name) b.is)

  methods : (i j : ℕ) (r s : Row) → slice_get rows i ≡ Some r → slice_get rows j ≡ Some s → sort_of r.decl ≡ sort.Method → sort_of s.decl ≡ sort.Method
      → class_number rows (class_of r.decl) ≡ class_number rows (class_of s.decl) → name_of r.decl ≡ name_of s.decl → map (kind_of rows) (params_of r.decl) ≡ map (kind_of rows) (params_of s.decl) → i ≡ j
  methods i j r s at bt fr fs c n p =
      let a = is_method_decl r.decl fr in
      let b = is_method_decl s.decl fs in
      let class = named_class i j r s (class_of r.decl) (class_of s.decl) at bt (as_declarer refl) (as_declarer refl) c in
      let params = one_params i j r s at bt p in
      one_row i j r s at bt (a.1 ∙ same_method a.0 b.0 (sym (ap class_of a.1) ∙ class ∙ ap class_of b.1) (sym (ap name_of a.1) ∙ n ∙ ap name_of b.1) (sym (ap params_of a.1) ∙ params ∙ ap params_of b.1) ∙ sym b.1)

  pub one_method : (name : List ℕ) (params : List Kind) (c i j : ℕ) → DeclaresMethod (entries_of rows) name params c i → DeclaresMethod (entries_of rows) name params c j → i ≡ j
  one_method name params c i j d e =
      let a = row_at rows i d.row d.stands in
      let b = row_at rows j e.row e.stands in
      methods i j a.row b.row a.stands b.stands
      (sym (ap (λ (x : Entry). x.sort) a.is) ∙ d.method) (sym (ap (λ (x : Entry). x.sort) b.is) ∙ e.method)
      (sym (ap (λ (x : Entry). x.class) a.is) ∙ d.class ∙ sym e.class ∙ ap (λ (x : Entry). x.class) b.is)
      (sym (ap (λ (x : Entry). x.name) a.is) ∙ d.named ∙ sym e.named ∙ ap (λ (x : Entry). x.name) b.is)
      (sym (ap (λ (x : Entry). x.params) a.is) ∙ d.takes ∙ sym e.takes ∙ ap (λ (x : Entry). x.params) b.is)

  pub one_virtual : (name : List ℕ) (params : List Kind) (c i j : ℕ) → DeclaresVirtual (entries_of rows) name params c i → DeclaresVirtual (entries_of rows) name params c j → i ≡ j
  one_virtual name params c i j d e = one_method name params c i j d.declared e.declared

  -- the class around a class
  outer_names : (o : Option (List ℕ)) (c : ℕ) → option_and_then (λ name. number_of rows (top_class name)) o ≡ Some c → (name : List ℕ) × (o ≡ Some name) × IsRowOf rows (top_class name) c
  outer_names None c h = absurd cc
  outer_names (Some name) c h = (name, refl, number_stands rows (top_class name) c h)

  one_name : (a b : List ℕ) → top_class a ≡ top_class b → a ≡ b
  one_name a b e = ap (λ (k : ClassKey). k.name) (one_class_key (top_key a) (top_key b) e)

  types : (i j c : ℕ) (r s : Row) → slice_get rows i ≡ Some r → slice_get rows j ≡ Some s → sort_of r.decl ≡ sort.Class → sort_of s.decl ≡ sort.Class
      → option_and_then (λ name. number_of rows (top_class name)) (outer_name r.decl) ≡ Some c → option_and_then (λ name. number_of rows (top_class name)) (outer_name s.decl) ≡ Some c
      → name_of r.decl ≡ name_of s.decl → i ≡ j
  types i j c r s at bt fr fs oa ob n =
      let a = is_class_decl r.decl fr in
      let b = is_class_decl s.decl fs in
      let x = outer_names (outer_name r.decl) c oa in
      let y = outer_names (outer_name s.decl) c ob in
      let same = one_name x.0 y.0 (one_decl (top_class x.0) (top_class y.0) c x.2 y.2) in
      let outer : outer_name r.decl ≡ outer_name s.decl = x.1 ∙ ap Some same ∙ sym y.1 in
      one_row i j r s at bt (a.1 ∙ same_key a.0 b.0 (sym (ap outer_name a.1) ∙ outer ∙ ap outer_name b.1) (sym (ap name_of a.1) ∙ n ∙ ap name_of b.1) ∙ sym b.1)

  pub one_member_type : (name : List ℕ) (c i j : ℕ) → DeclaresType (entries_of rows) name c i → DeclaresType (entries_of rows) name c j → i ≡ j
  one_member_type name c i j d e =
      let a = row_at rows i d.row d.stands in
      let b = row_at rows j e.row e.stands in
      types i j c a.row b.row a.stands b.stands
      (sym (ap (λ (x : Entry). x.sort) a.is) ∙ d.type) (sym (ap (λ (x : Entry). x.sort) b.is) ∙ e.type)
      (sym (ap (λ (x : Entry). x.outer) a.is) ∙ d.outer) (sym (ap (λ (x : Entry). x.outer) b.is) ∙ e.outer)
      (sym (ap (λ (x : Entry). x.name) a.is) ∙ d.named ∙ sym e.named ∙ ap (λ (x : Entry). x.name) b.is)
