-- The rows that a renaming without classes makes meet what rows must.
use Rattle.std.proofs.Common.{◌≡◌, ℕ, zero, suc, ◌<◌, List, ◌++◌, length, Option, Some, refl, sym, ap, subst, ◌∙◌}
use Rattle.std.specs.Prelude.{◌^◌, option_map, slice_get, codes}
use Rattle.std.specs.List.{position_or_len}
use Rattle.std.proofs.lemmas.Option.{slice_get-map}
use Rattle.jr_table.specs.Keys.{ClassKey, FieldKey, MethodKey, CtorKey, Ty, class}
use Rattle.jr_table.specs.Decls.{LocalKey, Decl, class_decl, field_decl, method_decl, constructor_decl, local_decl}
use Rattle.jr_table.specs.Rows.{Row}
use Rattle.jr_table.specs.Prelude.{prelude_rows, top_key}
use Rattle.jr_table.specs.Entries.{IsRowOf, params_of, entries_of}
use Rattle.jr_table.specs.Chains.{Climbs}
use Rattle.jr_table.specs.Conditions.{TypesName, Names, as_declarer, as_outer, as_superclass, as_type, as_parameter, AreRows}
use Rattle.jr_spell.specs.Binds.{is_dot}
use Rattle.jr_members.proofs.Walking.{map_join}
use Rattle.jr_images.specs.Images.{Renaming, name_to, class_to, type_to, types_to, decl_to, row_to, rows_to}
use Rattle.jr_images.specs.RenameLaws.{IsFair}
use Rattle.jr_images.proofs.Imaging.{map_some}
use Rattle.jr_images.proofs.KeyImages.{old_row}
use Rattle.jr_rename_laws.proofs.Still.{IsStill, class_same, type_same, types_same, prelude_same}
use Rattle.jr_rename_laws.proofs.TypesFound.{of_same, outer_same, count_same, parent_at, class_row}
use Rattle.jr_rename_laws.proofs.DeclarationRows.{RowFor, NoLocals, no_local_at}

-- fields, and methods, that have rows and get one name have one
pub record KeysApart (g : Renaming) (rows : List Row) : Type 0 where
  pub field : (f h : FieldKey) → RowFor rows (field_decl f) → RowFor rows (field_decl h) → f.class ≡ h.class
      → name_to g (field_decl f) f.name ≡ name_to g (field_decl h) h.name → f.name ≡ h.name
  pub method : (m n : MethodKey) → RowFor rows (method_decl m) → RowFor rows (method_decl n) → m.class ≡ n.class → m.params ≡ n.params
      → name_to g (method_decl m) m.name ≡ name_to g (method_decl n) n.name → m.name ≡ n.name

abbrev pub class_in : ClassKey → Decl → ClassKey
class_in d (class_decl k) = k
class_in d (field_decl k) = d
class_in d (method_decl k) = d
class_in d (constructor_decl k) = d
class_in d (local_decl k) = d

abbrev pub field_in : FieldKey → Decl → FieldKey
field_in d (class_decl k) = d
field_in d (field_decl k) = k
field_in d (method_decl k) = d
field_in d (constructor_decl k) = d
field_in d (local_decl k) = d

abbrev pub method_in : MethodKey → Decl → MethodKey
method_in d (class_decl k) = d
method_in d (field_decl k) = d
method_in d (method_decl k) = k
method_in d (constructor_decl k) = d
method_in d (local_decl k) = d

abbrev pub ctor_in : CtorKey → Decl → CtorKey
ctor_in d (class_decl k) = d
ctor_in d (field_decl k) = d
ctor_in d (method_decl k) = d
ctor_in d (constructor_decl k) = k
ctor_in d (local_decl k) = d

module _ (g : Renaming) (still : IsStill g) (rows : List Row) (apart : KeysApart g rows) where
  one_field : (f h : FieldKey) → RowFor rows (field_decl f) → RowFor rows (field_decl h) → class_to g f.class ≡ class_to g h.class → name_to g (field_decl f) f.name ≡ name_to g (field_decl h) h.name → f ≡ h
  one_field f h a b of name =
      let same : f.class ≡ h.class = sym (class_same g still f.class) ∙ of ∙ class_same g still h.class in
      λ i. record { class = same i; name = apart.field f h a b same name i }

  one_method : (m n : MethodKey) → RowFor rows (method_decl m) → RowFor rows (method_decl n) → class_to g m.class ≡ class_to g n.class → types_to g m.params ≡ types_to g n.params
      → name_to g (method_decl m) m.name ≡ name_to g (method_decl n) n.name → m ≡ n
  one_method m n a b of types name =
      let same : m.class ≡ n.class = sym (class_same g still m.class) ∙ of ∙ class_same g still n.class in
      let list : m.params ≡ n.params = sym (types_same g still m.params) ∙ types ∙ types_same g still n.params in
      λ i. record { class = same i; name = apart.method m n a b same list name i; params = list i }

  one_ctor : (c d : CtorKey) → class_to g c.class ≡ class_to g d.class → types_to g c.params ≡ types_to g d.params → c ≡ d
  one_ctor c d of types = λ i. record {
    class = (sym (class_same g still c.class) ∙ of ∙ class_same g still d.class) i;
    params = (sym (types_same g still c.params) ∙ types ∙ types_same g still d.params) i;
  }

  -- declarations of rows whose images are one are one
  one_decl : (d e : Decl) → RowFor rows d → RowFor rows e → ((k : LocalKey) → d ≡ local_decl k → ⊥) → decl_to g d ≡ decl_to g e → d ≡ e
  one_decl (class_decl k) (class_decl l) a b no_local h = ap class_decl (sym (class_same g still k) ∙ ap (class_in k) h ∙ class_same g still l)
  one_decl (class_decl k) (field_decl l) a b no_local h = absurd cc
  one_decl (class_decl k) (method_decl l) a b no_local h = absurd cc
  one_decl (class_decl k) (constructor_decl l) a b no_local h = absurd cc
  one_decl (class_decl k) (local_decl l) a b no_local h = absurd cc
  one_decl (field_decl k) (class_decl l) a b no_local h = absurd cc
  one_decl (field_decl k) (field_decl l) a b no_local h =
      let p = ap (field_in k) h in ap field_decl (one_field k l a b (ap (λ (z : FieldKey). z.class) p) (ap (λ (z : FieldKey). z.name) p))
  one_decl (field_decl k) (method_decl l) a b no_local h = absurd cc
  one_decl (field_decl k) (constructor_decl l) a b no_local h = absurd cc
  one_decl (field_decl k) (local_decl l) a b no_local h = absurd cc
  one_decl (method_decl k) (class_decl l) a b no_local h = absurd cc
  one_decl (method_decl k) (field_decl l) a b no_local h = absurd cc
  one_decl (method_decl k) (method_decl l) a b no_local h =
      let p = ap (method_in k) h in ap method_decl (one_method k l a b (ap (λ (z : MethodKey). z.class) p) (ap (λ (z : MethodKey). z.params) p) (ap (λ (z : MethodKey). z.name) p))
  one_decl (method_decl k) (constructor_decl l) a b no_local h = absurd cc
  one_decl (method_decl k) (local_decl l) a b no_local h = absurd cc
  one_decl (constructor_decl k) (class_decl l) a b no_local h = absurd cc
  one_decl (constructor_decl k) (field_decl l) a b no_local h = absurd cc
  one_decl (constructor_decl k) (method_decl l) a b no_local h = absurd cc
  one_decl (constructor_decl k) (constructor_decl l) a b no_local h =
      let p = ap (ctor_in k) h in ap constructor_decl (one_ctor k l (ap (λ (z : CtorKey). z.class) p) (ap (λ (z : CtorKey). z.params) p))
  one_decl (constructor_decl k) (local_decl l) a b no_local h = absurd cc
  one_decl (local_decl k) e a b no_local h = absurd (no_local k refl)

  row_of : (i : ℕ) (r : Row) → slice_get rows i ≡ Some r → IsRowOf rows r.decl i
  row_of i r at = record { row = r; stands = at; declares = refl }

  params_same : (d : Decl) → params_of (decl_to g d) ≡ params_of d
  params_same (class_decl k) = refl
  params_same (field_decl k) = refl
  params_same (method_decl k) = types_same g still k.params
  params_same (constructor_decl k) = types_same g still k.params
  params_same (local_decl k) = refl

  parent_back : (o : Option ClassKey) (k : ClassKey) → option_map (class_to g) o ≡ Some k → o ≡ Some k
  parent_back o k e = let r = map_some (class_to g) o k e in r.1 ∙ ap (λ (z : ClassKey). Some z) (sym (class_same g still r.0) ∙ r.2)

  type_back : (o : Option Ty) (t : Ty) → option_map (type_to g) o ≡ Some t → o ≡ Some t
  type_back o t e = let r = map_some (type_to g) o t e in r.1 ∙ ap (λ (z : Ty). Some z) (sym (type_same g still r.0) ∙ r.2)

  -- what the image of a row names, the row names
  names_back : (r : Row) (k : ClassKey) → Names (row_to g r) k → Names r k
  names_back r k (as_declarer is) = as_declarer (sym (of_same g still r.decl) ∙ is)
  names_back r k (as_outer name has is) = as_outer name (sym (outer_same g still r.decl) ∙ has) is
  names_back r k (as_superclass is) = as_superclass (parent_back r.parent k is)
  names_back r k (as_type is) = as_type (type_back r.type (class k) is)
  names_back r k (as_parameter is) = as_parameter (subst (λ (us : List Ty). TypesName us k) (params_same r.decl) is)

  climbs_back : (steps c d : ℕ) → Climbs (entries_of (rows_to g rows)) steps c d → Climbs (entries_of rows) steps c d
  climbs_back zero c d h = h
  climbs_back (suc steps) c d (p, is, h) = (p, sym (parent_at g still rows c) ∙ is, climbs_back steps p d h)

  module _ (are : AreRows rows) (plain : NoLocals rows) where
    new_rows : AreRows (rows_to g rows)
    new_rows = record {
      own = rows_to g are.own;
      prelude = ap (rows_to g) are.prelude ∙ map_join (row_to g) prelude_rows are.own ∙ ap (λ (front : List Row). front ++ rows_to g are.own) (prelude_same g still);
      one_each = λ d i j a b.
          let x = old_row g rows d i a in
          let y = old_row g rows d j b in
          let same : x.0.decl ≡ y.0.decl = one_decl x.0.decl y.0.decl (i, row_of i x.0 x.1) (j, row_of j y.0 y.1) (no_local_at rows plain i x.0 x.1) (x.2 ∙ sym y.2) in
          are.one_each y.0.decl i j (record { row = x.0; stands = x.1; declares = same }) (row_of j y.0 y.1);
      named = λ j row k at names.
          let r = map_some (row_to g) (slice_get rows j) row (sym (slice_get-map (row_to g) rows j) ∙ at) in
          let n = are.named j r.0 k r.1 (names_back r.0 k (subst (λ (z : Row). Names z k) (sym r.2) names)) in
          (n.0, class_row g still rows k n.0 n.1);
      no_cycle = λ c steps h. are.no_cycle c steps (climbs_back (suc steps) c c h);
      few = subst (λ (n : ℕ). n < 2 ^ 32) (sym (count_same g still rows)) are.few;
    }

    pub fair : ((k : ClassKey) (j : ℕ) → IsRowOf rows (class_decl k) j → position_or_len is_dot k.name ≡ length k.name) → IsFair rows g
    fair whole = record {
      are = new_rows;
      names = λ k j is. subst (λ (z : ClassKey). position_or_len is_dot z.name ≡ length z.name) (sym (class_same g still k)) (whole k j is);
      string = class_same g still (top_key (codes "String"));
      class = class_same g still (top_key (codes "Class"));
    }
