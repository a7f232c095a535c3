-- The rows that the renaming of a class makes meet what rows must: no class that has a row has the
-- new name, so classes and their images are one to one.
use Rattle.std.proofs.Common.{◌≡◌, ℕ, zero, suc, ◌<◌, List, [], ◌∷◌, ◌++◌, length, Option, Some, None, Bool, true, false, refl, sym, ap, subst, ◌∙◌, inl, inr}
use Rattle.std.specs.Prelude.{◌^◌, option_map, option_and_then, slice_get, if◌then◌else◌}
use Rattle.std.proofs.lemmas.Option.{slice_get-map, same_Some}
use Rattle.jr_table.specs.declared.entries.Entry.{Entry}
use Rattle.jr_table.specs.Keys.{ClassKey, FieldKey, MethodKey, CtorKey, Ty, int, boolean, void, null, class}
use Rattle.jr_table.specs.Decls.{field, method, LocalKey, Decl, class_decl, field_decl, method_decl, constructor_decl, local_decl}
use Rattle.jr_table.specs.SameDecls.{same_decl}
use Rattle.jr_table.specs.SameKeys.{same_class, class_decides}
use Rattle.jr_table.specs.Rows.{Row}
use Rattle.jr_table.specs.Prelude.{prelude_rows, top_key}
use Rattle.jr_table.specs.Entries.{IsRowOf, number_of, class_of, params_of, outer_name, entry_of, entries_of}
use Rattle.jr_table.specs.Chains.{parent_of, Climbs}
use Rattle.jr_table.specs.Conditions.{TypesName, Names, as_declarer, as_outer, as_superclass, as_type, as_parameter, AreRows}
use Rattle.jr_table.proofs.RowLaws.{entry_at}
use Rattle.jr_members.proofs.Walking.{map_join}
use Rattle.jr_images.specs.Images.{Renaming, is_renamed, name_to, outer_to, class_to, type_to, types_to, decl_to, row_to, rows_to}
use Rattle.jr_images.proofs.KeyImages.{keeps_name, decl_class_to, params_to, new_entry, at_new, old_row}
use Rattle.jr_images.proofs.Imaging.{map_some}
use Rattle.jr_rename_laws.proofs.Still.{gets_name}
use Rattle.jr_rename_laws.proofs.DeclarationRows.{RowFor, NoLocals, no_local_at}
use Rattle.jr_rename_laws.proofs.FairImages.{class_in, field_in, method_in, ctor_in}

both_ways : (a b : Bool) → (a ≡ true → b ≡ true) → (b ≡ true → a ≡ true) → a ≡ b
both_ways true true f h = refl
both_ways true false f h = sym (f refl)
both_ways false true f h = h refl
both_ways false false f h = refl

abbrev class_named : ClassKey → Ty → ClassKey
class_named d int = d
class_named d boolean = d
class_named d void = d
class_named d null = d
class_named d (class k) = k

-- what is known of the renaming of a class
pub record OfClass (g : Renaming) (rows : List Row) : Type 0 where
  pub key : ClassKey
  pub only : (k : ClassKey) → is_renamed g (class_decl k) ≡ true → k ≡ key
  pub field : (k : FieldKey) → is_renamed g (field_decl k) ≡ false
  pub method : (k : MethodKey) → is_renamed g (method_decl k) ≡ false
  pub fresh : (k : ClassKey) → RowFor rows (class_decl k) → k.name ≡ g.name → ⊥

module _ (g : Renaming) (rows : List Row) (of : OfClass g rows) (are : AreRows rows) where
  abbrev HasClass : ClassKey → Type 0
  HasClass k = RowFor rows (class_decl k)

  row_names : (d : Decl) → (h : RowFor rows d) → (k : ClassKey) → Names h.1.row k → HasClass k
  row_names d h k n = are.named h.0 h.1.row k h.1.stands n

  -- ---- one to one

  one_name : (j k : ClassKey) (a b : Bool) → is_renamed g (class_decl j) ≡ a → is_renamed g (class_decl k) ≡ b → HasClass j → HasClass k
      → name_to g (class_decl j) j.name ≡ name_to g (class_decl k) k.name → j.name ≡ k.name
  one_name j k false false p q x y e = sym (keeps_name g (class_decl j) j.name p) ∙ e ∙ keeps_name g (class_decl k) k.name q
  one_name j k true false p q x y e = absurd (of.fresh k y (sym (keeps_name g (class_decl k) k.name q) ∙ sym e ∙ gets_name g (class_decl j) j.name p))
  one_name j k false true p q x y e = absurd (of.fresh j x (sym (keeps_name g (class_decl j) j.name p) ∙ e ∙ gets_name g (class_decl k) k.name q))
  one_name j k true true p q x y e = ap (λ (z : ClassKey). z.name) (of.only j p ∙ sym (of.only k q))

  around : (k : ClassKey) → HasClass k → (n : List ℕ) → k.outer ≡ Some n → HasClass (top_key n)
  around k h n e = row_names (class_decl k) h (top_key n) (as_outer n (ap outer_name h.1.declares ∙ e) refl)

  one_outer : (o p : Option (List ℕ)) → ((n : List ℕ) → o ≡ Some n → HasClass (top_key n)) → ((n : List ℕ) → p ≡ Some n → HasClass (top_key n)) → outer_to g o ≡ outer_to g p → o ≡ p
  one_outer None None f h e = refl
  one_outer None (Some b) f h e = absurd cc
  one_outer (Some a) None f h e = absurd cc
  one_outer (Some a) (Some b) f h e =
      ap (λ (n : List ℕ). Some n) (one_name (top_key a) (top_key b) (is_renamed g (class_decl (top_key a))) (is_renamed g (class_decl (top_key b))) refl refl (f a refl) (h b refl) (same_Some _ _ e))

  one_class : (j k : ClassKey) → HasClass j → HasClass k → class_to g j ≡ class_to g k → j ≡ k
  one_class j k x y e =
      let outer = one_outer j.outer k.outer (around j x) (around k y) (ap (λ (z : ClassKey). z.outer) e) in
      let name = one_name j k (is_renamed g (class_decl j)) (is_renamed g (class_decl k)) refl refl x y (ap (λ (z : ClassKey). z.name) e) in
      λ i. record { outer = outer i; name = name i }

  one_type : (t u : Ty) → ((k : ClassKey) → t ≡ class k → HasClass k) → ((k : ClassKey) → u ≡ class k → HasClass k) → type_to g t ≡ type_to g u → t ≡ u
  one_type int int x y e = refl
  one_type int boolean x y e = absurd cc
  one_type int void x y e = absurd cc
  one_type int null x y e = absurd cc
  one_type int (class k) x y e = absurd cc
  one_type boolean int x y e = absurd cc
  one_type boolean boolean x y e = refl
  one_type boolean void x y e = absurd cc
  one_type boolean null x y e = absurd cc
  one_type boolean (class k) x y e = absurd cc
  one_type void int x y e = absurd cc
  one_type void boolean x y e = absurd cc
  one_type void void x y e = refl
  one_type void null x y e = absurd cc
  one_type void (class k) x y e = absurd cc
  one_type null int x y e = absurd cc
  one_type null boolean x y e = absurd cc
  one_type null void x y e = absurd cc
  one_type null null x y e = refl
  one_type null (class k) x y e = absurd cc
  one_type (class j) int x y e = absurd cc
  one_type (class j) boolean x y e = absurd cc
  one_type (class j) void x y e = absurd cc
  one_type (class j) null x y e = absurd cc
  one_type (class j) (class k) x y e = ap class (one_class j k (x j refl) (y k refl) (ap (class_named (class_to g j)) e))

  one_list : (ts us : List Ty) → ((k : ClassKey) → TypesName ts k → HasClass k) → ((k : ClassKey) → TypesName us k → HasClass k) → types_to g ts ≡ types_to g us → ts ≡ us
  one_list [] [] x y e = refl
  one_list [] (u ∷ us) x y e = absurd cc
  one_list (t ∷ ts) [] x y e = absurd cc
  one_list (t ∷ ts) (u ∷ us) x y e =
      let first : type_to g t ≡ type_to g u = cc in
      let others : types_to g ts ≡ types_to g us = cc in
      let here = one_type t u (λ k is. x k (inl is)) (λ k is. y k (inl is)) first in
      let rest = one_list ts us (λ k is. x k (inr is)) (λ k is. y k (inr is)) others in
      λ i. here i ∷ rest i

  declarer : (d : Decl) → RowFor rows d → HasClass (class_of d)
  declarer d h = row_names d h (class_of d) (as_declarer (ap class_of h.1.declares))

  listed : (d : Decl) → RowFor rows d → (k : ClassKey) → TypesName (params_of d) k → HasClass k
  listed d h k n = row_names d h k (as_parameter (subst (λ (x : Decl). TypesName (params_of x) k) (sym h.1.declares) n))

  one_decl : (d e : Decl) → RowFor rows d → RowFor rows e → ((k : LocalKey) → d ≡ local_decl k → ⊥) → decl_to g d ≡ decl_to g e → d ≡ e
  one_decl (class_decl k) (class_decl l) x y none e = ap class_decl (one_class k l x y (ap (class_in (class_to g k)) e))
  one_decl (class_decl k) (field_decl l) x y none e = absurd cc
  one_decl (class_decl k) (method_decl l) x y none e = absurd cc
  one_decl (class_decl k) (constructor_decl l) x y none e = absurd cc
  one_decl (class_decl k) (local_decl l) x y none e = absurd cc
  one_decl (field_decl k) (class_decl l) x y none e = absurd cc
  one_decl (field_decl k) (field_decl l) x y none e =
      let p = ap (field_in k) e in
      let class = one_class k.class l.class (declarer (field_decl k) x) (declarer (field_decl l) y) (ap (λ (z : FieldKey). z.class) p) in
      let name = sym (keeps_name g (field_decl k) k.name (of.field k)) ∙ ap (λ (z : FieldKey). z.name) p ∙ keeps_name g (field_decl l) l.name (of.field l) in
      λ i. field_decl (record { class = class i; name = name i })
  one_decl (field_decl k) (method_decl l) x y none e = absurd cc
  one_decl (field_decl k) (constructor_decl l) x y none e = absurd cc
  one_decl (field_decl k) (local_decl l) x y none e = absurd cc
  one_decl (method_decl k) (class_decl l) x y none e = absurd cc
  one_decl (method_decl k) (field_decl l) x y none e = absurd cc
  one_decl (method_decl k) (method_decl l) x y none e =
      let p = ap (method_in k) e in
      let class = one_class k.class l.class (declarer (method_decl k) x) (declarer (method_decl l) y) (ap (λ (z : MethodKey). z.class) p) in
      let name = sym (keeps_name g (method_decl k) k.name (of.method k)) ∙ ap (λ (z : MethodKey). z.name) p ∙ keeps_name g (method_decl l) l.name (of.method l) in
      let params = one_list k.params l.params (listed (method_decl k) x) (listed (method_decl l) y) (ap (λ (z : MethodKey). z.params) p) in
      λ i. method_decl (record { class = class i; name = name i; params = params i })
  one_decl (method_decl k) (constructor_decl l) x y none e = absurd cc
  one_decl (method_decl k) (local_decl l) x y none e = absurd cc
  one_decl (constructor_decl k) (class_decl l) x y none e = absurd cc
  one_decl (constructor_decl k) (field_decl l) x y none e = absurd cc
  one_decl (constructor_decl k) (method_decl l) x y none e = absurd cc
  one_decl (constructor_decl k) (constructor_decl l) x y none e =
      let p = ap (ctor_in k) e in
      let class = one_class k.class l.class (declarer (constructor_decl k) x) (declarer (constructor_decl l) y) (ap (λ (z : CtorKey). z.class) p) in
      let params = one_list k.params l.params (listed (constructor_decl k) x) (listed (constructor_decl l) y) (ap (λ (z : CtorKey). z.params) p) in
      λ i. constructor_decl (record { class = class i; params = params i })
  one_decl (constructor_decl k) (local_decl l) x y none e = absurd cc
  one_decl (local_decl k) e x y none h = absurd (none k refl)

  -- ---- numbers of classes

  same_test : (d : Decl) (k : ClassKey) → RowFor rows d → HasClass k → same_decl (decl_to g d) (class_decl (class_to g k)) ≡ same_decl d (class_decl k)
  same_test (class_decl j) k x y = both_ways (same_class (class_to g j) (class_to g k)) (same_class j k)
      (λ e. (class_decides j k).1 (one_class j k x y ((class_decides (class_to g j) (class_to g k)).0 e)))
      (λ e. (class_decides (class_to g j) (class_to g k)).1 (ap (class_to g) ((class_decides j k).0 e)))
  same_test (field_decl j) k x y = refl
  same_test (method_decl j) k x y = refl
  same_test (constructor_decl j) k x y = refl
  same_test (local_decl j) k x y = refl

  abbrev HaveRows : List Row → Type 0
  HaveRows xs = (i : ℕ) (r : Row) → slice_get xs i ≡ Some r → RowFor rows r.decl

  all_have : HaveRows rows
  all_have i r at = (i, record { row = r; stands = at; declares = refl })

  number_in : (xs : List Row) (k : ClassKey) → HaveRows xs → HasClass k → number_of (rows_to g xs) (class_decl (class_to g k)) ≡ number_of xs (class_decl k)
  unfolding number_of
  number_in [] k have y = refl
  number_in (r ∷ xs) k have y = λ i. if same_test r.decl k (have 0 r refl) y i then Some 0 else option_map suc (number_in xs k (λ n z at. have (suc n) z at) y i)

  number_same : (k : ClassKey) → HasClass k → number_of (rows_to g rows) (class_decl (class_to g k)) ≡ number_of rows (class_decl k)
  number_same k y = number_in rows k all_have y

  parent_number : (o : Option ClassKey) → ((k : ClassKey) → o ≡ Some k → HasClass k)
      → option_and_then (λ (k : ClassKey). number_of (rows_to g rows) (class_decl k)) (option_map (class_to g) o) ≡ option_and_then (λ (k : ClassKey). number_of rows (class_decl k)) o
  parent_number None h = refl
  parent_number (Some k) h = number_same k (h k refl)

  parents : (o : Option Row) → ((r : Row) → o ≡ Some r → (k : ClassKey) → r.parent ≡ Some k → HasClass k)
      → option_and_then (λ (r : Entry). r.parent) (option_map (new_entry g rows) o) ≡ option_and_then (λ (r : Entry). r.parent) (option_map (entry_of rows) o)
  parents None h = refl
  parents (Some r) h = parent_number r.parent (h r refl)

  parent_at : (c : ℕ) → parent_of (entries_of (rows_to g rows)) c ≡ parent_of (entries_of rows) c
  parent_at c = ap (option_and_then (λ (r : Entry). r.parent)) (at_new g rows c)
      ∙ parents (slice_get rows c) (λ r at k e. are.named c r k at (as_superclass e)) ∙ sym (ap (option_and_then (λ (r : Entry). r.parent)) (entry_at rows c))

  climbs_back : (steps c d : ℕ) → Climbs (entries_of (rows_to g rows)) steps c d → Climbs (entries_of rows) steps c d
  climbs_back zero c d h = h
  climbs_back (suc steps) c d (p, is, h) = (p, sym (parent_at c) ∙ is, climbs_back steps p d h)

  -- ---- what the images of rows name

  abbrev NamesOld : Row → ClassKey → Type 0
  NamesOld r k = (j : ClassKey) × Names r j × (class_to g j ≡ k)

  outer_of_image : (d : Decl) (name : List ℕ) → outer_name (decl_to g d) ≡ Some name → (n : List ℕ) × (outer_name d ≡ Some n) × (class_to g (top_key n) ≡ top_key name)
  outer_of_image (class_decl k) name e = let r = map_some (λ (n : List ℕ). name_to g (class_decl (top_key n)) n) k.outer name e in (r.0, r.1, ap top_key r.2)
  outer_of_image (field_decl k) name e = absurd cc
  outer_of_image (method_decl k) name e = absurd cc
  outer_of_image (constructor_decl k) name e = absurd cc
  outer_of_image (local_decl k) name e = absurd cc

  class_type : (t : Ty) (k : ClassKey) → type_to g t ≡ class k → (j : ClassKey) × (t ≡ class j) × (class_to g j ≡ k)
  class_type int k e = absurd cc
  class_type boolean k e = absurd cc
  class_type void k e = absurd cc
  class_type null k e = absurd cc
  class_type (class j) k e = (j, refl, ap (class_named k) e)

  list_names : (ts : List Ty) (k : ClassKey) → TypesName (types_to g ts) k → (j : ClassKey) × TypesName ts j × (class_to g j ≡ k)
  list_names [] k h = absurd h
  list_names (t ∷ ts) k (inl e) = let r = class_type t k e in (r.0, inl r.1, r.2)
  list_names (t ∷ ts) k (inr h) = let r = list_names ts k h in (r.0, inr r.1, r.2)

  names_back : (r : Row) (k : ClassKey) → Names (row_to g r) k → NamesOld r k
  names_back r k (as_declarer is) = (class_of r.decl, as_declarer refl, sym (decl_class_to g r.decl) ∙ is)
  names_back r k (as_outer name has is) = let o = outer_of_image r.decl name has in (top_key o.0, as_outer o.0 o.1 refl, o.2 ∙ sym is)
  names_back r k (as_superclass is) = let o = map_some (class_to g) r.parent k is in (o.0, as_superclass o.1, o.2)
  names_back r k (as_type is) =
      let o = map_some (type_to g) r.type (class k) is in
      let c = class_type o.0 k o.2 in
      (c.0, as_type (o.1 ∙ ap (λ (t : Ty). Some t) c.1), c.2)
  names_back r k (as_parameter is) = let o = list_names (params_of r.decl) k (subst (λ (ts : List Ty). TypesName ts k) (params_to g r.decl) is) in (o.0, as_parameter o.1, o.2)

  class_image_row : (k : ClassKey) (j : ℕ) → IsRowOf rows (class_decl k) j → IsRowOf (rows_to g rows) (class_decl (class_to g k)) j
  class_image_row k j is = record { row = row_to g is.row; stands = slice_get-map (row_to g) rows j ∙ ap (option_map (row_to g)) is.stands; declares = ap (decl_to g) is.declares }

  count_same : (xs : List Row) → length (rows_to g xs) ≡ length xs
  count_same [] = refl
  count_same (r ∷ xs) = ap suc (count_same xs)

  -- `same`: the prelude's rows stay
  module _ (plain : NoLocals rows) (same : rows_to g prelude_rows ≡ prelude_rows) where
    pub class_rows : AreRows (rows_to g rows)
    class_rows = record {
      own = rows_to g are.own;
      prelude = ap (rows_to g) are.prelude ∙ map_join (row_to g) prelude_rows are.own ∙ ap (λ (front : List Row). front ++ rows_to g are.own) same;
      one_each = λ d i j a b.
          let x = old_row g rows d i a in
          let y = old_row g rows d j b in
          let one : x.0.decl ≡ y.0.decl = one_decl x.0.decl y.0.decl (all_have i x.0 x.1) (all_have j y.0 y.1) (no_local_at rows plain i x.0 x.1) (x.2 ∙ sym y.2) in
          are.one_each y.0.decl i j (record { row = x.0; stands = x.1; declares = one }) (record { row = y.0; stands = y.1; declares = refl });
      named = λ j row k at names.
          let r = map_some (row_to g) (slice_get rows j) row (sym (slice_get-map (row_to g) rows j) ∙ at) in
          let n = names_back r.0 k (subst (λ (z : Row). Names z k) (sym r.2) names) in
          let there = are.named j r.0 n.0 r.1 n.1 in
          (there.0, subst (λ (z : ClassKey). IsRowOf (rows_to g rows) (class_decl z) there.0) n.2 (class_image_row n.0 there.0 there.1));
      no_cycle = λ c steps h. are.no_cycle c steps (climbs_back (suc steps) c c h);
      few = subst (λ (n : ℕ). n < 2 ^ 32) (sym (count_same rows)) are.few;
    }
