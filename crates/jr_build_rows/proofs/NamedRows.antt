-- Each class that a row names has a row.
use Rattle.std.proofs.Common.{◌≡◌, ℕ, zero, suc, List, [], ◌∷◌, ◌++◌, Option, Some, None, Bool, true, false, refl, sym, ap, subst, ◌∙◌, inl, inr}
use Rattle.std.specs.Prelude.{slice_get, ◌⊎◌, ◌↔◌, option_map, option_and_then, unwrap_or, codes}
use Rattle.jr_table.specs.Keys.{ClassKey, Ty, void, class}
use Rattle.jr_table.specs.Decls.{Decl, class_decl, field_decl, method_decl, constructor_decl}
use Rattle.jr_table.specs.Rows.{Row}
use Rattle.jr_table.specs.Entries.{IsRowOf, class_of, outer_name}
use Rattle.jr_table.specs.Prelude as prelude
use Rattle.jr_table.specs.Prelude.{prelude_rows, top_key, object_key}
use Rattle.jr_table.specs.Conditions.{TypesName, Names, as_declarer, as_outer, as_superclass, as_type, as_parameter}
use Rattle.jr_table.specs.Resolving.{DeclaresClass, IsDeclared}
use Rattle.jr_table.specs.DeclaredItems.{Written, int, boolean, named, DeclaredParam, DeclaredClass, DeclaredField, DeclaredMethod, DeclaredCtor, Item, class_item, field_item, method_item, ctor_item, DeclaredItem}
use Rattle.jr_table.specs.Faults.{At}
use Rattle.jr_build_rows.specs.ExactRows.{unwritten, param_types, result_type, class_row, field_row, method_row, ctor_row, class_rows, rows_of_item, rows_of_declarations}
use Rattle.jr_build_rows.specs.Heads.{AreHeaded}
use Rattle.jr_build_hierarchy.specs.Hierarchies.{Hierarchy, class_keys, prelude_classes, class_in, key_at, parent_key, parent_of, meaning, meant_class, class_type}
use Rattle.jr_build_declared.specs.KeyIndex.{class_key_at}
use Rattle.jr_build_rows.specs.Signatures.{meanings}
use Rattle.jr_build_rows.proofs.Apart.{In, in_either, in_left, in_right, stands_in, in_stands}
use Rattle.jr_build_declared.proofs.Earliest.{inside}
use Rattle.jr_build_rows.proofs.TwiceMemberLaws.{pairs_of}
use Rattle.jr_build_rows.proofs.OwnRows.{item_of_row, row_of_declaration, class_row_in, in_class_rows, only}

-- a class of the prelude
abbrev IsPreludeKey : ClassKey → Type 0
IsPreludeKey k = (object_key ≡ k) ⊎ ((top_key (codes "String") ≡ k) ⊎ ((top_key (codes "Class") ≡ k) ⊎ (top_key (codes "Thread") ≡ k)))

then_of : {X Y : Type 0} (f : X → Option Y) (o : Option X) (y : Y) → option_and_then f o ≡ Some y → (x : X) × (o ≡ Some x) × (f x ≡ Some y)
then_of f None y e = absurd cc
then_of f (Some x) y e = (x, refl, e)

map_of : {X Y : Type 0} (f : X → Y) (o : Option X) (y : Y) → option_map f o ≡ Some y → (x : X) × (o ≡ Some x) × (f x ≡ y)
map_of f None y e = absurd cc
map_of f (Some x) y e = (x, refl, inside (f x) y e)

-- the classes that have numbers
class_at : (ss : List DeclaredItem) (j : ℕ) (k : ClassKey) → slice_get (class_keys ss) j ≡ Some (Some k) → ((i : ℕ) × (s : DeclaredItem) × (c : DeclaredClass) × (slice_get ss i ≡ Some s) × (s.item ≡ class_item c) × (c.key ≡ k)) ⊎ IsPreludeKey k
class_at [] zero k e = inr (inl (inside _ _ (inside _ _ e)))
class_at [] (suc zero) k e = inr (inr (inl (inside _ _ (inside _ _ e))))
class_at [] (suc (suc zero)) k e = inr (inr (inr (inl (inside _ _ (inside _ _ e)))))
class_at [] (suc (suc (suc zero))) k e = inr (inr (inr (inr (inside _ _ (inside _ _ e)))))
class_at [] (suc (suc (suc (suc j)))) k e = absurd cc
class_at (s ∷ ss) zero k e = by s.item (inside _ _ e) refl
  where
    by : (item : Item) → class_key_at item ≡ Some k → s.item ≡ item → ((i : ℕ) × (t : DeclaredItem) × (c : DeclaredClass) × (slice_get (s ∷ ss) i ≡ Some t) × (t.item ≡ class_item c) × (c.key ≡ k)) ⊎ IsPreludeKey k
    by (class_item c) f g = inl (0, s, c, refl, g, inside _ _ f)
    by (field_item x) f g = absurd cc
    by (method_item x) f g = absurd cc
    by (ctor_item x) f g = absurd cc
class_at (s ∷ ss) (suc j) k e = elim (class_at ss j k e) [
  | inl (i, t, c, at, is, key) ↦ inl (suc i, t, c, at, is, key)
  | inr p ↦ inr p
]

module _ (declarations : List DeclaredItem) (h : Hierarchy) (keys : h.keys ≡ class_keys declarations) where
  abbrev Rows : List Row
  Rows = prelude_rows ++ rows_of_declarations h declarations

  abbrev pub HasRow : ClassKey → Type 0
  HasRow k = (n : ℕ) × IsRowOf Rows (class_decl k) n

  has_row : (r : Row) (k : ClassKey) → In Rows r → r.decl ≡ class_decl k → HasRow k
  has_row r k i e = let p = in_stands Rows r i in (p.0, record { row = r; stands = p.1; declares = e })

  prelude_row : (k : ClassKey) → IsPreludeKey k → HasRow k
  prelude_row k (inl e) = (0, record { row = prelude.class_row [] (codes "Object") None; stands = refl; declares = ap class_decl e })
  prelude_row k (inr (inl e)) = has_row _ k (in_left prelude_rows (rows_of_declarations h declarations) _ (inr (inr (inl refl)))) (ap class_decl e)
  prelude_row k (inr (inr (inl e))) = has_row _ k (in_left prelude_rows (rows_of_declarations h declarations) _ (inr (inr (inr (inl refl))))) (ap class_decl e)
  prelude_row k (inr (inr (inr e))) = has_row _ k (in_left prelude_rows (rows_of_declarations h declarations) _ (inr (inr (inr (inr (inl refl)))))) (ap class_decl e)

  declaration_row : (i f : ℕ) (c : DeclaredClass) → At declarations i f (class_item c) → HasRow c.key
  declaration_row i f c at = has_row (class_row h c) c.key
      (in_right prelude_rows (rows_of_declarations h declarations) (class_row h c) (row_of_declaration h declarations i (record { file = f; item = class_item c }) at.stands (class_row h c) (class_row_in h c c.has_ctor))) refl

  pub declared_has_row : (k : ClassKey) → IsDeclared declarations k → HasRow k
  declared_has_row k (c, d) = subst HasRow d.is (declaration_row d.number d.file c (record { stands = d.stands }))

  pub known_has_row : (j : ℕ) (k : ClassKey) → key_at h j ≡ Some k → HasRow k
  known_has_row j k e =
      let p = then_of (λ o. o) (slice_get h.keys j) k e in
      elim (class_at declarations j k (ap (λ ks. slice_get ks j) (sym keys) ∙ p.1 ∙ ap Some p.2)) [
        | inl (i, s, c, at, is, key) ↦ subst HasRow key (declaration_row i s.file c (record { stands = at ∙ (λ n. Some (record { file = s.file; item = is n })) }))
        | inr pre ↦ prelude_row k pre
      ]

  pub parent_has_row : (k p : ClassKey) → parent_key h k ≡ Some p → HasRow p
  parent_has_row k p e = let x = then_of (λ j. key_at h j) (parent_of h k) p e in known_has_row x.0 p x.2

  class_of_ty : (x y : ClassKey) → class x ≡ class y → x ≡ y
  class_of_ty x y e = cc

  meaning_has_row : (k : ClassKey) (w : Written) (q : ClassKey) → meaning h k w ≡ Some (class q) → HasRow q
  meaning_has_row k int q e = absurd cc
  meaning_has_row k boolean q e = absurd cc
  meaning_has_row k (named at outer name) q e =
      let m = map_of (λ x. class x) (option_and_then (λ j. key_at h j) (meant_class h k outer name)) (class q) e in
      let p = then_of (λ j. key_at h j) (meant_class h k outer name) m.0 m.1 in
      subst HasRow (class_of_ty m.0 q m.2) (known_has_row p.0 m.0 p.2)

  params_have_rows : (k : ClassKey) (ps : List DeclaredParam) (ts : List Ty) (q : ClassKey) → meanings h k ps ≡ Some ts → TypesName ts q → HasRow q
  params_have_rows k [] ts q e names = absurd (subst (λ us. TypesName us q) (sym (inside _ _ e)) names)
  params_have_rows k (p ∷ ps) ts q e names =
      let x = pairs_of (meaning h k p.type) (meanings h k ps) ts e in
      elim (subst (λ us. TypesName us q) (sym x.4) names) [
        | inl is ↦ meaning_has_row k p.type q (x.2 ∙ ap Some is)
        | inr more ↦ params_have_rows k ps x.1 q x.3 more
      ]

  types_have_rows : (k : ClassKey) (ps : List DeclaredParam) (o : Option (List Ty)) (q : ClassKey) → meanings h k ps ≡ o → TypesName (unwrap_or o []) q → HasRow q
  types_have_rows k ps None q e names = absurd names
  types_have_rows k ps (Some ts) q e names = params_have_rows k ps ts q e names

  result_has_row : (k : ClassKey) (w : Option Written) (q : ClassKey) → result_type h k w ≡ Some (class q) → HasRow q
  result_has_row k None q e = absurd cc
  result_has_row k (Some w) q e = meaning_has_row k w q e

  -- the prelude's
  pre_class : (words : _) (name : List ℕ) (parent : Option ClassKey) (k : ClassKey) → Names (prelude.class_row words name parent) k → (top_key name ≡ k) ⊎ (parent ≡ Some k)
  pre_class words name parent k (as_declarer is) = inl is
  pre_class words name parent k (as_outer n has is) = absurd cc
  pre_class words name parent k (as_superclass is) = inr is
  pre_class words name parent k (as_type is) = absurd cc
  pre_class words name parent k (as_parameter is) = absurd is

  pre_ctor : (words : _) (of k : ClassKey) → Names (prelude.ctor_row words of) k → of ≡ k
  pre_ctor words of k (as_declarer is) = is
  pre_ctor words of k (as_outer n has is) = absurd cc
  pre_ctor words of k (as_superclass is) = absurd cc
  pre_ctor words of k (as_type is) = absurd cc
  pre_ctor words of k (as_parameter is) = absurd is

  pre_thread : (words : _) (name : List ℕ) (k : ClassKey) → Names (prelude.thread_row words name) k → top_key (codes "Thread") ≡ k
  pre_thread words name k (as_declarer is) = is
  pre_thread words name k (as_outer n has is) = absurd cc
  pre_thread words name k (as_superclass is) = absurd cc
  pre_thread words name k (as_type is) = absurd cc
  pre_thread words name k (as_parameter is) = absurd is

  prelude_named : (r : Row) (k : ClassKey) → In prelude_rows r → Names r k → IsPreludeKey k
  prelude_named r k (inl e) n = elim (pre_class _ _ _ k (subst (λ y. Names y k) (sym e) n)) [ inl a ↦ inl a | inr b ↦ absurd cc ]
  prelude_named r k (inr (inl e)) n = inl (pre_ctor _ _ k (subst (λ y. Names y k) (sym e) n))
  prelude_named r k (inr (inr (inl e))) n = elim (pre_class _ _ _ k (subst (λ y. Names y k) (sym e) n)) [ inl a ↦ inr (inl a) | inr b ↦ inl (inside _ _ b) ]
  prelude_named r k (inr (inr (inr (inl e)))) n = elim (pre_class _ _ _ k (subst (λ y. Names y k) (sym e) n)) [ inl a ↦ inr (inr (inl a)) | inr b ↦ inl (inside _ _ b) ]
  prelude_named r k (inr (inr (inr (inr (inl e))))) n = elim (pre_class _ _ _ k (subst (λ y. Names y k) (sym e) n)) [ inl a ↦ inr (inr (inr a)) | inr b ↦ inl (inside _ _ b) ]
  prelude_named r k (inr (inr (inr (inr (inr (inl e)))))) n = inr (inr (inr (pre_ctor _ _ k (subst (λ y. Names y k) (sym e) n))))
  prelude_named r k (inr (inr (inr (inr (inr (inr (inl e))))))) n = inr (inr (inr (pre_thread _ _ k (subst (λ y. Names y k) (sym e) n))))
  prelude_named r k (inr (inr (inr (inr (inr (inr (inr (inl e)))))))) n = inr (inr (inr (pre_thread _ _ k (subst (λ y. Names y k) (sym e) n))))
  prelude_named r k (inr (inr (inr (inr (inr (inr (inr (inr z)))))))) n = absurd z

  module _ (headed : AreHeaded declarations) where
    class_named : (i f : ℕ) (c : DeclaredClass) → At declarations i f (class_item c) → (k : ClassKey) → Names (class_row h c) k → HasRow k
    class_named i f c at k (as_declarer is) = subst HasRow is (declaration_row i f c at)
    class_named i f c at k (as_outer name has is) = subst HasRow (sym is) (declared_has_row (top_key name) (headed.outers i f c name at has))
    class_named i f c at k (as_superclass is) = parent_has_row c.key k is
    class_named i f c at k (as_type is) = absurd cc
    class_named i f c at k (as_parameter is) = absurd is

    unwritten_named : (i f : ℕ) (c : DeclaredClass) → At declarations i f (class_item c) → (k : ClassKey) → Names (unwritten c) k → HasRow k
    unwritten_named i f c at k (as_declarer is) = subst HasRow is (declaration_row i f c at)
    unwritten_named i f c at k (as_outer name has is) = absurd cc
    unwritten_named i f c at k (as_superclass is) = absurd cc
    unwritten_named i f c at k (as_type is) = absurd cc
    unwritten_named i f c at k (as_parameter is) = absurd is

    field_named : (i f : ℕ) (x : DeclaredField) → At declarations i f (field_item x) → (k : ClassKey) → Names (field_row h x) k → HasRow k
    field_named i f x at k (as_declarer is) = subst HasRow is (declared_has_row x.of (headed.owned i f (field_item x) x.of at refl))
    field_named i f x at k (as_outer name has is) = absurd cc
    field_named i f x at k (as_superclass is) = absurd cc
    field_named i f x at k (as_type is) = meaning_has_row x.of x.type k is
    field_named i f x at k (as_parameter is) = absurd is

    method_named : (i f : ℕ) (x : DeclaredMethod) → At declarations i f (method_item x) → (k : ClassKey) → Names (method_row h x) k → HasRow k
    method_named i f x at k (as_declarer is) = subst HasRow is (declared_has_row x.of (headed.owned i f (method_item x) x.of at refl))
    method_named i f x at k (as_outer name has is) = absurd cc
    method_named i f x at k (as_superclass is) = absurd cc
    method_named i f x at k (as_type is) = result_has_row x.of x.result k is
    method_named i f x at k (as_parameter is) = types_have_rows x.of x.params (meanings h x.of x.params) k refl is

    ctor_named : (i f : ℕ) (x : DeclaredCtor) → At declarations i f (ctor_item x) → (k : ClassKey) → Names (ctor_row h x) k → HasRow k
    ctor_named i f x at k (as_declarer is) = subst HasRow is (declared_has_row x.of (headed.owned i f (ctor_item x) x.of at refl))
    ctor_named i f x at k (as_outer name has is) = absurd cc
    ctor_named i f x at k (as_superclass is) = absurd cc
    ctor_named i f x at k (as_type is) = absurd cc
    ctor_named i f x at k (as_parameter is) = types_have_rows x.of x.params (meanings h x.of x.params) k refl is

    item_named : (i f : ℕ) (item : Item) → At declarations i f item → (r : Row) → In (rows_of_item h item) r → (k : ClassKey) → Names r k → HasRow k
    item_named i f (class_item c) at r z k n = elim (in_class_rows h c c.has_ctor r z) [
      | inl e ↦ class_named i f c at k (subst (λ y. Names y k) (sym e) n)
      | inr e ↦ unwritten_named i f c at k (subst (λ y. Names y k) (sym e.1) n)
    ]
    item_named i f (field_item x) at r z k n = field_named i f x at k (subst (λ y. Names y k) (sym (only h (field_row h x) r z)) n)
    item_named i f (method_item x) at r z k n = method_named i f x at k (subst (λ y. Names y k) (sym (only h (method_row h x) r z)) n)
    item_named i f (ctor_item x) at r z k n = ctor_named i f x at k (subst (λ y. Names y k) (sym (only h (ctor_row h x) r z)) n)

    pub all_named : (j : ℕ) (r : Row) (k : ClassKey) → slice_get Rows j ≡ Some r → Names r k → HasRow k
    all_named j r k at n = elim (in_either prelude_rows (rows_of_declarations h declarations) r (stands_in Rows j r at)) [
      | inl pre ↦ prelude_row k (prelude_named r k pre n)
      | inr own ↦ (let p = item_of_row h declarations r own in item_named p.0 p.1.file p.1.item (record { stands = p.2 }) r p.3 k n)
    ]
