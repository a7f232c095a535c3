-- A method under one of a superclass's: the test is true exactly where the relation holds.
use Rattle.std.proofs.Common.{◌≡◌, ◌≢◌, ℕ, suc, ◌<◌, List, [], ◌∷◌, Option, Some, None, Bool, true, false, refl, ap, ◌∙◌}
use Rattle.std.proofs.lemmas.Bool.{ltb-true, lt-ltb}
use Rattle.std.proofs.lemmas.Map.Keys.{any_passes_from_place}
use Rattle.std.specs.Prelude.{◌⊎◌, ◌↔◌, ◌&&◌, ◌||◌, not, nat_lt, slice_get}
use Rattle.std.specs.List.{list_any}
use Rattle.std.specs.Cmp.Lexicographic.{bytes_decides}
use Rattle.jr_table.specs.Keys.{ClassKey, MethodKey, Ty}
use Rattle.jr_table.specs.Decls.{Decl, class_decl, field_decl, method_decl, constructor_decl, local_decl}
use Rattle.jr_table.specs.SameKeys.{same_name, same_class, same_types, class_decides, ty_decides, types_decide}
use Rattle.jr_table.specs.Rows.{Row}
use Rattle.jr_table.specs.Conditions.{AreRows}
use Rattle.jr_table.specs.Entries.{IsRowOf, number_of, is_static_word, is_private_word}
use Rattle.jr_table.specs.Keyed.{IsSubclass}
use Rattle.jr_table.specs.Context.{is_final_word}
use Rattle.jr_table.specs.HeadRules.{access_of, OverridesBadly}
use Rattle.jr_table.specs.Notes.{has_word, is_below}
use Rattle.jr_table.specs.HeadNotes.{is_strictly_below, same_type, same_bool, clashes, stands_over, overrides_badly}
use Rattle.jr_table.proofs.FirstLaws.{PassesAt}
use Rattle.jr_table.proofs.Testing.{and_both, and_true}
use Rattle.jr_table.proofs.RowTypes.{chain, test_iff}
use Rattle.jr_table.proofs.TypeTests.{and_iff, or_iff, not_iff, below_iff}
use Rattle.jr_table.proofs.DeclarationTests.{not_false}

-- an element that passes, with its place
any_at : {X : Type 0} (test : X → Bool) (xs : List X) → list_any test xs ≡ true → (j : ℕ) × PassesAt test xs j
any_at test [] h = absurd cc
any_at test (x ∷ xs) h = by (test x) refl h (λ more. any_at test xs more)
  where
    by : (b : Bool) → test x ≡ b → (b || list_any test xs) ≡ true → (list_any test xs ≡ true → (j : ℕ) × PassesAt test xs j) → (j : ℕ) × PassesAt test (x ∷ xs) j
    by true e h more = (0, record { element = x; stands = refl; passes = e })
    by false e h more = let m = more h in (suc m.0, record { element = m.1.element; stands = m.1.stands; passes = m.1.passes })

same_bool_iff : (a b : Bool) → (same_bool a b ≡ true) ↔ (a ≡ b)
same_bool_iff true true = (λ h. refl, λ h. refl)
same_bool_iff true false = (λ h. absurd cc, λ h. absurd cc)
same_bool_iff false true = (λ h. absurd cc, λ h. absurd cc)
same_bool_iff false false = (λ h. refl, λ h. refl)

same_type_iff : (s t : Option Ty) → (same_type s t ≡ true) ↔ (s ≡ t)
same_type_iff None None = (λ h. refl, λ h. refl)
same_type_iff None (Some t) = (λ h. absurd cc, λ h. absurd cc)
same_type_iff (Some s) None = (λ h. absurd cc, λ h. absurd cc)
same_type_iff (Some s) (Some t) = (λ h. ap Some ((ty_decides s t).0 h), λ h. let i : s ≡ t = cc in (ty_decides s t).1 i)

-- what may not be between a method and the one above
abbrev IsClash : Row → Row → Type 0
IsClash own over = (access_of own.modifiers < access_of over.modifiers) ⊎ ((list_any is_static_word own.modifiers ≢ list_any is_static_word over.modifiers)
    ⊎ ((own.type ≢ over.type) ⊎ (list_any is_final_word over.modifiers ≡ true)))

clash_iff : (own over : Row) → (clashes own over ≡ true) ↔ IsClash own over
clash_iff own over = or_iff (nat_lt (access_of own.modifiers) (access_of over.modifiers)) _ (access_of own.modifiers < access_of over.modifiers) _
    (λ h. ltb-true (access_of own.modifiers) (access_of over.modifiers) h, λ h. lt-ltb (access_of own.modifiers) (access_of over.modifiers) h)
    (or_iff (not (same_bool (has_word is_static_word own) (has_word is_static_word over))) _ (list_any is_static_word own.modifiers ≢ list_any is_static_word over.modifiers) _
    (not_iff (same_bool (has_word is_static_word own) (has_word is_static_word over)) (list_any is_static_word own.modifiers ≡ list_any is_static_word over.modifiers) (same_bool_iff (list_any is_static_word own.modifiers) (list_any is_static_word over.modifiers)))
    (or_iff (not (same_type own.type over.type)) (has_word is_final_word over) (own.type ≢ over.type) (list_any is_final_word over.modifiers ≡ true)
    (not_iff (same_type own.type over.type) (own.type ≡ over.type) (same_type_iff own.type over.type)) (λ h. h, λ h. h)))

module _ (rows : List Row) (fit : AreRows rows) where
  strictly_iff : (sub sup : ClassKey) → (is_strictly_below rows sub sup ≡ true) ↔ ((sub ≢ sup) × IsSubclass rows sub sup)
  strictly_iff sub sup = and_iff (not (same_class sub sup)) (is_below rows (number_of rows (class_decl sub)) (number_of rows (class_decl sup))) (sub ≢ sup) (IsSubclass rows sub sup)
      (not_iff (same_class sub sup) (sub ≡ sup) (λ h. (class_decides sub sup).0 h, λ h. (class_decides sub sup).1 h)) (below_iff rows fit sub sup)

  -- the method of the row above has the name and parameter types, and isn't private
  pub record IsAbove (k u : MethodKey) (upper : Row) : Type 0 where
    pub strict : k.class ≢ u.class
    pub above : IsSubclass rows k.class u.class
    pub named : u.name ≡ k.name
    pub takes : u.params ≡ k.params
    pub visible : list_any is_private_word upper.modifiers ≡ false

  above_iff : (k u : MethodKey) (upper : Row) → (stands_over rows k upper (method_decl u) ≡ true) ↔ IsAbove k u upper
  above_iff k u upper = chain (and_iff (is_strictly_below rows k.class u.class && same_name u.name k.name && same_types u.params k.params) (not (has_word is_private_word upper)) _ (list_any is_private_word upper.modifiers ≡ false)
      (and_iff (is_strictly_below rows k.class u.class && same_name u.name k.name) (same_types u.params k.params) _ (u.params ≡ k.params)
      (and_iff (is_strictly_below rows k.class u.class) (same_name u.name k.name) ((k.class ≢ u.class) × IsSubclass rows k.class u.class) (u.name ≡ k.name) (strictly_iff k.class u.class) (λ h. (bytes_decides u.name k.name).0 h, λ h. (bytes_decides u.name k.name).1 h))
      (λ h. (types_decide u.params k.params).0 h, λ h. (types_decide u.params k.params).1 h))
      (not_false (has_word is_private_word upper)))
      (λ h. record { strict = h.0.0.0.0; above = h.0.0.0.1; named = h.0.0.1; takes = h.0.1; visible = h.1 }, λ a. ((((a.strict, a.above), a.named), a.takes), a.visible))

  abbrev clashing : MethodKey → Row → Row → Bool
  clashing k own upper = stands_over rows k upper upper.decl && clashes own upper

  pub overrides_iff : (k : MethodKey) → (overrides_badly rows k ≡ true) ↔ OverridesBadly rows k
  overrides_iff k = chain (test_iff rows fit (λ own. list_any (λ (upper : Row). clashing k own upper) rows) (method_decl k)) (λ h. to h.0 h.1 h.2, back)
    where
      under : (i j : ℕ) (own : IsRowOf rows (method_decl k) i) (upper : Row) → slice_get rows j ≡ Some upper → (d : Decl) → upper.decl ≡ d → (stands_over rows k upper d && clashes own.row upper) ≡ true → OverridesBadly rows k
      under i j own upper at (method_decl u) is h =
          let both = and_both (stands_over rows k upper (method_decl u)) (clashes own.row upper) h in
          let a = (above_iff k u upper).0 both.0 in (
            u,
            record {
              above = a.above;
              strict = a.strict;
              named = a.named;
              takes = a.takes;
              i = i;
              j = j;
              own = own;
              over = record { row = upper; stands = at; declares = is };
              visible = a.visible;
            },
            (clash_iff own.row upper).0 both.1,
          )
      under i j own upper at (class_decl u) is h = absurd cc
      under i j own upper at (field_decl u) is h = absurd cc
      under i j own upper at (constructor_decl u) is h = absurd cc
      under i j own upper at (local_decl u) is h = absurd cc

      to : (i : ℕ) (own : IsRowOf rows (method_decl k) i) → list_any (λ (upper : Row). clashing k own.row upper) rows ≡ true → OverridesBadly rows k
      to i own h = let p = any_at (λ (upper : Row). clashing k own.row upper) rows h in under i p.0 own p.1.element p.1.stands p.1.element.decl refl p.1.passes

      back : OverridesBadly rows k → (i : ℕ) × (own : IsRowOf rows (method_decl k) i) × (list_any (λ (upper : Row). clashing k own.row upper) rows ≡ true)
      back (u, s, clash) =
          let a = (above_iff k u s.over.row).1 (record { strict = s.strict; above = s.above; named = s.named; takes = s.takes; visible = s.visible }) in
          let b = ap (λ d. stands_over rows k s.over.row d) s.over.declares ∙ a in
          (s.i, s.own, any_passes_from_place (λ (upper : Row). clashing k s.own.row upper) rows s.j s.over.row s.over.stands (and_true (stands_over rows k s.over.row s.over.row.decl) (clashes s.own.row s.over.row) b ((clash_iff s.own.row s.over.row).1 clash)))
