-- A method has its place among the members of its class.
use Rattle.std.proofs.Common.{◌≡◌, ◌<◌, ℕ, ◌+◌, List, map, length, Option, Some, None, Bool, true, false, refl, sym, ap, subst, ◌∙◌, arith}
use Rattle.std.specs.Prelude.{unwrap_or, slice_get, option_and_then}
use Rattle.jr_index.specs.declared.linked.Linked.{Linked}
use Rattle.jr_index.specs.Linked.{is_at, AreOwned, AreLinkedFrom}
use Rattle.jr_table.specs.Keys.{ClassKey, MethodKey}
use Rattle.jr_table.specs.Decls.{Decl, class_decl, field_decl, method_decl, constructor_decl, local_decl}
use Rattle.jr_table.specs.Rows.{Row}
use Rattle.jr_table.specs.SameDecls.{same_decl, decl_decides}
use Rattle.jr_table.specs.Entries.{IsRowOf, number_of, class_number, class_of, class_of_member, outer_name, top_class, name_of, sort_of, entry_of, entries_of}
use Rattle.jr_table.specs.Conditions.{AreRows, as_declarer}
use Rattle.jr_table.specs.MemberIndex.{owner_by, member_place, LinksMembers}
use Rattle.jr_table.proofs.RowLaws.{within, number_stands, number_none, as_many, some_inside}
use Rattle.jr_table.proofs.SameMaps.{map-map}
use Rattle.jr_table.proofs.ClassLaws.{is_place}
use Rattle.jr_table.proofs.Walking.{owned_map}

abbrev pub row_place : List Row → Row → Option ℕ × List ℕ
row_place rows r = member_place (entry_of rows r)

-- whether a row goes by this name in this class
abbrev pub row_named : List Row → ℕ → List ℕ → Row → Bool
row_named rows c q r = is_at c q (row_place rows r)

module _ (rows : List Row) where
  -- the links between entries are links between rows
  pub links_rows : (x : Linked) → LinksMembers (entries_of rows) x → AreLinkedFrom (map (row_place rows) rows) (length rows + 1) 0 x
  unfolding entries_of
  links_rows x linked =
      subst (λ ps. AreLinkedFrom ps (length rows + 1) 0 x) (map-map (entry_of rows) member_place rows)
      (subst (λ n. AreLinkedFrom (map member_place (map (entry_of rows) rows)) (n + 1) 0 x) (as_many rows) linked)

  -- each row is found in a class that has a number, or in the number behind all
  number_within : (k : ClassKey) → unwrap_or (number_of rows (class_decl k)) (length rows) < length rows + 1
  number_within k = by (number_of rows (class_decl k)) refl
    where
      by : (o : Option ℕ) → number_of rows (class_decl k) ≡ o → unwrap_or o (length rows) < length rows + 1
      by None e = omega arith
      by (Some j) e = let lt = within rows (class_decl k) j (number_stands rows (class_decl k) j e) in omega (arith, lt)

  outer_within : (o : Option (List ℕ)) (c : ℕ) → option_and_then (λ name. number_of rows (top_class name)) o ≡ Some c → c < length rows + 1
  outer_within None c h = absurd cc
  outer_within (Some name) c h = let lt = within rows (top_class name) c (number_stands rows (top_class name) c h) in omega (arith, lt)

  its_number : (a c : ℕ) → Some a ≡ Some c → a < length rows + 1 → c < length rows + 1
  its_number a c h lt = let e : a ≡ c = cc in omega (arith, e, lt)

  owner_within : (d : Decl) (c : ℕ) → owner_by (sort_of d) (class_number rows (class_of d)) (option_and_then (λ name. number_of rows (top_class name)) (outer_name d)) ≡ Some c → c < length rows + 1
  owner_within (class_decl k) c h = outer_within k.outer c h
  owner_within (field_decl k) c h = its_number _ c h (number_within k.class)
  owner_within (method_decl k) c h = its_number _ c h (number_within k.class)
  owner_within (constructor_decl k) c h = its_number _ c h (number_within k.class)
  owner_within (local_decl k) c h = its_number _ c h (number_within (class_of_member k.member))

  pub members_owned : AreOwned (map member_place (entries_of rows)) (length (entries_of rows) + 1)
  unfolding entries_of
  members_owned =
      subst (λ n. AreOwned (map member_place (map (entry_of rows) rows)) (n + 1)) (sym (as_many rows))
      (subst (λ ps. AreOwned ps (length rows + 1)) (sym (map-map (entry_of rows) member_place rows)) (owned_map (row_place rows) (length rows + 1) rows (λ r c h. owner_within r.decl c h)))

  module _ (k : MethodKey) where
    pub method_placed : (c : ℕ) → number_of rows (class_decl k.class) ≡ Some c → (r : Row) → same_decl r.decl (method_decl k) ≡ true → row_named rows c k.name r ≡ true
    method_placed c of r h =
        let is = (decl_decides r.decl (method_decl k)).0 h in
        ap (λ d. is_at c k.name (owner_by (sort_of d) (unwrap_or (number_of rows (class_decl (class_of d))) (length rows)) (entry_of rows r).outer, name_of d)) is
        ∙ is_place c k.name (Some (unwrap_or (number_of rows (class_decl k.class)) (length rows))) (ap (λ o. Some (unwrap_or o (length rows))) of)

    pub no_class : AreRows rows → number_of rows (class_decl k.class) ≡ None → number_of rows (method_decl k) ≡ None
    no_class are none = by (number_of rows (method_decl k)) refl
      where
        by : (o : Option ℕ) → number_of rows (method_decl k) ≡ o → o ≡ None
        by None e = refl
        by (Some j) e =
            let r = number_stands rows (method_decl k) j e in
            let n = are.named j r.row k.class r.stands (as_declarer (ap class_of r.declares)) in
            absurd (number_none rows (class_decl k.class) none n.0 n.1)

    -- the test of a row's key, and that of the row
    pub declares_true : (j : ℕ) (r : Row) → slice_get rows j ≡ Some r → IsRowOf rows (method_decl k) j → same_decl r.decl (method_decl k) ≡ true
    declares_true j r at h = (decl_decides r.decl (method_decl k)).1 (ap (λ (x : Row). x.decl) (some_inside (slice_get rows j) r h.row at h.stands) ∙ h.declares)

    pub declares_false : (j : ℕ) (r : Row) → slice_get rows j ≡ Some r → (IsRowOf rows (method_decl k) j → ⊥) → same_decl r.decl (method_decl k) ≡ false
    declares_false j r at other = by (same_decl r.decl (method_decl k)) refl
      where
        by : (b : Bool) → same_decl r.decl (method_decl k) ≡ b → b ≡ false
        by false e = refl
        by true e = absurd (other (record { row = r; stands = at; declares = (decl_decides r.decl (method_decl k)).0 e }))
