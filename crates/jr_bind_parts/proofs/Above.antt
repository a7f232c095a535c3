-- What is found class by class upwards is what a method may not stand over.
use Rattle.std.proofs.Common.{◌≡◌, ◌≢◌, ℕ, suc, List, [], ◌∷◌, map, Option, Some, None, Bool, true, false, refl, sym, ap, subst, ◌∙◌, inl, inr}
use Rattle.std.proofs.lemmas.Map.Keys.{any_passes_from_place}
use Rattle.std.specs.Prelude.{◌&&◌, ◌||◌, not, slice_get, option_and_then}
use Rattle.std.specs.List.{list_any}
use Rattle.std.specs.Cmp.Lexicographic.{bytes_decides}
use Rattle.jr_table.specs.declared.entries.Entry.{Entry}
use Rattle.jr_table.specs.declared.entries.Kind.{Kind}
use Rattle.jr_table.specs.Keys.{ClassKey, MethodKey}
use Rattle.jr_table.specs.Decls.{Decl, class_decl, field_decl, method_decl, constructor_decl, local_decl}
use Rattle.jr_table.specs.SameKeys.{same_name, same_class, same_types, class_decides, types_decide}
use Rattle.jr_table.specs.Rows.{Row}
use Rattle.jr_table.specs.Conditions.{AreRows, as_declarer}
use Rattle.jr_table.specs.Entries.{IsRowOf, number_of, class_number, kind_of, sort_of, class_of, name_of, params_of, entry_of, entries_of, is_private_word}
use Rattle.jr_table.specs.Chains.{IsChain, chain_of, In}
use Rattle.jr_table.specs.Members.{DeclaresMethod}
use Rattle.jr_table.specs.Keyed.{IsSubclass}
use Rattle.jr_table.specs.Looking.{is_method, own_row}
use Rattle.jr_table.specs.Meanings.{row_of, test_row}
use Rattle.jr_table.specs.Notes.{has_word, is_below}
use Rattle.jr_table.specs.HeadNotes.{is_strictly_below, clashes, stands_over, overrides_badly}
use Rattle.jr_table.proofs.Assigning.{any_in, in_any}
use Rattle.jr_table.proofs.Chaining.{one_chain}
use Rattle.jr_table.proofs.MemberLaws.{Says}
use Rattle.jr_table.proofs.OneEach.{is_method_decl, class_stands, one_class, one_params, one_method}
use Rattle.jr_table.proofs.RowLaws.{row_at, number_stands, entry_stands, acyclic_rows, the_number, some_inside}
use Rattle.jr_table.proofs.Testing.{and_both, and_true, method_says}
use Rattle.jr_table.proofs.TypeTests.{below_iff}
use Rattle.jr_bind_parts.specs.OverrideClashes.{clashes_with, clashes_at, clashes_in, clashes_behind, clashes_above}
use Rattle.jr_bind_parts.proofs.Climbing.{never_again}

-- an element that passes, with its place
record PassesAt {X : Type 0} (test : X → Bool) (xs : List X) : Type 0 where
  place : ℕ
  element : X
  stands : slice_get xs place ≡ Some element
  passes : test element ≡ true

any_at : {X : Type 0} (test : X → Bool) (xs : List X) → list_any test xs ≡ true → PassesAt test xs
any_at test [] h = absurd cc
any_at test (x ∷ xs) h = by (test x) refl h (any_at test xs)
  where
    by : (b : Bool) → test x ≡ b → (b || list_any test xs) ≡ true → (list_any test xs ≡ true → PassesAt test xs) → PassesAt test (x ∷ xs)
    by true e h more = record { place = 0; element = x; stands = refl; passes = e }
    by false e h more = let m = more h in record { place = suc m.place; element = m.element; stands = m.stands; passes = m.passes }

not_true : (b : Bool) → not b ≡ true → b ≡ false
not_true true h = absurd cc
not_true false h = refl

not_false : (b : Bool) → (b ≡ true → ⊥) → not b ≡ true
not_false true h = absurd (h refl)
not_false false h = refl

same_test : (a b : Bool) → (a ≡ true → b ≡ true) → (b ≡ true → a ≡ true) → a ≡ b
same_test true b f g = sym (f refl)
same_test false true f g = g refl
same_test false false f g = refl

-- a method, in its row
module _ (rows : List Row) (are : AreRows rows) (k : MethodKey) (i : ℕ) (own : IsRowOf rows (method_decl k) i) where
  abbrev c : ℕ
  c = class_number rows k.class

  abbrev test : ℕ → Entry → Bool
  test = is_method k.name (map (kind_of rows) k.params)

  -- the row of a declaration's class
  class_row : (j : ℕ) (r : Row) → slice_get rows j ≡ Some r → (d : ClassKey) → class_of r.decl ≡ d → IsRowOf rows (class_decl d) (class_number rows d)
  class_row j r at d is =
      let n = are.named j r d at (as_declarer is) in
      subst (IsRowOf rows (class_decl d)) (sym (class_stands rows are d n.0 n.1)) n.1

  own_class : IsRowOf rows (class_decl k.class) c
  own_class = class_row i own.row own.stands k.class (ap class_of own.declares)

  -- whether the row's method may not be under this one
  abbrev over : Row → Bool
  over upper = stands_over rows k upper upper.decl && clashes own.row upper

  -- the method of class p that has the name and the types is over this one
  found_over : (p j : ℕ) → In (chain_of (entries_of rows) c) p → p ≢ c → DeclaresMethod (entries_of rows) k.name (map (kind_of rows) k.params) p j
      → test_row (clashes_with own.row) (slice_get rows j) ≡ true → list_any over rows ≡ true
  found_over p j among strict d h =
      let r = row_at rows j d.row d.stands in
      let u = is_method_decl r.row.decl (sym (ap (λ (x : Entry). x.sort) r.is) ∙ d.method) in
      let clash : clashes_with own.row r.row ≡ true = ap (test_row (clashes_with own.row)) (sym r.stands) ∙ h in
      let both = and_both (not (has_word is_private_word r.row)) (clashes own.row r.row) clash in
      let named : u.0.name ≡ k.name = sym (ap name_of u.1) ∙ sym (ap (λ (x : Entry). x.name) r.is) ∙ d.named in
      let kinds : map (kind_of rows) (params_of r.row.decl) ≡ map (kind_of rows) (params_of own.row.decl) =
      sym (ap (λ (x : Entry). x.params) r.is) ∙ d.takes ∙ sym (ap (λ e. map (kind_of rows) (params_of e)) own.declares) in
      let takes : u.0.params ≡ k.params = sym (ap params_of u.1) ∙ one_params rows are j i r.row own.row r.stands own.stands kinds ∙ ap params_of own.declares in
      let class : class_number rows u.0.class ≡ p = sym (ap (λ e. class_number rows (class_of e)) u.1) ∙ sym (ap (λ (x : Entry). x.class) r.is) ∙ d.class in
      let upper = subst (IsRowOf rows (class_decl u.0.class)) class (class_row j r.row r.stands u.0.class (ap class_of u.1)) in
      let below : IsSubclass rows k.class u.0.class = record { c = c; d = p; below = own_class; over = upper; climbs = record { chain = chain_of (entries_of rows) c; goes_up = acyclic_rows rows are c; among = among } } in
      let differs = not_false (same_class k.class u.0.class) (λ t. strict (sym class ∙ ap (class_number rows) (sym ((class_decides k.class u.0.class).0 t)))) in
      let strictly = and_true (not (same_class k.class u.0.class)) (is_below rows (number_of rows (class_decl k.class)) (number_of rows (class_decl u.0.class))) differs ((below_iff rows are k.class u.0.class).1 below) in
      let stands = and_true _ _ (and_true _ _ (and_true _ _ strictly ((bytes_decides u.0.name k.name).1 named)) ((types_decide u.0.params k.params).1 takes)) both.0 in
      let whole : over r.row ≡ true = and_true (stands_over rows k r.row r.row.decl) (clashes own.row r.row) (ap (stands_over rows k r.row) u.1 ∙ stands) both.1 in
      any_passes_from_place over rows j r.row r.stands whole

  to : clashes_above rows test own.row c ≡ true → list_any over rows ≡ true
  unfolding clashes_above
  to h = of (chain_of (entries_of rows) c) refl h
    where
      by : (p : ℕ) → In (chain_of (entries_of rows) c) p → p ≢ c → (o : Option ℕ) → Says (DeclaresMethod (entries_of rows) k.name (map (kind_of rows) k.params) p) o
          → clashes_at rows own.row o ≡ true → list_any over rows ≡ true
      by p among strict None none h = absurd cc
      by p among strict (Some j) d h = found_over p j among strict d h

      of : (cs : List ℕ) → chain_of (entries_of rows) c ≡ cs → clashes_behind rows test own.row cs ≡ true → list_any over rows ≡ true
      of [] e h = absurd cc
      of (x ∷ xs) e h =
          let m = any_in (clashes_in rows test own.row) xs h in
          let goes = subst (IsChain (entries_of rows) c) e (acyclic_rows rows are c) in
          let strict : m.0 ≢ c = λ s. never_again (entries_of rows) are.no_cycle c x xs goes (subst (In xs) s m.1) in
          by m.0 (subst (λ (cs : List ℕ). In cs m.0) (sym e) (inr m.1)) strict (own_row (entries_of rows) test m.0) (method_says (entries_of rows) k.name (map (kind_of rows) k.params) m.0) m.2

  -- the superclass's method that has the name and the types is found
  in_class : (p j : ℕ) (upper : Row) → slice_get rows j ≡ Some upper → DeclaresMethod (entries_of rows) k.name (map (kind_of rows) k.params) p j
      → clashes_with own.row upper ≡ true → clashes_in rows test own.row p ≡ true
  in_class p j upper at d h = by (own_row (entries_of rows) test p) (method_says (entries_of rows) k.name (map (kind_of rows) k.params) p)
    where
      by : (o : Option ℕ) → Says (DeclaresMethod (entries_of rows) k.name (map (kind_of rows) k.params) p) o → clashes_at rows own.row o ≡ true
      by None none = absurd (none j d)
      by (Some n) e = ap (λ m. test_row (clashes_with own.row) (slice_get rows m)) (one_method rows are k.name (map (kind_of rows) k.params) p n j e d) ∙ ap (test_row (clashes_with own.row)) at ∙ h

  above : (p : ℕ) → In (chain_of (entries_of rows) c) p → p ≢ c → clashes_in rows test own.row p ≡ true → clashes_above rows test own.row c ≡ true
  unfolding clashes_above
  above p among strict h = of (chain_of (entries_of rows) c) (acyclic_rows rows are c) among
    where
      of : (cs : List ℕ) → IsChain (entries_of rows) c cs → In cs p → clashes_behind rows test own.row cs ≡ true
      of [] goes m = absurd m
      of (x ∷ xs) goes (inl e) = absurd (strict (sym (goes.0 ∙ e)))
      of (x ∷ xs) goes (inr m) = in_any (clashes_in rows test own.row) xs p m h

  back : list_any over rows ≡ true → clashes_above rows test own.row c ≡ true
  back h = let m = any_at over rows h in of m.place m.element m.stands m.element.decl refl m.passes
    where
      of : (j : ℕ) (upper : Row) → slice_get rows j ≡ Some upper → (d : Decl) → upper.decl ≡ d → (stands_over rows k upper d && clashes own.row upper) ≡ true → clashes_above rows test own.row c ≡ true
      of j upper at (method_decl u) is h =
          let both = and_both (stands_over rows k upper (method_decl u)) (clashes own.row upper) h in
          let seen = and_both (is_strictly_below rows k.class u.class && same_name u.name k.name && same_types u.params k.params) (not (has_word is_private_word upper)) both.0 in
          let like = and_both (is_strictly_below rows k.class u.class && same_name u.name k.name) (same_types u.params k.params) seen.0 in
          let strictly = and_both (is_strictly_below rows k.class u.class) (same_name u.name k.name) like.0 in
          let apart = and_both (not (same_class k.class u.class)) (is_below rows (number_of rows (class_decl k.class)) (number_of rows (class_decl u.class))) strictly.0 in
          let differs = not_true (same_class k.class u.class) apart.0 in
          let s = (below_iff rows are k.class u.class).0 apart.1 in
          let upper_class = class_row j upper at u.class (ap class_of is) in
          let p = class_number rows u.class in
          let strict : p ≢ c = λ e. let t = (class_decides k.class u.class).1 (one_class rows are k.class u.class c p own_class upper_class (sym e)) in absurd cc in
          let there = subst (λ (cs : List ℕ). In cs s.d) (one_chain (entries_of rows) s.c s.climbs.chain (chain_of (entries_of rows) s.c) s.climbs.goes_up (acyclic_rows rows are s.c)) s.climbs.among in
          let among : In (chain_of (entries_of rows) c) p = subst (In (chain_of (entries_of rows) c)) (sym (class_stands rows are u.class s.d s.over)) (subst (λ (x : ℕ). In (chain_of (entries_of rows) x) s.d) (sym (class_stands rows are k.class s.c s.below)) there) in
          let e = entry_of rows upper in
          let named : name_of upper.decl ≡ k.name = ap name_of is ∙ (bytes_decides u.name k.name).0 strictly.1 in
          let takes : params_of upper.decl ≡ k.params = ap params_of is ∙ (types_decide u.params k.params).0 like.1 in
          let declares : DeclaresMethod (entries_of rows) k.name (map (kind_of rows) k.params) p j = record {
            row = e;
            stands = entry_stands rows j upper at;
            method = ap sort_of is;
            class = ap (λ x. class_number rows (class_of x)) is;
            named = named;
            takes = ap (map (kind_of rows)) takes;
          } in
          above p among strict (in_class p j upper at declares (and_true (not (has_word is_private_word upper)) (clashes own.row upper) seen.1 both.1))
      of j upper at (class_decl u) is h = absurd cc
      of j upper at (field_decl u) is h = absurd cc
      of j upper at (constructor_decl u) is h = absurd cc
      of j upper at (local_decl u) is h = absurd cc

  over_row : list_any over rows ≡ overrides_badly rows k
  unfolding row_of
  over_row =
      let T = λ (o : Row). list_any (λ (upper : Row). stands_over rows k upper upper.decl && clashes o upper) rows in
      sym (ap (λ o. test_row T (option_and_then (λ n. slice_get rows n) o)) (the_number rows are (method_decl k) i own) ∙ ap (test_row T) own.stands)

  pub overrides_is : clashes_above rows test own.row c ≡ overrides_badly rows k
  overrides_is = same_test (clashes_above rows test own.row c) (list_any over rows) to back ∙ over_row

-- the row of a method
module _ (rows : List Row) (number : ℕ) where
  pub no_entry : None ≡ slice_get (entries_of rows) number → (k : MethodKey) → number_of rows (method_decl k) ≡ Some number → false ≡ overrides_badly rows k
  no_entry none k at =
      let own = number_stands rows (method_decl k) number at in
      let e = none ∙ entry_stands rows number own.row own.stands in
      absurd cc

  pub no_row : None ≡ slice_get rows number → (k : MethodKey) → number_of rows (method_decl k) ≡ Some number → false ≡ overrides_badly rows k
  no_row none k at =
      let own = number_stands rows (method_decl k) number at in
      let e = none ∙ own.stands in
      absurd cc

  pub overriding_is : AreRows rows → (e : Entry) (r : Row) (name : List ℕ) (params : List Kind) (b : Bool) → Some e ≡ slice_get (entries_of rows) number → Some r ≡ slice_get rows number
      → name ≡ e.name → params ≡ e.params → b ≡ clashes_above rows (is_method name params) r e.class
      → (k : MethodKey) → number_of rows (method_decl k) ≡ Some number → b ≡ overrides_badly rows k
  overriding_is are e r name params b se sr en ep h k at =
      let own = number_stands rows (method_decl k) number at in
      let same : e ≡ entry_of rows own.row = some_inside (slice_get (entries_of rows) number) e (entry_of rows own.row) (sym se) (entry_stands rows number own.row own.stands) in
      let row : r ≡ own.row = some_inside (slice_get rows number) r own.row (sym sr) own.stands in
      let named : name ≡ k.name = en ∙ ap (λ (x : Entry). x.name) same ∙ ap name_of own.declares in
      let takes : params ≡ map (kind_of rows) k.params = ep ∙ ap (λ (x : Entry). x.params) same ∙ ap (λ d. map (kind_of rows) (params_of d)) own.declares in
      let class : e.class ≡ class_number rows k.class = ap (λ (x : Entry). x.class) same ∙ ap (λ d. class_number rows (class_of d)) own.declares in
      h ∙ (λ i. clashes_above rows (is_method (named i) (takes i)) (row i) (class i)) ∙ overrides_is rows are k number own
