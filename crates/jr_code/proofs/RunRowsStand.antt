-- What runs need of a program's rows: each question has its answer, which is computed.
use Rattle.std.proofs.Common.{◌≡◌, ℕ, List, [], map, Option, Some, None, Bool, true, false, refl, sym, ap, subst, ◌∙◌, inl, inr, eq-eqb, eqb-true}
use Rattle.std.specs.Prelude.{◌⊎◌, ◌↔◌, ◌||◌, ◌==◌, is_some, slice_get, codes, IsTrue, option_and_then}
use Rattle.std.specs.List.{list_any}
use Rattle.jr_runs.specs.Values as value
use Rattle.jr_runs.specs.Actions.{plain}
use Rattle.jr_runs.specs.Rows as core
use Rattle.jr_table.specs.declared.entries.Entry.{Entry}
use Rattle.jr_table.specs.Keys.{ClassKey, MethodKey}
use Rattle.jr_table.specs.SameKeys.{same_class, class_decides}
use Rattle.jr_table.specs.Decls.{Decl, class_decl, field_decl, method_decl, constructor_decl}
use Rattle.jr_table.specs.Rows.{Row}
use Rattle.jr_table.specs.Prelude.{top_key}
use Rattle.jr_table.specs.Entries.{IsRowOf, number_of, entries_of, is_static_word, kind_of, method_at}
use Rattle.jr_table.specs.Conditions.{AreRows}
use Rattle.jr_table.specs.Members.{DeclaresVirtual, Dispatches}
use Rattle.jr_table.specs.Looking.{is_virtual, nearest}
use Rattle.jr_table.specs.Chains.{In, IsSubclassAt, chain_of}
use Rattle.jr_table.specs.Virtual.{virtual_entry}
use Rattle.jr_table.specs.Keyed.{IsSubclass, DispatchesTo}
use Rattle.jr_table.specs.Meanings.{row_of}
use Rattle.jr_table.specs.Notes.{is_below}
use Rattle.jr_table.proofs.Chaining.{one_chain}
use Rattle.jr_table.proofs.RowLaws.{number_stands, number_none, the_number, acyclic_rows}
use Rattle.jr_table.proofs.Assigning.{any_in, in_any}
use Rattle.jr_table.proofs.TypeTests.{or_iff, below_iff}
use Rattle.jr_table.proofs.Testing.{virtual_says}
use Rattle.jr_table.proofs.OneEach.{one_virtual}
use Rattle.jr_table.proofs.MemberLaws.{one_nearest}
use Rattle.jr_table.proofs.Border.{not_virtual, not_below, none_nearest, the_method}
use Rattle.jr_code.specs.RunKeys.{RunKeys}
use Rattle.jr_code.specs.RunRows.{kind_of_words, run_type, held_type, param_type, HasRow, AreRunRows}

abbrev on_row : {X : Type 0} → Option Row → (Row → X) → X → X
on_row None f none = none
on_row (Some r) f none = f r

abbrev owner_by : ClassKey → Bool → Option ClassKey
owner_by k true = None
owner_by k false = Some k

module _ (rows : List Row) where
  -- ---- dispatch

  abbrev is_above : ℕ → ℕ → Bool
  is_above i d = list_any (λ x. x == d) (chain_of (entries_of rows) i)

  abbrev nearest_key : Option ℕ → Option MethodKey
  nearest_key o = option_and_then (method_at rows) o

  abbrev if_above : Bool → Option MethodKey → Option MethodKey
  if_above true o = o
  if_above false o = None

  abbrev by_entry : ℕ → Option Entry → Option MethodKey
  by_entry i None = None
  by_entry i (Some e) = if_above (is_above i e.class) (nearest_key (nearest (entries_of rows) (is_virtual e.name e.params) i))

  abbrev by_numbers : Option ℕ → Option ℕ → Option MethodKey
  by_numbers None o = None
  by_numbers (Some i) None = None
  by_numbers (Some i) (Some j) = by_entry i (virtual_entry (entries_of rows) j)

  abbrev dispatch : ClassKey → MethodKey → Option MethodKey
  dispatch c m = by_numbers (number_of rows (class_decl c)) (number_of rows (method_decl m))

  -- ---- all

  abbrev pub run_rows : core.Rows RunKeys
  run_rows = record {
    same_class = same_class;
    is_subclass = λ c d. same_class c d || is_below rows (number_of rows (class_decl c)) (number_of rows (class_decl d));
    text_class = top_key (codes "String");
    class_class = top_key (codes "Class");
    field_kind = λ k. on_row (row_of rows (field_decl k)) (λ r. kind_of_words r.modifiers) plain;
    field_type = λ k. on_row (row_of rows (field_decl k)) (λ r. held_type (option_and_then run_type r.type)) value.int_type;
    dispatch = dispatch;
    has_method = λ m. is_some (row_of rows (method_decl m));
    owner = λ m. on_row (row_of rows (method_decl m)) (λ r. owner_by m.class (list_any is_static_word r.modifiers)) None;
    params = λ m. on_row (row_of rows (method_decl m)) (λ r. map param_type m.params) [];
    result = λ m. on_row (row_of rows (method_decl m)) (λ r. option_and_then run_type r.type) None;
    has_constructor = λ q. is_some (row_of rows (constructor_decl q));
    constructor_class = λ q. q.class;
    constructor_params = λ q. on_row (row_of rows (constructor_decl q)) (λ r. map param_type q.params) [];
  }

  -- ---- rows

  abbrev pub RowOr : Decl → Type 0
  RowOr d = HasRow rows d ⊎ (HasRow rows d → ⊥)

  pub row_or : (d : Decl) → RowOr d
  row_or d = by (number_of rows d) refl
    where
      by : (o : Option ℕ) → number_of rows d ≡ o → RowOr d
      by (Some j) e = inl (j, number_stands rows d j e)
      by None e = inr (λ h. number_none rows d e h.0 h.1)

  no_row : (d : Decl) → (HasRow rows d → ⊥) → row_of rows d ≡ None
  unfolding row_of
  no_row d never = by (number_of rows d) refl
    where
      by : (o : Option ℕ) → number_of rows d ≡ o → option_and_then (λ j. slice_get rows j) o ≡ None
      by None e = refl
      by (Some j) e = absurd (never (j, number_stands rows d j e))

  none_has : (d : Decl) → is_some (row_of rows d) ≡ true → HasRow rows d
  unfolding row_of
  none_has d has = by (number_of rows d) refl has
    where
      by : (o : Option ℕ) → number_of rows d ≡ o → is_some (option_and_then (λ j. slice_get rows j) o) ≡ true → HasRow rows d
      by None e t = absurd cc
      by (Some j) e t = (j, number_stands rows d j e)

  module _ (are : AreRows rows) where
    the_row : (d : Decl) (j : ℕ) (i : IsRowOf rows d j) → row_of rows d ≡ Some i.row
    unfolding row_of
    the_row d j i = ap (option_and_then (λ n. slice_get rows n)) (the_number rows are d j i) ∙ i.stands

    there : {X : Type 0} (d : Decl) (f : Row → X) (none : X) (j : ℕ) (i : IsRowOf rows d j) → on_row (row_of rows d) f none ≡ f i.row
    there d f none j i = ap (λ (o : Option Row). on_row o f none) (the_row d j i)

    lacking : {X : Type 0} (d : Decl) (f : Row → X) (none : X) → (HasRow rows d → ⊥) → on_row (row_of rows d) f none ≡ none
    lacking d f none never = ap (λ (o : Option Row). on_row o f none) (no_row d never)

    has_is : (d : Decl) → IsTrue (is_some (row_of rows d)) ↔ HasRow rows d
    has_is d = (λ t. none_has d t, λ h. ap is_some (the_row d h.0 h.1))

    -- ---- dispatch is exact

    above_is : (i d : ℕ) → is_above i d ≡ true → IsSubclassAt (entries_of rows) i d
    above_is i d h =
        let m = any_in (λ x. x == d) (chain_of (entries_of rows) i) h in
        record { chain = chain_of (entries_of rows) i; goes_up = acyclic_rows rows are i; among = subst (In (chain_of (entries_of rows) i)) (eqb-true m.0 d m.2) m.1 }

    is_there : (i d : ℕ) → IsSubclassAt (entries_of rows) i d → is_above i d ≡ true
    is_there i d s = in_any (λ x. x == d) (chain_of (entries_of rows) i) d (subst (λ (cs : List ℕ). In cs d) (one_chain (entries_of rows) i s.chain (chain_of (entries_of rows) i) s.goes_up (acyclic_rows rows are i)) s.among) (eq-eqb d d refl)

    one_dispatch : (of : ClassKey) (m j k : MethodKey) → DispatchesTo rows of m j → DispatchesTo rows of m k → j ≡ k
    one_dispatch of m j k x y =
        let c_same : x.c ≡ y.c = are.one_each (class_decl of) x.c y.c x.place y.place in
        let near = subst (λ (n : ℕ). Dispatches (entries_of rows) m.name (map (kind_of rows) m.params) n x.k) c_same x.nearest in
        let same : x.k ≡ y.k = one_nearest (entries_of rows) (DeclaresVirtual (entries_of rows) m.name (map (kind_of rows) m.params)) (is_virtual m.name (map (kind_of rows) m.params)) (virtual_says (entries_of rows) m.name (map (kind_of rows) m.params))
        (one_virtual rows are m.name (map (kind_of rows) m.params)) (acyclic_rows rows are) y.c x.k y.k near y.nearest in
        let both : Some x.found_row.row ≡ Some y.found_row.row = sym x.found_row.stands ∙ ap (slice_get rows) same ∙ y.found_row.stands in
        let row : x.found_row.row ≡ y.found_row.row = cc in
        let keys : method_decl j ≡ method_decl k = sym x.found_row.declares ∙ ap (λ (r : Row). r.decl) row ∙ y.found_row.declares in
        cc

    module _ (of : ClassKey) (m : MethodKey) where
      abbrev Says : Option MethodKey → Type 0
      Says o = (k : MethodKey) → (o ≡ Some k) ↔ DispatchesTo rows of m k

      says_none : ((k : MethodKey) → DispatchesTo rows of m k → ⊥) → Says None
      says_none not k = (λ e. absurd cc, λ d. absurd (not k d))

      says_key : (f : MethodKey) → DispatchesTo rows of m f → Says (Some f)
      says_key f d k = (λ e. let same : f ≡ k = cc in subst (DispatchesTo rows of m) same d, λ h. ap Some (one_dispatch of m f k d h))

      by_near : (i j : ℕ) (e : Entry) → number_of rows (class_decl of) ≡ Some i → number_of rows (method_decl m) ≡ Some j → virtual_entry (entries_of rows) j ≡ Some e → IsSubclassAt (entries_of rows) i e.class
          → (o : Option ℕ) → nearest (entries_of rows) (is_virtual e.name e.params) i ≡ o → Says (nearest_key o)
      by_near i j e at mt v below (Some k) found = let f = the_method rows are of m i j k e at mt v below found in subst Says (sym f.at) (says_key f.key f.is)
      by_near i j e at mt v below None none = says_none (λ k d. none_nearest rows are of m k i j e at mt v none d)

      by_above : (i j : ℕ) (e : Entry) → number_of rows (class_decl of) ≡ Some i → number_of rows (method_decl m) ≡ Some j → virtual_entry (entries_of rows) j ≡ Some e
          → (b : Bool) → is_above i e.class ≡ b → Says (if_above b (nearest_key (nearest (entries_of rows) (is_virtual e.name e.params) i)))
      by_above i j e at mt v true is = by_near i j e at mt v (above_is i e.class is) (nearest (entries_of rows) (is_virtual e.name e.params) i) refl
      by_above i j e at mt v false is = says_none (λ k d. not_below rows are of m k i j e at mt v (λ below. let t = sym is ∙ is_there i e.class below in absurd cc) d)

      by_virtual : (i j : ℕ) → number_of rows (class_decl of) ≡ Some i → number_of rows (method_decl m) ≡ Some j → (o : Option Entry) → virtual_entry (entries_of rows) j ≡ o → Says (by_entry i o)
      by_virtual i j at mt (Some e) v = by_above i j e at mt v (is_above i e.class) refl
      by_virtual i j at mt None v = says_none (λ k d. not_virtual rows are of m k j mt v d)

      by_both : (o p : Option ℕ) → number_of rows (class_decl of) ≡ o → number_of rows (method_decl m) ≡ p → Says (by_numbers o p)
      by_both None p at mt = says_none (λ k d. number_none rows (class_decl of) at d.c d.place)
      by_both (Some i) None at mt = says_none (λ k d. number_none rows (method_decl m) mt d.j d.row)
      by_both (Some i) (Some j) at mt = by_virtual i j at mt (virtual_entry (entries_of rows) j) refl

      dispatch_is : Says (dispatch of m)
      dispatch_is = by_both (number_of rows (class_decl of)) (number_of rows (method_decl m)) refl refl

    pub are_run_rows : AreRunRows rows run_rows
    are_run_rows = record {
      same_class = λ c d. class_decides c d;
      is_subclass = λ c d. or_iff (same_class c d) (is_below rows (number_of rows (class_decl c)) (number_of rows (class_decl d))) (c ≡ d) (IsSubclass rows c d) (class_decides c d) (below_iff rows are c d);
      text_class = refl;
      class_class = refl;
      field_kind = λ k j i. there (field_decl k) (λ r. kind_of_words r.modifiers) plain j i;
      field_type = λ k j i. there (field_decl k) (λ r. held_type (option_and_then run_type r.type)) value.int_type j i;
      no_field = λ k not. (lacking (field_decl k) (λ r. kind_of_words r.modifiers) plain not, lacking (field_decl k) (λ r. held_type (option_and_then run_type r.type)) value.int_type not);
      dispatch = λ c m found. dispatch_is c m found;
      has_method = λ m. has_is (method_decl m);
      static = λ m h. there (method_decl m) (λ r. owner_by m.class (list_any is_static_word r.modifiers)) None h.0 h.1 ∙ ap (owner_by m.class) h.2;
      instance = λ m h. there (method_decl m) (λ r. owner_by m.class (list_any is_static_word r.modifiers)) None h.0 h.1 ∙ ap (owner_by m.class) h.2;
      params = λ m h. there (method_decl m) (λ r. map param_type m.params) [] h.0 h.1;
      result = λ m j i. there (method_decl m) (λ r. option_and_then run_type r.type) None j i;
      no_method = λ m not. (
        lacking (method_decl m) (λ r. owner_by m.class (list_any is_static_word r.modifiers)) None not,
        lacking (method_decl m) (λ r. map param_type m.params) [] not,
        lacking (method_decl m) (λ r. option_and_then run_type r.type) None not,
      );
      has_constructor = λ q. has_is (constructor_decl q);
      constructor_class = λ q. refl;
      constructor_params = λ q h. there (constructor_decl q) (λ r. map param_type q.params) [] h.0 h.1;
      no_constructor = λ q not. lacking (constructor_decl q) (λ r. map param_type q.params) [] not;
    }
