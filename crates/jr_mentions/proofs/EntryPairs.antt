-- Rows that are the same but for some names, by number: where those that have one of the names get
-- another one, the entries are the same.
use Rattle.std.proofs.Common.{◌≡◌, ℕ, List, [], ◌∷◌, map, None, refl, sym, ap, ◌∙◌, Bool, true, inl, inr}
use Rattle.std.specs.Prelude.{if◌then◌else◌, option_map, option_and_then, unwrap_or, ◌⊎◌}
use Rattle.std.specs.List.{list_any}
use Rattle.std.proofs.lemmas.List.Elements.{length_all_zip}
use Rattle.jr_table.specs.declared.entries.Kind.TheVariants as kind
use Rattle.jr_table.specs.declared.entries.Sort.TheVariants as sort
use Rattle.jr_table.specs.declared.entries.Entry.{Entry}
use Rattle.jr_table.specs.Keys.{ClassKey, Ty, int, boolean, void, null, class}
use Rattle.jr_table.specs.Decls.{Decl, class_decl, field_decl, method_decl}
use Rattle.jr_table.specs.Rows.{Row}
use Rattle.jr_table.specs.Entries.{number_of, class_number, kind_of, sort_of, class_of, name_of, params_of, outer_name, top_class, is_static_word, is_private_word, entry_of, entries_of}
use Rattle.jr_mentions.specs.Apart.{is_among, DeclsApart, RowApart, AreApart}
use Rattle.jr_mentions.proofs.Normal.{other_than, normal}
use Rattle.jr_mentions.proofs.RowPairs.{number}

module _ (names : List (List ℕ)) (rows after : List Row) (apart : AreApart names rows after) where
  pub classes : (k : ClassKey) → number_of rows (class_decl k) ≡ number_of after (class_decl k)
  classes k = number names rows after apart (class_decl k) tt

  pub class_numbers : (k : ClassKey) → class_number rows k ≡ class_number after k
  class_numbers k = λ i. unwrap_or (classes k i) (length_all_zip (RowApart names) rows after apart i)

  kinds : (t : Ty) → kind_of rows t ≡ kind_of after t
  kinds int = refl
  kinds boolean = refl
  kinds void = refl
  kinds null = refl
  kinds (class k) = ap kind.Class (class_numbers k)

  pub all_kinds : (ts : List Ty) → map (kind_of rows) ts ≡ map (kind_of after) ts
  all_kinds ts = λ i. map (λ t. kinds t i) ts

  entry : (r : Row) → entry_of rows r ≡ entry_of after r
  entry r = λ i. record {
    sort = sort_of r.decl;
    class = class_numbers (class_of r.decl) i;
    name = name_of r.decl;
    params = all_kinds (params_of r.decl) i;
    kind = option_map (λ t. kinds t i) r.type;
    parent = option_and_then (λ k. classes k i) r.parent;
    outer = option_and_then (λ name. number names rows after apart (top_class name) tt i) (outer_name r.decl);
    is_static = list_any is_static_word r.modifiers;
    is_private = list_any is_private_word r.modifiers;
  }

abbrev with_decl : Decl → Row → Row
with_decl d r = record { decl = d; modifiers = r.modifiers; type = r.type; parent = r.parent; has_init = r.has_init }

takes_other : (b : Bool) (x y : List ℕ) → b ≡ true → (if b then x else y) ≡ x
takes_other b x y h = ap (λ c. if c then x else y) h

both_take_other : (names : List (List ℕ)) (name own other : List ℕ) → is_among names own ≡ true → is_among names other ≡ true
    → (if is_among names own then other_than name else own) ≡ (if is_among names other then other_than name else other)
both_take_other names name own other h k = takes_other (is_among names own) (other_than name) own h
    ∙ sym (takes_other (is_among names other) (other_than name) other k)

module _ (names : List (List ℕ)) (name : List ℕ) (rows : List Row) where
  at_decl : (d e : Decl) → (d ≡ e) ⊎ DeclsApart names d e → (r : Row)
      → normal names name (entry_of rows (with_decl d r)) ≡ normal names name (entry_of rows (with_decl e r))
  at_decl d e (inl p) r = ap (λ x. normal names name (entry_of rows (with_decl x r))) p
  at_decl (field_decl j) (field_decl k) (inr a) r = λ i. record {
    sort = sort.Field;
    class = class_number rows (a.class i);
    name = both_take_other names name j.name k.name a.named.0 a.named.1 i;
    params = [];
    kind = option_map (kind_of rows) r.type;
    parent = option_and_then (λ k. number_of rows (class_decl k)) r.parent;
    outer = None;
    is_static = list_any is_static_word r.modifiers;
    is_private = list_any is_private_word r.modifiers;
  }
  at_decl (method_decl j) (method_decl k) (inr a) r = λ i. record {
    sort = sort.Method;
    class = class_number rows (a.class i);
    name = both_take_other names name j.name k.name a.named.0 a.named.1 i;
    params = map (kind_of rows) (a.params i);
    kind = option_map (kind_of rows) r.type;
    parent = option_and_then (λ k. number_of rows (class_decl k)) r.parent;
    outer = None;
    is_static = list_any is_static_word r.modifiers;
    is_private = list_any is_private_word r.modifiers;
  }
  at_decl _ _ (inr a) r = absurd a

  at_row : (r s : Row) → RowApart names r s
      → normal names name (entry_of rows r) ≡ normal names name (entry_of rows s)
  at_row r s p = at_decl r.decl s.decl p.decl r
      ∙ (λ i. normal names name (entry_of rows (record {
        decl = s.decl;
        modifiers = p.modifiers i;
        type = p.type i;
        parent = p.parent i;
        has_init = p.has_init i;
      })))

module _ (names : List (List ℕ)) (name : List ℕ) (rows after : List Row) (apart : AreApart names rows after) where
  all_rows : (rs ss : List Row) → AreApart names rs ss
      → map (normal names name) (map (entry_of rows) rs) ≡ map (normal names name) (map (entry_of after) ss)
  all_rows [] [] p = refl
  all_rows [] (s ∷ ss) p = absurd p
  all_rows (r ∷ rs) [] p = absurd p
  all_rows (r ∷ rs) (s ∷ ss) p = λ i. (ap (normal names name) (entry names rows after apart r)
      ∙ at_row names name after r s p.0) i ∷ all_rows rs ss p.1 i

  entries : map (normal names name) (entries_of rows) ≡ map (normal names name) (entries_of after)
  unfolding entries_of
  entries = all_rows rows after apart

  -- a search that a change of the names leaves as it is answers the same for both
  pub stays : {Y : Type 0} (F : List Entry → Y) → ((es : List Entry) → F (map (normal names name) es) ≡ F es)
      → F (entries_of rows) ≡ F (entries_of after)
  stays F same = sym (same (entries_of rows)) ∙ ap F entries ∙ same (entries_of after)
