-- A row of a member that has none of some names, and the declaration that is shown of it.
use Rattle.std.proofs.Common.{◌≡◌, ℕ, List, [], ◌∷◌, Option, Some, None, refl, sym, ap, ◌∙◌, false, subst, inl, inr}
use Rattle.std.specs.Prelude.{option_map, unwrap_or, slice_get}
use Rattle.std.proofs.lemmas.Option.{slice_get-map}
use Rattle.jr_table.specs.declared.entries.Kind.{Kind}
use Rattle.jr_table.specs.declared.entries.Entry.{Entry}
use Rattle.jr_table.specs.declared.answers.Answer.{Answer}
use Rattle.jr_table.specs.declared.answers.Answer.TheVariants.{One, Nothing, Many, NotAccessible, FromStatic}
use Rattle.jr_table.specs.Decls.{Decl, class_decl, field_decl, method_decl, constructor_decl, local_decl}
use Rattle.jr_table.specs.Rows.{Row}
use Rattle.jr_table.specs.Entries.{sort_of, name_of, IsRowOf, top_class, entry_of, entries_of}
use Rattle.jr_table.specs.Members.{DeclaresField, DeclaresMethod, DeclaresType, MemberAmong, IsMember}
use Rattle.jr_table.specs.Calls.{DeclaresCtor}
use Rattle.jr_table.specs.Found.{one, not_accessible, from_static}
use Rattle.jr_table.specs.Lookup.{decl_at, shown_one, shown_two, shown}
use Rattle.jr_mentions.specs.Apart.{IsOther, IsClean, AreApart}
use Rattle.jr_mentions.specs.Alike.{IsCleanFound, Finds}
use Rattle.jr_mentions.proofs.Normal.{may_differ}
use Rattle.jr_mentions.proofs.RowPairs.{stays_at}

-- row j declares something that has none of them
pub record CleanAt (names : List (List ℕ)) (rows : List Row) (j : ℕ) : Type 0 where
  pub row : Row
  pub stands : slice_get rows j ≡ Some row
  pub clean : IsClean names row.decl

abbrev pub CleanAnswer : (names : List (List ℕ)) (rows : List Row) → Answer → Type 0
CleanAnswer names rows (One j) = CleanAt names rows j
CleanAnswer names rows Nothing = Unit {0}
CleanAnswer names rows (Many j k) = CleanAt names rows j × CleanAt names rows k
CleanAnswer names rows (NotAccessible j) = CleanAt names rows j
CleanAnswer names rows (FromStatic j) = CleanAt names rows j

module _ (names : List (List ℕ)) where
  named_clean : (name : List ℕ) → IsOther names name → (d : Decl) → name_of d ≡ name → IsClean names d
  named_clean name other (class_decl k) is = tt
  named_clean name other (field_decl k) is = subst (λ n. IsOther names n) (sym is) other
  named_clean name other (method_decl k) is = subst (λ n. IsOther names n) (sym is) other
  named_clean name other (constructor_decl k) is = tt
  named_clean name other (local_decl k) is = tt

  sort_clean : (d : Decl) → may_differ (sort_of d) ≡ false → IsClean names d
  sort_clean (class_decl k) is = tt
  sort_clean (field_decl k) is = absurd cc
  sort_clean (method_decl k) is = absurd cc
  sort_clean (constructor_decl k) is = tt
  sort_clean (local_decl k) is = tt

module _ (names : List (List ℕ)) (rows : List Row) where
  row_clean : (j : ℕ) (e : Entry) (o : Option Row) → slice_get rows j ≡ o → option_map (entry_of rows) o ≡ Some e
      → ((r : Row) → entry_of rows r ≡ e → IsClean names r.decl) → CleanAt names rows j
  row_clean j e None is h clean = absurd cc
  row_clean j e (Some r) is h clean = record { row = r; stands = is; clean = clean r (ap (λ o. unwrap_or o e) h) }

  entry_clean : (j : ℕ) (e : Entry) → slice_get (entries_of rows) j ≡ Some e
      → ((r : Row) → entry_of rows r ≡ e → IsClean names r.decl) → CleanAt names rows j
  unfolding entries_of
  entry_clean j e is clean = row_clean j e (slice_get rows j) refl (sym (slice_get-map (entry_of rows) rows j) ∙ is) clean

  pub field_clean : (name : List ℕ) → IsOther names name → (c j : ℕ) → DeclaresField (entries_of rows) name c j
      → CleanAt names rows j
  field_clean name other c j d = entry_clean j d.row d.stands
      (λ r p. named_clean names name other r.decl (ap (λ (e : Entry). e.name) p ∙ d.named))

  pub method_clean : (name : List ℕ) → IsOther names name → (params : List Kind) (c j : ℕ)
      → DeclaresMethod (entries_of rows) name params c j → CleanAt names rows j
  method_clean name other params c j d = entry_clean j d.row d.stands
      (λ r p. named_clean names name other r.decl (ap (λ (e : Entry). e.name) p ∙ d.named))

  pub type_clean : (name : List ℕ) (c j : ℕ) → DeclaresType (entries_of rows) name c j → CleanAt names rows j
  type_clean name c j d = entry_clean j d.row d.stands
      (λ r p. sort_clean names r.decl (ap may_differ (ap (λ (e : Entry). e.sort) p ∙ d.type)))

  pub ctor_clean : (params : List Kind) (c j : ℕ) → DeclaresCtor (entries_of rows) params c j → CleanAt names rows j
  ctor_clean params c j d = entry_clean j d.row d.stands
      (λ r p. sort_clean names r.decl (ap may_differ (ap (λ (e : Entry). e.sort) p ∙ d.constructor)))

  pub class_clean : (name : List ℕ) (j : ℕ) → IsRowOf rows (top_class name) j → CleanAt names rows j
  class_clean name j r = record { row = r.row; stands = r.stands; clean = subst (λ d. IsClean names d) (sym r.declares) tt }

  among_clean : (Own : ℕ → ℕ → Type 0) → ((c j : ℕ) → Own c j → CleanAt names rows j) → (cs : List ℕ) (j : ℕ)
      → MemberAmong (entries_of rows) Own cs j → CleanAt names rows j
  among_clean Own clean [] j h = absurd h
  among_clean Own clean (c ∷ cs) j (inl h) = clean c j h
  among_clean Own clean (c ∷ cs) j (inr h) = among_clean Own clean cs j h.1

  pub member_clean : (Own : ℕ → ℕ → Type 0) → ((c j : ℕ) → Own c j → CleanAt names rows j) → (c j : ℕ)
      → IsMember (entries_of rows) Own c j → CleanAt names rows j
  member_clean Own clean c j h = among_clean Own clean h.chain j h.among

module _ (names : List (List ℕ)) (rows after : List Row) (apart : AreApart names rows after) where
  decl_before : (j : ℕ) (c : CleanAt names rows j) → decl_at rows j ≡ Some c.row.decl
  decl_before j c = ap (option_map (λ (r : Row). r.decl)) c.stands

  decl_after : (j : ℕ) → CleanAt names rows j → decl_at rows j ≡ decl_at after j
  decl_after j c = decl_before j c ∙ sym (stays_at names rows after apart j c.row c.stands c.clean)

  pub shows : (a : Answer) → CleanAnswer names rows a → Finds names (shown rows a) (shown after a)
  unfolding shown
  shows (One j) c = record {
    same = ap (shown_one one) (decl_after j c);
    clean = subst (λ o. IsCleanFound names (shown_one one o)) (sym (decl_before j c)) c.clean;
  }
  shows Nothing c = record { same = refl; clean = tt }
  shows (Many j k) c = record {
    same = λ i. shown_two (decl_after j c.0 i) (decl_after k c.1 i);
    clean = subst (λ o. IsCleanFound names (shown_two o (decl_at rows k))) (sym (decl_before j c.0))
        (subst (λ o. IsCleanFound names (shown_two (Some c.0.row.decl) o)) (sym (decl_before k c.1)) (c.0.clean, c.1.clean));
  }
  shows (NotAccessible j) c = record {
    same = ap (shown_one not_accessible) (decl_after j c);
    clean = subst (λ o. IsCleanFound names (shown_one not_accessible o)) (sym (decl_before j c)) c.clean;
  }
  shows (FromStatic j) c = record {
    same = ap (shown_one from_static) (decl_after j c);
    clean = subst (λ o. IsCleanFound names (shown_one from_static o)) (sym (decl_before j c)) c.clean;
  }

  -- where both have the same answer by number
  pub finds : (a b : Answer) → a ≡ b → CleanAnswer names rows a → Finds names (shown rows a) (shown after b)
  finds a b is clean = subst (λ x. Finds names (shown rows a) (shown after x)) is (shows a clean)
