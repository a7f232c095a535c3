-- What an answer shows.
use Rattle.std.proofs.Common.{◌≡◌, ℕ, List, Option, Some, None, Bool, true, false, refl, sym, ap, ◌∙◌}
use Rattle.std.specs.Prelude.{slice_get, option_map, is_some, not, ◌&&◌}
use Rattle.jr_table.specs.declared.answers.Answer.TheVariants.{One, Nothing, Many, NotAccessible, FromStatic}
use Rattle.jr_table.specs.Decls.{Decl}
use Rattle.jr_table.specs.Rows.{Row}
use Rattle.jr_table.specs.Conditions.{AreRows}
use Rattle.jr_table.specs.Entries.{entry_of, entries_of, is_static_word}
use Rattle.jr_table.specs.Found.{Found, one, nothing, many, not_accessible, from_static}
use Rattle.jr_table.specs.Lookup.{decl_at, shown_one, shown_two, shown}
use Rattle.jr_table.specs.Meanings.{row_of, test_row}
use Rattle.jr_table.specs.Notes.{test_found, has_word, is_static_decl, is_instance_decl}
use Rattle.jr_table.proofs.RowLaws.{entry_at, entry_stands}
use Rattle.jr_bind_expr.specs.Arms.{is_nothing, one_decl, is_static_entry, is_instance_entry}
use Rattle.jr_bind_expr.proofs.Abouting.{row_is}

module _ (rows : List Row) where
  pub nothing_one : (j : ℕ) → not (is_some (decl_at rows j)) ≡ is_nothing (shown rows (One j))
  unfolding shown
  nothing_one j = by (decl_at rows j)
    where
      by : (o : Option Decl) → not (is_some o) ≡ is_nothing (shown_one one o)
      by None = refl
      by (Some d) = refl

  pub nothing_private : (j : ℕ) → not (is_some (decl_at rows j)) ≡ is_nothing (shown rows (NotAccessible j))
  unfolding shown
  nothing_private j = by (decl_at rows j)
    where
      by : (o : Option Decl) → not (is_some o) ≡ is_nothing (shown_one not_accessible o)
      by None = refl
      by (Some d) = refl

  pub nothing_static : (j : ℕ) → not (is_some (decl_at rows j)) ≡ is_nothing (shown rows (FromStatic j))
  unfolding shown
  nothing_static j = by (decl_at rows j)
    where
      by : (o : Option Decl) → not (is_some o) ≡ is_nothing (shown_one from_static o)
      by None = refl
      by (Some d) = refl

  pub nothing_many : (j k : ℕ) → not (is_some (decl_at rows j) && is_some (decl_at rows k)) ≡ is_nothing (shown rows (Many j k))
  unfolding shown
  nothing_many j k = by (decl_at rows j) (decl_at rows k)
    where
      by : (o p : Option Decl) → not (is_some o && is_some p) ≡ is_nothing (shown_two o p)
      by None None = refl
      by None (Some d) = refl
      by (Some d) None = refl
      by (Some d) (Some e) = refl

  pub nothing_none : true ≡ is_nothing (shown rows Nothing)
  unfolding shown
  nothing_none = refl

  -- the one declaration
  pub one_one : (j : ℕ) → decl_at rows j ≡ one_decl (shown rows (One j))
  unfolding shown
  one_one j = by (decl_at rows j)
    where
      by : (o : Option Decl) → o ≡ one_decl (shown_one one o)
      by None = refl
      by (Some d) = refl

  pub one_private : (j : ℕ) → None ≡ one_decl (shown rows (NotAccessible j))
  unfolding shown
  one_private j = by (decl_at rows j)
    where
      by : (o : Option Decl) → None ≡ one_decl (shown_one not_accessible o)
      by None = refl
      by (Some d) = refl

  pub one_static : (j : ℕ) → None ≡ one_decl (shown rows (FromStatic j))
  unfolding shown
  one_static j = by (decl_at rows j)
    where
      by : (o : Option Decl) → None ≡ one_decl (shown_one from_static o)
      by None = refl
      by (Some d) = refl

  pub one_many : (j k : ℕ) → None ≡ one_decl (shown rows (Many j k))
  unfolding shown
  one_many j k = by (decl_at rows j) (decl_at rows k)
    where
      by : (o p : Option Decl) → None ≡ one_decl (shown_two o p)
      by None None = refl
      by None (Some d) = refl
      by (Some d) None = refl
      by (Some d) (Some e) = refl

  pub one_none : None ≡ one_decl (shown rows Nothing)
  unfolding shown
  one_none = refl

-- a test of the one declaration
abbrev test_of : (Decl → Bool) → Option Decl → Bool
test_of test None = false
test_of test (Some d) = test d

test_is : (test : Decl → Bool) (f : Found) → test_found test f ≡ test_of test (one_decl f)
test_is test (one d) = refl
test_is test nothing = refl
test_is test (many d e) = refl
test_is test (not_accessible d) = refl
test_is test (from_static d) = refl

pub none_tested : (test : Decl → Bool) (f : Found) → None ≡ one_decl f → false ≡ test_found test f
none_tested test f h = ap (test_of test) h ∙ sym (test_is test f)

module _ (rows : List Row) (are : AreRows rows) (f : Found) (j : ℕ) (h : decl_at rows j ≡ one_decl f) where
  of_row : (test : Row → Bool) → test_of (λ d. test_row test (row_of rows d)) (decl_at rows j) ≡ test_row test (slice_get rows j)
  of_row test = by (slice_get rows j) refl
    where
      by : (o : Option Row) → slice_get rows j ≡ o → test_of (λ d. test_row test (row_of rows d)) (option_map (λ (r : Row). r.decl) o) ≡ test_row test o
      by None e = refl
      by (Some r) e = ap (test_row test) (row_is rows are j r e)

  pub static_tested : is_static_entry (slice_get (entries_of rows) j) ≡ test_found (is_static_decl rows) f
  static_tested = by (slice_get rows j) refl ∙ sym (test_is (is_static_decl rows) f ∙ ap (test_of (is_static_decl rows)) (sym h) ∙ of_row (has_word is_static_word))
    where
      by : (o : Option Row) → slice_get rows j ≡ o → is_static_entry (slice_get (entries_of rows) j) ≡ test_row (has_word is_static_word) (slice_get rows j)
      by None e = ap is_static_entry (entry_at rows j) ∙ (λ i. is_static_entry (option_map (entry_of rows) (e i))) ∙ sym (ap (test_row (has_word is_static_word)) e)
      by (Some r) e = ap is_static_entry (entry_stands rows j r e) ∙ sym (ap (test_row (has_word is_static_word)) e)

  pub instance_tested : is_instance_entry (slice_get (entries_of rows) j) ≡ test_found (is_instance_decl rows) f
  instance_tested = by (slice_get rows j) refl ∙ sym (test_is (is_instance_decl rows) f ∙ ap (test_of (is_instance_decl rows)) (sym h) ∙ of_row (λ r. not (has_word is_static_word r)))
    where
      by : (o : Option Row) → slice_get rows j ≡ o → is_instance_entry (slice_get (entries_of rows) j) ≡ test_row (λ r. not (has_word is_static_word r)) (slice_get rows j)
      by None e = ap is_instance_entry (entry_at rows j) ∙ (λ i. is_instance_entry (option_map (entry_of rows) (e i))) ∙ sym (ap (test_row (λ r. not (has_word is_static_word r))) e)
      by (Some r) e = ap is_instance_entry (entry_stands rows j r e) ∙ sym (ap (test_row (λ r. not (has_word is_static_word r))) e)
