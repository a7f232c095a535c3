-- Rows that are the same but for some names, row by row: a declaration that has none of them stands
-- at the same number.
use Rattle.std.proofs.Common.{◌≡◌, ℕ, zero, suc, List, [], ◌∷◌, Option, Some, None, refl, sym, ap, ◌∙◌, Bool, false, subst, inl, inr}
use Rattle.std.specs.Prelude.{if◌then◌else◌, option_map, option_and_then, slice_get, ◌⊎◌, ◌||◌}
use Rattle.std.specs.List.{list_any}
use Rattle.std.proofs.lemmas.Bool.{false_from_ne_true}
use Rattle.jr_table.specs.Decls.{Decl, field_decl, method_decl}
use Rattle.jr_table.specs.Rows.{Row}
use Rattle.jr_table.specs.SameDecls.{same_decl, decl_decides}
use Rattle.jr_table.specs.Firsts.{first_that}
use Rattle.jr_table.specs.Entries.{number_of}
use Rattle.jr_table.specs.Lookup.{decl_at}
use Rattle.jr_table.specs.Meanings.{row_of}
use Rattle.jr_mentions.specs.Apart.{IsClean, DeclsApart, RowApart, AreApart}
use Rattle.jr_mentions.specs.Alike.{told}
use Rattle.jr_mentions.proofs.Normal.{contradict}

module _ (names : List (List ℕ)) where
  -- both declarations have one of the names
  pub record Unclean (d e : Decl) : Type 0 where
    pub before : IsClean names d → ⊥
    pub behind : IsClean names e → ⊥

  pub unclean : (d e : Decl) → DeclsApart names d e → Unclean d e
  unclean (field_decl j) (field_decl k) a =
      record { before = contradict _ a.named.0; behind = contradict _ a.named.1 }
  unclean (method_decl j) (method_decl k) a =
      record { before = contradict _ a.named.0; behind = contradict _ a.named.1 }
  unclean _ _ a = absurd a

  differs : (d f : Decl) → (IsClean names d → ⊥) → IsClean names f → same_decl d f ≡ false
  differs d f not_clean clean = false_from_ne_true (same_decl d f)
      (λ h. not_clean (subst (λ x. IsClean names x) (sym ((decl_decides d f).0 h)) clean))

  same_test : (d e f : Decl) → (d ≡ e) ⊎ DeclsApart names d e → IsClean names f → same_decl d f ≡ same_decl e f
  same_test d e f (inl p) clean = ap (λ x. same_decl x f) p
  same_test d e f (inr a) clean = differs d f (unclean d e a).before clean ∙ sym (differs e f (unclean d e a).behind clean)

  first_same : (rows after : List Row) → AreApart names rows after → (f : Decl) → IsClean names f
      → first_that (λ (r : Row). same_decl r.decl f) rows ≡ first_that (λ (r : Row). same_decl r.decl f) after
  first_same [] [] p f clean = refl
  first_same [] (s ∷ ss) p f clean = absurd p
  first_same (r ∷ rs) [] p f clean = absurd p
  first_same (r ∷ rs) (s ∷ ss) p f clean = λ i. if same_test r.decl s.decl f p.0.decl clean i then Some 0
      else option_map suc (first_same rs ss p.1 f clean i)

  pub number : (rows after : List Row) → AreApart names rows after → (d : Decl) → IsClean names d
      → number_of rows d ≡ number_of after d
  unfolding number_of
  number rows after p d clean = first_same rows after p d clean

  same_decl_in : (d e f : Decl) → (d ≡ e) ⊎ DeclsApart names d e → d ≡ f → IsClean names f → e ≡ f
  same_decl_in d e f (inl p) is clean = sym p ∙ is
  same_decl_in d e f (inr a) is clean = absurd ((unclean d e a).before (subst (λ x. IsClean names x) (sym is) clean))

  -- a declaration that has none of them is the same at a number
  pub stays_at : (rows after : List Row) → AreApart names rows after → (j : ℕ) (r : Row)
      → slice_get rows j ≡ Some r → IsClean names r.decl → decl_at after j ≡ Some r.decl
  stays_at [] [] p j r is clean = absurd cc
  stays_at [] (s ∷ ss) p j r is clean = absurd p
  stays_at (x ∷ rs) [] p j r is clean = absurd p
  stays_at (x ∷ rs) (s ∷ ss) p zero r is clean =
      let same : x ≡ r = cc in
      ap Some (same_decl_in x.decl s.decl r.decl p.0.decl (ap (λ (y : Row). y.decl) same) clean)
  stays_at (x ∷ rs) (s ∷ ss) p (suc j) r is clean = stays_at rs ss p.1 j r is clean

  pub told_same : (r s : Row) → RowApart names r s → told r ≡ told s
  told_same r s p = λ i. record { modifiers = p.modifiers i; type = p.type i; parent = p.parent i; has_init = p.has_init i }

  told_at : (rows after : List Row) → AreApart names rows after → (j : ℕ)
      → option_map told (slice_get rows j) ≡ option_map told (slice_get after j)
  told_at [] [] p j = refl
  told_at [] (s ∷ ss) p j = absurd p
  told_at (r ∷ rs) [] p j = absurd p
  told_at (r ∷ rs) (s ∷ ss) p zero = ap Some (told_same r s p.0)
  told_at (r ∷ rs) (s ∷ ss) p (suc j) = told_at rs ss p.1 j

  told_of : (rows after : List Row) → AreApart names rows after → (o : Option ℕ)
      → option_map told (option_and_then (λ j. slice_get rows j) o) ≡ option_map told (option_and_then (λ j. slice_get after j) o)
  told_of rows after p None = refl
  told_of rows after p (Some j) = told_at rows after p j

  pub row : (rows after : List Row) → AreApart names rows after → (d : Decl) → IsClean names d
      → option_map told (row_of rows d) ≡ option_map told (row_of after d)
  unfolding row_of
  row rows after p d clean =
      ap (λ o. option_map told (option_and_then (λ j. slice_get rows j) o)) (number rows after p d clean)
      ∙ told_of rows after p (number_of after d)

  -- whether a row passes
  pub any_same : (rows after : List Row) → AreApart names rows after → (test other : Row → Bool)
      → ((r s : Row) → RowApart names r s → test r ≡ other s) → list_any test rows ≡ list_any other after
  any_same [] [] p test other same = refl
  any_same [] (s ∷ ss) p test other same = absurd p
  any_same (r ∷ rs) [] p test other same = absurd p
  any_same (r ∷ rs) (s ∷ ss) p test other same = λ i. same r s p.0 i || any_same rs ss p.1 test other same i
