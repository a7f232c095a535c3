-- A method that has none of some names overrides badly where it did, as no method that has one of them
-- has its name.
use Rattle.std.proofs.Common.{◌≡◌, ℕ, List, [], Option, Some, None, refl, sym, ap, ◌∙◌, Bool, true, false, not, ◌&&◌, ◌==◌, subst, inl, inr}
use Rattle.std.specs.Prelude.{option_map, unwrap_or, ◌⊎◌}
use Rattle.std.specs.List.{list_any}
use Rattle.std.specs.Cmp.Lexicographic.{bytes_decides}
use Rattle.std.proofs.lemmas.Bool.{false_from_ne_true}
use Rattle.jr_table.specs.Keys.{ClassKey, MethodKey}
use Rattle.jr_table.specs.Decls.{Decl, class_decl, field_decl, method_decl, constructor_decl, local_decl}
use Rattle.jr_table.specs.SameKeys.{same_name, same_class, same_types}
use Rattle.jr_table.specs.Rows.{Row}
use Rattle.jr_table.specs.Entries.{number_of, entries_of, is_private_word}
use Rattle.jr_table.specs.Chains.{chain_of}
use Rattle.jr_table.specs.Meanings.{row_of, test_row}
use Rattle.jr_table.specs.Notes.{has_word, is_below}
use Rattle.jr_table.specs.HeadNotes.{is_strictly_below, clashes, stands_over, overrides_badly}
use Rattle.jr_mentions.specs.Apart.{is_among, IsOther, DeclsApart, RowApart, AreApart}
use Rattle.jr_mentions.specs.Alike.{Told, told}
use Rattle.jr_mentions.proofs.Keeping.{chain}
use Rattle.jr_mentions.proofs.Normal.{contradict, normal, keeps}
use Rattle.jr_mentions.proofs.RowPairs.{row, told_same, any_same}
use Rattle.jr_mentions.proofs.EntryPairs.{classes, stays}

-- a row that tells this
abbrev row_telling : Told → Row
row_telling t = record {
  decl = class_decl (record { outer = None; name = [] });
  modifiers = t.modifiers;
  type = t.type;
  parent = t.parent;
  has_init = t.has_init;
}

same_clash : (own over own' over' : Row) → told own ≡ told own' → told over ≡ told over'
    → clashes own over ≡ clashes own' over'
same_clash own over own' over' p q = λ i. clashes (row_telling (p i)) (row_telling (q i))

same_row_test : (test other : Row → Bool) → ((r s : Row) → told r ≡ told s → test r ≡ other s) → (o p : Option Row)
    → option_map told o ≡ option_map told p → test_row test o ≡ test_row other p
same_row_test test other same None None h = refl
same_row_test test other same None (Some s) h = absurd cc
same_row_test test other same (Some r) None h = absurd cc
same_row_test test other same (Some r) (Some s) h = same r s (ap (λ o. unwrap_or o (told r)) h)

none_of : (a c d : Bool) → (a && false && c && d) ≡ false
none_of true c d = refl
none_of false c d = refl

other_method : (names : List (List ℕ)) (name own : List ℕ) → IsOther names name → is_among names own ≡ true
    → same_name own name ≡ false
other_method names name own other among = false_from_ne_true (same_name own name)
    (λ h. contradict (is_among names name) (subst (λ x. is_among names x ≡ true) ((bytes_decides own name).0 h) among) other)

module _ (names : List (List ℕ)) (rows after : List Row) (apart : AreApart names rows after) where
  chains : (c : ℕ) → chain_of (entries_of rows) c ≡ chain_of (entries_of after) c
  chains c = stays names [] rows after apart (λ es. chain_of es c) (λ es. chain (normal names []) (keeps names []) es c)

  pub below : (c d : Option ℕ) → is_below rows c d ≡ is_below after c d
  below None None = refl
  below None (Some d) = refl
  below (Some c) None = refl
  below (Some c) (Some d) = ap (λ cs. list_any (λ x. x == d) cs) (chains c)

  strictly_below : (sub sup : ClassKey) → is_strictly_below rows sub sup ≡ is_strictly_below after sub sup
  strictly_below sub sup = ap (λ b. not (same_class sub sup) && b)
      ((λ i. is_below rows (classes names rows after apart sub i) (classes names rows after apart sup i))
      ∙ below (number_of after (class_decl sub)) (number_of after (class_decl sup)))

  module _ (k : MethodKey) (other : IsOther names k.name) where
    stands_same : (r s : Row) → RowApart names r s → (d : Decl) → stands_over rows k r d ≡ stands_over after k s d
    stands_same r s p (class_decl u) = refl
    stands_same r s p (field_decl u) = refl
    stands_same r s p (method_decl u) = λ i. strictly_below k.class u.class i && same_name u.name k.name
        && same_types u.params k.params && not (list_any is_private_word (p.modifiers i))
    stands_same r s p (constructor_decl u) = refl
    stands_same r s p (local_decl u) = refl

    -- no method of another name
    stands_none : (xs : List Row) (r : Row) (u : MethodKey) → is_among names u.name ≡ true
        → stands_over xs k r (method_decl u) ≡ false
    stands_none xs r u among = ap (λ b. is_strictly_below xs k.class u.class && b
        && same_types u.params k.params && not (has_word is_private_word r)) (other_method names k.name u.name other among)
        ∙ none_of (is_strictly_below xs k.class u.class) (same_types u.params k.params) (not (has_word is_private_word r))

    stands : (r s : Row) → RowApart names r s → (d e : Decl) → (d ≡ e) ⊎ DeclsApart names d e
        → stands_over rows k r d ≡ stands_over after k s e
    stands r s p d e (inl is) = stands_same r s p d ∙ ap (λ x. stands_over after k s x) is
    stands r s p (field_decl u) (field_decl v) (inr a) = refl
    stands r s p (method_decl u) (method_decl v) (inr a) =
        stands_none rows r u a.named.0 ∙ sym (stands_none after s v a.named.1)
    stands r s p _ _ (inr a) = absurd a

    pub overrides : overrides_badly rows k ≡ overrides_badly after k
    overrides = same_row_test _ _
        (λ own own' same. any_same names rows after apart
        (λ (upper : Row). stands_over rows k upper upper.decl && clashes own upper)
        (λ (upper : Row). stands_over after k upper upper.decl && clashes own' upper)
        (λ r s p i. stands r s p r.decl s.decl p.decl i && same_clash own r own' s same (told_same names r s p) i))
        (row_of rows (method_decl k)) (row_of after (method_decl k)) (row names rows after apart (method_decl k) other)
