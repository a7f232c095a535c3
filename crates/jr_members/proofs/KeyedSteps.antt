-- Parts become members, one after the other.
use Rattle.std.proofs.Common.{◌≡◌, ℕ, ◌+◌, List, [], ◌∷◌, ◌++◌, length, Some, None, sym, ap, refl, ◌∙◌, arith}
use Rattle.std.specs.Prelude.{slice_get}
use Rattle.std.proofs.lemmas.List.{append_assoc, append-nil}
use Rattle.jr_table.specs.Rows.{Row}
use Rattle.jr_members.specs.Parts.{Placed}
use Rattle.jr_members.specs.WrittenMembers.{WrittenMember, member_of_decl, row_count, put_member, members_at}

pub no_items : {X : Type 0} (xs : List X) → length xs ≡ 0 → xs ≡ []
no_items [] e = refl
no_items (x ∷ xs) e = absurd (omega arith)

module _ {A : Type 0} (begins : A → ℕ → ℕ) (rows : List Row) (all now : List (WrittenMember A)) (row : ℕ) where
  abbrev member : Placed A → Row → WrittenMember A
  member p r = record { file = p.file; key = member_of_decl r.decl; row = row; base = p.base; part = p.part }

  -- there is no further row
  pub stops : (p : Placed A) (rest ps : List (Placed A)) → rest ≡ p ∷ ps → slice_get rows row ≡ None → now ++ members_at begins rows row rest ≡ all → now ≡ all
  unfolding members_at
  stops p rest ps is none so_far =
      sym (append-nil now) ∙ ap (λ ms. now ++ ms) (sym (ap (members_at begins rows row) is ∙ ap (λ o. put_member begins o row p (members_at begins rows (row + row_count begins p.part) ps)) none)) ∙ so_far

  pub goes_on : (p : Placed A) (rest ps : List (Placed A)) (r : Row) (next : List (WrittenMember A)) (further : ℕ) → rest ≡ p ∷ ps → slice_get rows row ≡ Some r
      → further ≡ row + row_count begins p.part → next ≡ now ++ member p r ∷ [] → now ++ members_at begins rows row rest ≡ all → next ++ members_at begins rows further ps ≡ all
  unfolding members_at
  goes_on p rest ps r next further is some count made so_far =
      (λ i. made i ++ members_at begins rows (count i) ps) ∙ append_assoc now (member p r ∷ []) (members_at begins rows (row + row_count begins p.part) ps)
      ∙ ap (λ ms. now ++ ms) (sym (ap (members_at begins rows row) is ∙ ap (λ o. put_member begins o row p (members_at begins rows (row + row_count begins p.part) ps)) some)) ∙ so_far

  pub ends : (rest : List (Placed A)) → rest ≡ [] → now ++ members_at begins rows row rest ≡ all → now ≡ all
  unfolding members_at
  ends rest none so_far = sym (append-nil now) ∙ ap (λ ps. now ++ members_at begins rows row ps) (sym none) ∙ so_far
