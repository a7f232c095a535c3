-- The members of a program, asked by their numbers.
use Rattle.std.proofs.Common.{◌≡◌, ℕ, ◌+◌, ◌<◌, ◌≤◌, List, Option, Some, None, true, false, length, sym, subst, ◌∙◌, inl, inr, arith, eq-or-lt_of_le}
use Rattle.std.specs.Prelude.{◌⊎◌, is_some, option_map, slice_get}
use Rattle.std.proofs.lemmas.Option.{same_Some, slice_get_within}
use Rattle.jr_text.specs.declared.spans.Span.{Span}
use Rattle.jr_table.specs.Decls.{Decl}
use Rattle.jr_table.specs.declared.decls.Decl as raw_decl
use Rattle.jr_table.specs.KeyView.{decl_of}
use Rattle.jr_table.specs.Rows.{Row}
use Rattle.jr_table.specs.Conditions.{AreRows}
use Rattle.jr_members.specs.declared.keyed.WrittenMember as raw
use Rattle.jr_members.specs.PartView.{written_of}
use Rattle.jr_members.specs.WrittenMembers.{WrittenMember}
use Rattle.jr_bind.specs.Bounds.{Bound}
use Rattle.jr_bind.specs.Programs.{Program}
use Rattle.jr_images.specs.Targets.{IsOfPrelude}
use Rattle.jr_cursor.specs.Names.{Finds, local_there, HasWithin, HasThere, HasInFile}
use Rattle.jr_cursor.specs.Listed.{HasNumbered, HasListed}
use Rattle.jr_cursor.proofs.Declaring.{local_declares}
use Rattle.jr_cursor.proofs.Finding.{finds_to, local_foreign}

-- what is found at its place is of the member of the number
pub file_finds : (p : Program Span) (file at n : ℕ) (w : WrittenMember Span) (b : Bound) → slice_get p.bounds n ≡ Some b → w.file ≡ file → (o : Option Decl)
    → Finds p.rows (HasThere at w b) o → Finds p.rows (HasInFile p file at n w) o
file_finds p file at n w b there of o h = finds_to p.rows (HasThere at w b) (HasInFile p file at n w) o to back h
  where
    to : (d : Decl) → HasThere at w b d → HasInFile p file at n w d
    to d g = (of, (b, there, g))

    back : (d : Decl) → HasInFile p file at n w d → (IsOfPrelude p.rows d → ⊥) → (e : Decl) × HasThere at w b e × (IsOfPrelude p.rows e → ⊥)
    back d g own = (d, subst (λ (x : Bound). HasThere at w x d) (same_Some g.1.0 b (sym g.1.1 ∙ there)) g.1.2, own)

pub member_finds : (p : Program Span) (members : List (raw.WrittenMember Span)) (file at n : ℕ) (w : raw.WrittenMember Span) → slice_get members n ≡ Some w → (o : Option Decl)
    → Finds p.rows (HasInFile p file at n (written_of w)) o → Finds p.rows (HasNumbered p members file at n) o
member_finds p members file at n w stands o h = finds_to p.rows (HasInFile p file at n (written_of w)) (HasNumbered p members file at n) o to back h
  where
    to : (d : Decl) → HasInFile p file at n (written_of w) d → HasNumbered p members file at n d
    to d g = (w, stands, g)

    back : (d : Decl) → HasNumbered p members file at n d → (IsOfPrelude p.rows d → ⊥) → (e : Decl) × HasInFile p file at n (written_of w) e × (IsOfPrelude p.rows e → ⊥)
    back d g own = (d, subst (λ (x : raw.WrittenMember Span). HasInFile p file at n (written_of x) d) (same_Some g.0 w (sym g.1 ∙ stands)) g.2, own)

-- a local is none of the prelude's
pub local_within : (rows : List Row) → AreRows rows → (at : ℕ) (w : WrittenMember Span) (b : Bound) (d : Decl) → local_there at w.key w.part ≡ Some d → HasWithin at w b d × (IsOfPrelude rows d → ⊥)
local_within rows fit at w b d e =
    let r = (local_declares at w.key w.base w.part d e).1 in
    (inl e, subst (λ (x : Decl). IsOfPrelude rows x → ⊥) (sym r.1) (local_foreign rows fit (record { member = w.key; number = r.0 })))

module _ (p : Program Span) (members : List (raw.WrittenMember Span)) (file at : ℕ) where
  -- what those below the number have is of the prelude
  abbrev pub Covered : ℕ → Type 0
  Covered n = (i : ℕ) → i < n → (d : Decl) → HasNumbered p members file at i d → (IsOfPrelude p.rows d → ⊥) → ⊥

  pub numbered_listed : (n : ℕ) (o : Option raw_decl.Decl) → is_some o ≡ true → Finds p.rows (HasNumbered p members file at n) (option_map decl_of o) → Finds p.rows (HasListed p members file at) (option_map decl_of o)
  numbered_listed n None e h = absurd cc
  numbered_listed n (Some d) e h = ((n, h.0), h.1)

  below : (i n : ℕ) → i < n + 1 → i ≤ n
  below i n lt = omega (arith, lt)

  last_or : (i n : ℕ) → i < n + 1 → (i < n) ⊎ (n ≡ i)
  last_or i n lt = elim (eq-or-lt_of_le (below i n lt)) [ inl e ↦ inr (sym e) | inr less ↦ inl less ]

  pub covered_more : (n : ℕ) (o : Option raw_decl.Decl) → is_some o ≡ false → Finds p.rows (HasNumbered p members file at n) (option_map decl_of o) → Covered n → Covered (n + 1)
  covered_more n (Some d) e h before i lt = absurd cc
  covered_more n None e h before i lt = elim (last_or i n lt) [ inl less ↦ before i less | inr same ↦ subst (λ (k : ℕ). (d : Decl) → HasNumbered p members file at k d → (IsOfPrelude p.rows d → ⊥) → ⊥) same h ]

  pub covered_all : (count n : ℕ) → count ≡ length p.bounds → count ≤ n → Covered n → Finds p.rows (HasListed p members file at) None
  covered_all count n is all covered d (i, h) own =
      let there = h.2.1.1 in
      let lt = slice_get_within p.bounds i h.2.1.0 there in
      covered i (omega (arith, lt, is, all)) d h own
