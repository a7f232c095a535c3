-- Members of a file that stays have the same trees, at the same numbers.
use Rattle.std.proofs.Common.{◌≡◌, ℕ, zero, suc, ◌+◌, List, [], ◌∷◌, map, length, refl, sym, ap, subst, ◌∙◌}
use Rattle.std.specs.Prelude.{filter, slice_get, Option, Some, None}
use Rattle.std.proofs.lemmas.Option.{same_Some}
use Rattle.jr_ast.specs.MemberTree as syntax
use Rattle.jr_table.specs.Prelude.{prelude_rows}
use Rattle.jr_table.specs.Rows.{Row}
use Rattle.jr_table.specs.Errors.{Part}
use Rattle.jr_members.specs.Parts.{Placed, placed, units_parts}
use Rattle.jr_members.specs.WrittenMembers.{WrittenMember, row_count, put_member, members_at, written_members}
use Rattle.jr_cache.proofs.Counting.{count, one_more, counted}
use Rattle.jr_cache.proofs.FileParts.{OfFile, unit_parts, file_parts}

module _ {A : Type 0} where
  abbrev pub file_of : WrittenMember A → ℕ
  file_of w = w.file

  abbrev number_of : Placed A → ℕ
  number_of p = p.file

  abbrev pub place_of : WrittenMember A → Placed A
  place_of w = placed w.file w.base w.part

  -- ---- a member is a part, and as many of a file stand before it

  abbrev IsPart : List (WrittenMember A) → List (Placed A) → Type 0
  IsPart ws ps = (i : ℕ) (w : WrittenMember A) → slice_get ws i ≡ Some w
      → (slice_get ps i ≡ Some (place_of w)) × ((of : ℕ) → count of i (map file_of ws) ≡ count of i (map number_of ps))

  module _ (begins : A → ℕ → ℕ) (rows : List Row) where
    put_is_part : (o : Option Row) (row : ℕ) (p : Placed A) (ws : List (WrittenMember A)) (ps : List (Placed A)) → IsPart ws ps → IsPart (put_member begins o row p ws) (p ∷ ps)
    put_is_part None row p ws ps h i w e = absurd cc
    put_is_part (Some r) row p ws ps h zero w e = (ap (λ (o : Option (WrittenMember A)). option_place o) e, λ of. refl)
      where
        option_place : Option (WrittenMember A) → Option (Placed A)
        option_place None = None
        option_place (Some v) = Some (place_of v)
    put_is_part (Some r) row p ws ps h (suc i) w e = let rest = h i w e in (rest.0, λ of. ap (one_more _) (rest.1 of))

    members_are_parts : (row : ℕ) (ps : List (Placed A)) → IsPart (members_at begins rows row ps) ps
    unfolding members_at
    members_are_parts row [] = λ i w e. absurd cc
    members_are_parts row (p ∷ ps) = put_is_part (slice_get rows row) row p (members_at begins rows (row + row_count begins p.part) ps) ps (members_are_parts (row + row_count begins p.part) ps)

    pub written_are_parts : (units : List (syntax.Unit A)) → IsPart (written_members begins rows units) (units_parts begins units)
    unfolding written_members
    written_are_parts units = members_are_parts (length prelude_rows) (units_parts begins units)

  -- ---- the same in two programs

  file_at : (ws : List (WrittenMember A)) (i : ℕ) (w : WrittenMember A) → slice_get ws i ≡ Some w → slice_get (map file_of ws) i ≡ Some w.file
  file_at [] i w e = absurd cc
  file_at (v ∷ ws) zero w e = ap (λ (x : WrittenMember A). Some x.file) (same_Some v w e)
  file_at (v ∷ ws) (suc i) w e = file_at ws i w e

  -- two lists of one number each
  pub one_file : (ws vs : List (WrittenMember A)) → map file_of ws ≡ map file_of vs → (i : ℕ) (w v : WrittenMember A) → slice_get ws i ≡ Some w → slice_get vs i ≡ Some v → w.file ≡ v.file
  one_file ws vs e i w v a b = same_Some w.file v.file (sym (file_at ws i w a) ∙ ap (λ ns. slice_get ns i) e ∙ file_at vs i v b)

  module _ (begins : A → ℕ → ℕ) (rows after : List Row) (units units_after : List (syntax.Unit A)) where
    abbrev ws : List (WrittenMember A)
    ws = written_members begins rows units

    abbrev vs : List (WrittenMember A)
    vs = written_members begins after units_after

    pub same_place : map file_of ws ≡ map file_of vs → (i : ℕ) (w v : WrittenMember A) → slice_get ws i ≡ Some w → slice_get vs i ≡ Some v
        → slice_get units v.file ≡ slice_get units_after v.file → place_of w ≡ place_of v
    same_place files i w v a b stays =
        let of : ℕ = v.file in
        let first = written_are_parts begins rows units i w a in
        let second = written_are_parts begins after units_after i v b in
        let one = counted number_of of (units_parts begins units) i (place_of w) first.0 (one_file ws vs files i w v a b) in
        let two = counted number_of of (units_parts begins units_after) i (place_of v) second.0 refl in
        let parts : filter (OfFile begins of) (units_parts begins units) ≡ filter (OfFile begins of) (units_parts begins units_after) =
        file_parts begins of units ∙ ap (unit_parts begins of) stays ∙ sym (file_parts begins of units_after) in
        let counts : count of i (map number_of (units_parts begins units)) ≡ count of i (map number_of (units_parts begins units_after)) =
        sym (first.1 of) ∙ ap (count of i) files ∙ second.1 of in
        same_Some (place_of w) (place_of v) (sym one ∙ (λ j. slice_get (parts j) (counts j)) ∙ two)
