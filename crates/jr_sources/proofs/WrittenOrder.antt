-- Written members stand in the order of their files.
use Rattle.std.proofs.Common.{◌≡◌, ℕ, zero, suc, ◌+◌, ◌<◌, ◌≤◌, List, [], ◌∷◌, ◌++◌, length, get_or, subst, arith}
use Rattle.std.specs.Prelude.{Option, Some, None, slice_get}
use Rattle.std.specs.List.Sorted.{IsNonDecreasingBy}
use Rattle.std.proofs.lemmas.List.Sorted.{IsNonDecreasingBy-from_all_adjacent}
use Rattle.jr_text.specs.declared.spans.Span.{Span}
use Rattle.jr_ast.specs.MemberTree as syntax
use Rattle.jr_table.specs.Rows.{Row}
use Rattle.jr_table.specs.Prelude.{prelude_rows}
use Rattle.jr_members.specs.Parts.{Placed, class_parts, members_parts, member_parts, classes_parts, parts_from, units_parts}
use Rattle.jr_members.specs.WrittenMembers.{WrittenMember, put_member, members_at, row_count, written_members}
use Rattle.jr_program_laws.specs.FileParts.{begins}
use Rattle.jr_program.specs.Members.{AreWrittenInOrder}

-- ---- numbers that don't fall, from one up to another

one_more : (k : ℕ) → suc k ≡ k + 1
one_more k = omega arith

module _ {X : Type 0} (n : X → ℕ) where
  abbrev pub Rise : (low high : ℕ) → List X → Type 0
  Rise low high [] = low ≤ high
  Rise low high (x ∷ xs) = (low ≤ n x) × Rise (n x) high xs

  rise_from : (low from high : ℕ) (xs : List X) → low ≤ from → Rise from high xs → Rise low high xs
  rise_from low from high [] le h = omega (arith, le, h)
  rise_from low from high (x ∷ xs) le h = let at = h.0 in (omega (arith, le, at), h.1)

  rise_bounds : (low high : ℕ) (xs : List X) → Rise low high xs → low ≤ high
  rise_bounds low high [] h = h
  rise_bounds low high (x ∷ xs) h = let at = h.0 in let up = rise_bounds (n x) high xs h.1 in omega (arith, at, up)

  rise_join : (low mid high : ℕ) (xs ys : List X) → Rise low mid xs → Rise mid high ys → Rise low high (xs ++ ys)
  rise_join low mid high [] ys g h = rise_from low mid high ys g h
  rise_join low mid high (x ∷ xs) ys g h = (g.0, rise_join (n x) mid high xs ys g.1 h)

  next_up : (low high : ℕ) (xs : List X) → Rise low high xs → (k : ℕ) (d : X) → suc k < length xs → n (get_or xs k d) ≤ n (get_or xs (suc k) d)
  next_up low high [] h k d lt = absurd (omega (arith, lt))
  next_up low high (x ∷ []) h k d lt = absurd (omega (arith, lt))
  next_up low high (x ∷ y ∷ xs) h zero d lt = h.1.0
  next_up low high (x ∷ y ∷ xs) h (suc k) d lt = next_up (n x) high (y ∷ xs) h.1 k d (omega (arith, lt))

  pub rise_orders : (low high : ℕ) (xs : List X) → Rise low high xs → IsNonDecreasingBy n xs
  rise_orders low high xs h = IsNonDecreasingBy-from_all_adjacent n xs (λ k d lt. subst (λ (m : ℕ). n (get_or xs k d) ≤ n (get_or xs m d)) (one_more k) (next_up low high xs h k d (omega (arith, lt))))

-- ---- parts

abbrev FilesRise : (low high : ℕ) → List (Placed Span) → Type 0
FilesRise low high ps = Rise (λ (p : Placed Span). p.file) low high ps

joined : (low mid high : ℕ) (ps qs : List (Placed Span)) → FilesRise low mid ps → FilesRise mid high qs → FilesRise low high (ps ++ qs)
joined low mid high ps qs g h = rise_join (λ (p : Placed Span). p.file) low mid high ps qs g h

module _ (file : ℕ) where
  mutual
    unfolding class_parts members_parts member_parts

    class_files : (base : ℕ) (c : syntax.Class Span) → FilesRise file file (class_parts begins file base c)
    class_files base (syntax.class m mods w t ms) = (omega arith, members_files (begins m base) ms)

    members_files : (base : ℕ) (ms : syntax.Members Span) → FilesRise file file (members_parts begins file base ms)
    members_files base syntax.end = omega arith
    members_files base (syntax.more x xs) = joined file file file (member_parts begins file base x) (members_parts begins file base xs) (member_files base x) (members_files base xs)

    member_files : (base : ℕ) (x : syntax.Member Span) → FilesRise file file (member_parts begins file base x)
    member_files base (syntax.field m mods t w init) = (omega arith, omega arith)
    member_files base (syntax.method m mods t w ps body) = (omega arith, omega arith)
    member_files base (syntax.constructor m mods w ps args body) = (omega arith, omega arith)
    member_files base (syntax.inner m c) = class_files (begins m base) c

  classes_files : (base : ℕ) (cs : List (syntax.Class Span)) → FilesRise file file (classes_parts begins file base cs)
  classes_files base [] = omega arith
  classes_files base (c ∷ cs) = joined file file file (class_parts begins file base c) (classes_parts begins file base cs) (class_files base c) (classes_files base cs)

units_files : (file : ℕ) (us : List (syntax.Unit Span)) → FilesRise file (file + length us) (parts_from begins file us)
units_files file [] = omega arith
units_files file (u ∷ us) =
    let here = classes_files file (begins u.mark 0) u.classes in
    let more : suc file + length us ≡ file + length (u ∷ us) = omega arith in
    let rest = subst (λ (n : ℕ). FilesRise (suc file) n (parts_from begins (suc file) us)) more (units_files (suc file) us) in
    joined file file (file + length (u ∷ us)) (classes_parts begins file (begins u.mark 0) u.classes) (parts_from begins (suc file) us) here (rise_from (λ (p : Placed Span). p.file) file (suc file) (file + length (u ∷ us)) (parts_from begins (suc file) us) (omega arith) rest)

-- ---- written members

abbrev WrittenRise : (low high : ℕ) → List (WrittenMember Span) → Type 0
WrittenRise low high ws = Rise (λ (w : WrittenMember Span). w.file) low high ws

put_rises : (low high : ℕ) (o : Option Row) (row : ℕ) (p : Placed Span) (ws : List (WrittenMember Span)) → low ≤ p.file → p.file ≤ high → WrittenRise p.file high ws → WrittenRise low high (put_member begins o row p ws)
put_rises low high None row p ws le up h = omega (arith, le, up)
put_rises low high (Some r) row p ws le up h = (le, h)

members_rise : (rows : List Row) (low high row : ℕ) (ps : List (Placed Span)) → FilesRise low high ps → WrittenRise low high (members_at begins rows row ps)
unfolding members_at
members_rise rows low high row [] h = h
members_rise rows low high row (p ∷ ps) h =
    put_rises low high (slice_get rows row) row p (members_at begins rows (row + row_count begins p.part) ps) h.0 (rise_bounds (λ (q : Placed Span). q.file) p.file high ps h.1) (members_rise rows p.file high (row + row_count begins p.part) ps h.1)

pub written_rise : (rows : List Row) (us : List (syntax.Unit Span)) → AreWrittenInOrder (written_members begins rows us)
unfolding written_members units_parts
written_rise rows us =
    let count : 0 + length us ≡ length us = omega arith in
    let parts : FilesRise 0 (length us) (units_parts begins us) = subst (λ (n : ℕ). FilesRise 0 n (parts_from begins 0 us)) count (units_files 0 us) in
    rise_orders (λ (w : WrittenMember Span). w.file) 0 (length us) (written_members begins rows us) (members_rise rows 0 (length us) (length prelude_rows) (units_parts begins us) parts)
