-- A written member stands once in the list of those of a program: rows rise along it.
use Rattle.std.proofs.Common.{◌≡◌, ℕ, zero, suc, ◌+◌, ◌≤◌, List, [], ◌∷◌, Option, Some, None, Bool, true, false, length, refl, ap, arith}
use Rattle.std.specs.Prelude.{slice_get, if◌then◌else◌}
use Rattle.jr_ast.specs.MemberTree as syntax
use Rattle.jr_table.specs.Rows.{Row}
use Rattle.jr_table.specs.Prelude.{prelude_rows}
use Rattle.jr_table.specs.DeclaredItems.{writes_ctor}
use Rattle.jr_table.specs.Errors.{Part, class_part, member_part}
use Rattle.jr_members.specs.Parts.{Placed, units_parts}
use Rattle.jr_members.specs.WrittenMembers.{WrittenMember, row_count, put_member, members_at, written_members}

module _ {A : Type 0} (begins : A → ℕ → ℕ) (rows : List Row) where
  counts : (p : Part A) → 1 ≤ row_count begins p
  counts (class_part (syntax.class m mods w t ms)) = by (writes_ctor begins ms)
    where
      by : (b : Bool) → 1 ≤ (if b then 1 else 2)
      by true = omega arith
      by false = omega arith
  counts (member_part x) = omega arith

  some_is : (x y : WrittenMember A) → Some x ≡ Some y → x ≡ y
  some_is x y e = cc

  abbrev behind : (row : ℕ) → (p : Placed A) → List (Placed A) → List (WrittenMember A)
  behind row p ps = members_at begins rows (row + row_count begins p.part) ps

  -- each member of these parts has a row from this one on
  first_from : (row : ℕ) (p : Placed A) (ps : List (Placed A)) → ((i : ℕ) (w : WrittenMember A) → slice_get (behind row p ps) i ≡ Some w → (row + row_count begins p.part) ≤ w.row)
      → (o : Option Row) (i : ℕ) (w : WrittenMember A) → slice_get (put_member begins o row p (behind row p ps)) i ≡ Some w → row ≤ w.row
  first_from row p ps go None i w e = absurd cc
  first_from row p ps go (Some r) zero w e = omega (arith, ap (λ (x : WrittenMember A). x.row) (some_is _ w e))
  first_from row p ps go (Some r) (suc n) w e = omega (arith, go n w e)

  rows_from : (row : ℕ) (ps : List (Placed A)) (i : ℕ) (w : WrittenMember A) → slice_get (members_at begins rows row ps) i ≡ Some w → row ≤ w.row
  unfolding members_at
  rows_from row [] i w e = absurd cc
  rows_from row (p ∷ ps) i w e = first_from row p ps (λ j v h. rows_from (row + row_count begins p.part) ps j v h) (slice_get rows row) i w e

  -- two of one row are one
  first_once : (row : ℕ) (p : Placed A) (ps : List (Placed A)) (v w : WrittenMember A) → v.row ≡ w.row → ((i j : ℕ) → slice_get (behind row p ps) i ≡ Some v → slice_get (behind row p ps) j ≡ Some w → i ≡ j)
      → (o : Option Row) (i j : ℕ) → slice_get (put_member begins o row p (behind row p ps)) i ≡ Some v → slice_get (put_member begins o row p (behind row p ps)) j ≡ Some w → i ≡ j
  first_once row p ps v w e go None i j a b = absurd cc
  first_once row p ps v w e go (Some r) zero zero a b = refl
  first_once row p ps v w e go (Some r) zero (suc n) a b =
      absurd (omega (arith, e, ap (λ (x : WrittenMember A). x.row) (some_is _ v a), rows_from (row + row_count begins p.part) ps n w b, counts p.part))
  first_once row p ps v w e go (Some r) (suc n) zero a b =
      absurd (omega (arith, e, ap (λ (x : WrittenMember A). x.row) (some_is _ w b), rows_from (row + row_count begins p.part) ps n v a, counts p.part))
  first_once row p ps v w e go (Some r) (suc n) (suc l) a b = ap suc (go n l a b)

  row_once : (row : ℕ) (ps : List (Placed A)) (i j : ℕ) (v w : WrittenMember A) → slice_get (members_at begins rows row ps) i ≡ Some v → slice_get (members_at begins rows row ps) j ≡ Some w → v.row ≡ w.row → i ≡ j
  unfolding members_at
  row_once row [] i j v w a b e = absurd cc
  row_once row (p ∷ ps) i j v w a b e = first_once row p ps v w e (λ m n c d. row_once (row + row_count begins p.part) ps m n v w c d e) (slice_get rows row) i j a b

  pub written_once : (units : List (syntax.Unit A)) (i j : ℕ) (v w : WrittenMember A) → slice_get (written_members begins rows units) i ≡ Some v → slice_get (written_members begins rows units) j ≡ Some w → v.row ≡ w.row → i ≡ j
  unfolding written_members
  written_once units i j v w a b e = row_once (length prelude_rows) (units_parts begins units) i j v w a b e
