-- The members that all files of a program write.
use Rattle.std.proofs.Common.{◌≡◌, ℕ, zero, suc, ◌+◌, ◌<◌, List, [], ◌∷◌, length, drop, Some, refl, sym, ap, subst, ◌∙◌, inl, inr, arith}
use Rattle.std.specs.Prelude.{slice_get, ◌⊎◌, Contains, slice_index_or}
use Rattle.std.proofs.lemmas.List.{append-nil}
use Rattle.std.proofs.Math.Seq.{drop-append_seam}
use Rattle.jr_ast.specs.MemberTree as syntax
use Rattle.jr_table.specs.Decls.{MemberKey}
use Rattle.jr_table.specs.Rows.{Row}
use Rattle.jr_table.specs.Prelude.{prelude_rows}
use Rattle.jr_table.specs.Entries.{IsRowOf}
use Rattle.jr_table.specs.Conditions.{AreRows}
use Rattle.jr_table.specs.DeclaredItems.{DeclaredItem, declarations_of, declarations_from}
use Rattle.jr_table.specs.ProgramRows.{AreRowsOfDeclarations, AreProgramRows}
use Rattle.jr_table.specs.Errors.{Part, InClasses}
use Rattle.jr_table.proofs.RowLaws.{the_number}
use Rattle.jr_members.specs.Parts.{parts_from, units_parts}
use Rattle.jr_members.specs.WrittenMembers.{WrittenMember, decl_of_member, members_at, written_members}
use Rattle.jr_members.specs.WrittenLaws.{AreWritten}
use Rattle.jr_members.proofs.Meaning.{OneClass, Unreserved}
use Rattle.jr_members.proofs.DeclarationRows.{once, not_reserved}
use Rattle.jr_members.proofs.Walking.{In, Walked, none_walked, walked_on, OfClasses, classes_walked, one_of_row}

module _ {A : Type 0} (begins : A → ℕ → ℕ) (declarations : List DeclaredItem) (rows : List Row) (one_class : OneClass declarations) (unreserved : Unreserved declarations) where
  abbrev pub OfUnits : (first : ℕ) → List (syntax.Unit A) → (f : ℕ) (k : MemberKey) (b : ℕ) (p : Part A) → Type 0
  OfUnits first [] f k b p = ⊥
  OfUnits first (u ∷ us) f k b p = OfClasses begins declarations rows one_class unreserved first (begins u.mark 0) u.classes f k b p ⊎ OfUnits (suc first) us f k b p

  units_walked : (first : ℕ) (us : List (syntax.Unit A)) (row : ℕ) → AreRowsOfDeclarations declarations (declarations_from begins first us) (drop row rows)
      → Walked begins declarations rows (OfUnits first us) (parts_from begins first us) [] row
  units_walked first [] row are = none_walked begins declarations rows (OfUnits first []) (λ f k b p h. h) [] row are
  units_walked first (u ∷ us) row are =
      let here = classes_walked begins declarations rows one_class unreserved first (begins u.mark 0) u.classes (declarations_from begins (suc first) us) row are in
      let there = units_walked (suc first) us here.next here.left in
      walked_on begins declarations rows (OfClasses begins declarations rows one_class unreserved first (begins u.mark 0) u.classes) (OfUnits (suc first) us) _ _ (declarations_from begins (suc first) us) [] row here there

  -- the unit of a file's number
  record InUnit (first : ℕ) (us : List (syntax.Unit A)) (f : ℕ) (k : MemberKey) (b : ℕ) (p : Part A) : Type 0 where
    behind : ℕ
    is : f ≡ first + behind
    unit : syntax.Unit A
    stands : slice_get us behind ≡ Some unit
    writes : InClasses begins declarations (λ j c q. (c ≡ b) × (q ≡ p)) (begins unit.mark 0) unit.classes k

  to_unit : (first : ℕ) (us : List (syntax.Unit A)) (f : ℕ) (k : MemberKey) (b : ℕ) (p : Part A) → OfUnits first us f k b p → InUnit first us f k b p
  to_unit first [] f k b p h = absurd h
  to_unit first (u ∷ us) f k b p (inl h) = let e = h.0 in record { behind = 0; is = omega (arith, e); unit = u; stands = refl; writes = h.1 }
  to_unit first (u ∷ us) f k b p (inr h) =
      let r = to_unit (suc first) us f k b p h in
      let e = r.is in
      record { behind = suc r.behind; is = omega (arith, e); unit = r.unit; stands = r.stands; writes = r.writes }

  inside : {X : Type 0} (x y : X) → Some x ≡ Some y → x ≡ y
  inside x y e = cc

  from_unit : (first : ℕ) (us : List (syntax.Unit A)) (i : ℕ) (u : syntax.Unit A) → slice_get us i ≡ Some u → (k : MemberKey) (b : ℕ) (p : Part A)
      → InClasses begins declarations (λ j c q. (c ≡ b) × (q ≡ p)) (begins u.mark 0) u.classes k → OfUnits first us (first + i) k b p
  from_unit first [] i u e k b p h = absurd cc
  from_unit first (v ∷ us) zero u e k b p h =
      inl (omega arith, subst (λ (x : syntax.Unit A). InClasses begins declarations (λ j c q. (c ≡ b) × (q ≡ p)) (begins x.mark 0) x.classes k) (sym (inside v u e)) h)
  from_unit first (v ∷ us) (suc i) u e k b p h =
      let same : suc first + i ≡ first + suc i = omega arith in
      inr (subst (λ f. OfUnits (suc first) us f k b p) same (from_unit (suc first) us i u e k b p h))

-- elements of a list
pub contains_in : {X : Type 0} (xs : List X) (x : X) → Contains xs x → In xs x
contains_in xs x (i, lt, e) = by xs i lt e
  where
    by : (ys : List _) (i : ℕ) → i < length ys → slice_index_or ys i x ≡ x → In ys x
    by [] i lt e = absurd (omega (arith, lt))
    by (y ∷ ys) zero lt e = inl e
    by (y ∷ ys) (suc i) lt e = inr (by ys i (omega (arith, lt)) e)

pub in_contains : {X : Type 0} (xs : List X) (x : X) → In xs x → Contains xs x
in_contains [] x h = absurd h
in_contains (y ∷ ys) x (inl e) = (0, omega arith, e)
in_contains (y ∷ ys) x (inr h) = let r = in_contains ys x h in let lt = r.1 in (suc r.0, omega (arith, lt), r.2)

module _ {A : Type 0} (begins : A → ℕ → ℕ) (units : List (syntax.Unit A)) (rows : List Row) (are : AreRows rows) (program : AreProgramRows (declarations_of begins units) rows) where
  abbrev declarations : List DeclaredItem
  declarations = declarations_of begins units

  one_class : OneClass declarations
  one_class = once declarations rows are program

  unreserved : Unreserved declarations
  unreserved = not_reserved declarations rows are program

  own_rows : drop (length prelude_rows) rows ≡ program.0
  own_rows = ap (drop (length prelude_rows)) program.1 ∙ drop-append_seam prelude_rows program.0

  walked : Walked begins declarations rows (OfUnits begins declarations rows one_class unreserved 0 units) (units_parts begins units) [] (length prelude_rows)
  unfolding declarations_of units_parts
  walked = units_walked begins declarations rows one_class unreserved 0 units (length prelude_rows) (subst (AreRowsOfDeclarations declarations (declarations_from begins 0 units)) (sym own_rows) program.2)

  members_are : written_members begins rows units ≡ walked.members
  unfolding written_members members_at
  members_are = ap (members_at begins rows (length prelude_rows)) (sym (append-nil (units_parts begins units))) ∙ walked.are [] ∙ append-nil walked.members

  is_row : (w : WrittenMember A) → In walked.members w → IsRowOf rows (decl_of_member w.key) w.row
  is_row w h = let e = walked.each w h in record { row = e.row; stands = e.stands; declares = e.declares }

  pub are_written : AreWritten begins units rows (written_members begins rows units)
  are_written = subst (AreWritten begins units rows) (sym members_are) (record {
    each = λ w c. (let h = contains_in walked.members w c in
        let e = walked.each w h in
        let u = to_unit begins declarations rows one_class unreserved 0 units w.file w.key w.base w.part e.is_written in
        let f : w.file ≡ u.behind = (let g = u.is in omega (arith, g)) in
        record { unit = u.unit; stands = ap (slice_get units) f ∙ u.stands; writes = u.writes });
    all = λ file k base part h. (let same : 0 + file ≡ file = omega arith in
        let f = walked.all file k base part
        (subst (λ n. OfUnits begins declarations rows one_class unreserved 0 units n k base part) same (from_unit begins declarations rows one_class unreserved 0 units file h.unit h.stands k base part h.writes)) in
        (f.member, in_contains walked.members f.member f.there, f.file_is, f.key_is, f.base_is, f.part_is));
    row = λ w c. the_number rows are (decl_of_member w.key) w.row (is_row w (contains_in walked.members w c));
    one = λ v w c d e. (let h = contains_in walked.members v c in
        let k = contains_in walked.members w d in
        let same = are.one_each (decl_of_member v.key) v.row w.row (is_row v h) (subst (λ j. IsRowOf rows (decl_of_member j) w.row) (sym e) (is_row w k)) in
        one_of_row (length prelude_rows) walked.next walked.members walked.rises v w h k same);
  })
