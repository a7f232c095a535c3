use Rattle.std.proofs.Common.{◌≡◌, ℕ, ◌+◌, ◌<◌, ◌≤◌, List, ◌++◌, length, get_or, drop, map, add-one, sym, ap, subst, ◌∙◌}
use Rattle.std.proofs.lemmas.List.{append_assoc, append-nil, drop_all}
use Rattle.jr_ast.specs.declared.members.Unit.{Unit}
use Rattle.jr_ast.specs.View.{class_of, unit_of}
use Rattle.jr_members.specs.Fitting.{begins_by, ClassesFit, UnitFits, UnitsFit}
use Rattle.jr_members.specs.Parts.{Placed, classes_parts, parts_from, units_parts}
use Rattle.jr_members.proofs.PartLists as lists
use Rattle.jr_members.proofs.gathering.program_parts.Goals as goal

module _ {A : Type 0} (begins : A → ℕ → ℕ) where
  abbrev rest : ℕ → List (Unit A) → List (Placed A)
  rest file us = parts_from begins file (map unit_of us)

  -- one file more
  next_file : (all now next : List (Placed A)) (row : List (Unit A)) (i base : ℕ) (u : Unit A) (shown : List _) → i < length row → u ≡ get_or row i u
      → base ≡ begins u.mark 0 → shown ≡ u.classes.items → next ≡ now ++ classes_parts begins i base (map class_of shown)
      → now ++ rest i (drop i row) ≡ all → next ++ rest (i + 1) (drop (i + 1) row) ≡ all
  next_file all now next row i base u shown lt at e s is so_far =
      let own : List (Placed A) = classes_parts begins i (begins u.mark 0) (map class_of u.classes.items) in
      let same : classes_parts begins i base (map class_of shown) ≡ own = (λ k. classes_parts begins i (e k) (map class_of (s k))) in
      ap (λ b. b ++ rest (i + 1) (drop (i + 1) row)) (is ∙ ap (λ b. now ++ b) same)
      ∙ append_assoc now own (rest (i + 1) (drop (i + 1) row))
      ∙ ap (λ n. now ++ (own ++ rest n (drop (i + 1) row))) (add-one i)
      ∙ ap (λ us. now ++ rest i us) (sym (lists.rest_is row i u lt at))
      ∙ so_far

  no_file : (all now : List (Placed A)) (row : List (Unit A)) (i : ℕ) → length row ≤ i → now ++ rest i (drop i row) ≡ all → now ≡ all
  no_file all now row i past so_far = sym (append-nil now) ∙ ap (λ us. now ++ rest i us) (sym (drop_all i row past)) ∙ so_far

pub begin-requires : goal.begin-requires
begin-requires g c =
    let B = begins_by g.A.Mark.span_from in
    (lists.each_meets (λ us. UnitsFit B g.A.Mark.fits_at (map unit_of us)) (λ u. UnitFits B g.A.Mark.fits_at (unit_of u)) (λ x xs h. h)
    c.args.units.now c.loop-file.file c.index-units-file.result c.loop-file-test.true c.index-units-file.is c.requires.fits).0

pub classes-requires : goal.classes-requires
classes-requires g c =
    let B = begins_by g.A.Mark.span_from in
    let F = g.A.Mark.fits_at in
    let u = c.index-units-file.result in
    let own = (lists.each_meets (λ us. UnitsFit B F (map unit_of us)) (λ u. UnitFits B F (unit_of u)) (λ x xs h. h)
    c.args.units.now c.loop-file.file u c.loop-file-test.true c.index-units-file.is c.requires.fits).1 in
    subst (λ b. ClassesFit B F b (map class_of c.deref.result.now)) (sym c.begin.ensures)
    (subst (λ cs. ClassesFit B F (B u.mark 0) (map class_of cs)) (sym c.deref.ensures.value) own)

pub loop-file-preserved : goal.loop-file-preserved
loop-file-preserved g c =
    next_file (begins_by g.A.Mark.span_from) _ _ _ c.args.units.now c.loop-file.file c.begin.result c.index-units-file.result c.deref.result.now c.loop-file-test.true c.index-units-file.is
    c.begin.ensures c.deref.ensures.value c.in_ok-classes.ensures c.loop-file.invariant

pub returns : goal.returns
unfolding units_parts
returns g c = no_file (begins_by g.A.Mark.span_from) _ _ c.args.units.now c.loop-file.file c.loop-file-test.false c.loop-file.invariant
