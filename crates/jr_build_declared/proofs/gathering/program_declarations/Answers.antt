use Rattle.std.proofs.Common.{◌≡◌, ℕ, suc, ◌+◌, ◌<◌, ◌≤◌, List, [], ◌∷◌, ◌++◌, length, get_or, drop, map, add-one, refl, sym, ap, subst, ◌∙◌}
use Rattle.std.proofs.lemmas.List.{append_assoc, append-nil, drop_all}
use Rattle.jr_ast.specs.declared.members.Unit.{Unit}
use Rattle.jr_ast.specs.View.{class_of, unit_of}
use Rattle.jr_build_declared.specs.Fitting.{begins_by, ClassesFit, UnitFits, UnitsFit}
use Rattle.jr_table.specs.DeclaredItems.{DeclaredItem, classes_declarations, declarations_from, declarations_of}
use Rattle.jr_build_declared.specs.Gathers.{in_file}
use Rattle.jr_build_declared.specs.DeclaredView.{declaration_of}
use Rattle.jr_build_declared.proofs.DeclarationLists as lists
use Rattle.jr_build_declared.proofs.gathering.program_declarations.Goals as goal

module _ {A : Type 0} (begins : A → ℕ → ℕ) where
  abbrev rest : ℕ → List (Unit A) → List DeclaredItem
  rest file us = declarations_from begins file (map unit_of us)

  -- one file more
  next_file : (all now next : List DeclaredItem) (row : List (Unit A)) (i base : ℕ) (u : Unit A) (shown : List _) → i < length row → u ≡ get_or row i u
      → base ≡ begins u.mark 0 → shown ≡ u.classes.items → next ≡ now ++ in_file i (classes_declarations begins base (map class_of shown))
      → now ++ rest i (drop i row) ≡ all → next ++ rest (i + 1) (drop (i + 1) row) ≡ all
  next_file all now next row i base u shown lt at e s is so_far =
      let own : List DeclaredItem = in_file i (classes_declarations begins (begins u.mark 0) (map class_of u.classes.items)) in
      let same : in_file i (classes_declarations begins base (map class_of shown)) ≡ own = (λ k. in_file i (classes_declarations begins (e k) (map class_of (s k)))) in
      ap (λ b. b ++ rest (i + 1) (drop (i + 1) row)) (is ∙ ap (λ b. now ++ b) same)
      ∙ append_assoc now own (rest (i + 1) (drop (i + 1) row))
      ∙ ap (λ n. now ++ (own ++ rest n (drop (i + 1) row))) (add-one i)
      ∙ ap (λ us. now ++ rest i us) (sym (lists.rest_is row i u lt at))
      ∙ so_far

  no_file : (all now : List DeclaredItem) (row : List (Unit A)) (i : ℕ) → length row ≤ i → now ++ rest i (drop i row) ≡ all → now ≡ all
  no_file all now row i past so_far = sym (append-nil now) ∙ ap (λ us. now ++ rest i us) (sym (drop_all i row past)) ∙ so_far

pub begin-requires : goal.begin-requires
begin-requires g c =
    let B = begins_by g.A.Mark.span_from in
    (lists.each_meets (λ us. UnitsFit B g.A.Mark.fits_at (map unit_of us)) (λ u. UnitFits B g.A.Mark.fits_at (unit_of u)) (λ x xs h. h)
    c.args.units.now c.loop-file.file c.index-units-file.result c.loop-file-test.true c.index-units-file.is c.requires.fits).0

pub classes-requires : goal.classes-requires
classes-requires g c =
    let B = begins_by g.A.Mark.span_from in
    let F = g.A.Mark.fits_at in
    let u = c.index-units-file.result in
    let own = (lists.each_meets (λ us. UnitsFit B F (map unit_of us)) (λ u. UnitFits B F (unit_of u)) (λ x xs h. h)
    c.args.units.now c.loop-file.file u c.loop-file-test.true c.index-units-file.is c.requires.fits).1 in
    subst (λ b. ClassesFit B F b (map class_of c.deref.result.now)) (sym c.begin.ensures)
    (subst (λ cs. ClassesFit B F (B u.mark 0) (map class_of cs)) (sym c.deref.ensures.value) own)

pub loop-file-preserved : goal.loop-file-preserved
loop-file-preserved g c =
    next_file (begins_by g.A.Mark.span_from) _ _ _ c.args.units.now c.loop-file.file c.begin.result c.index-units-file.result c.deref.result.now c.loop-file-test.true c.index-units-file.is
    c.begin.ensures c.deref.ensures.value c.in_ok-classes.ensures c.loop-file.invariant

pub returns : goal.returns
unfolding declarations_of
returns g c = no_file (begins_by g.A.Mark.span_from) _ _ c.args.units.now c.loop-file.file c.loop-file-test.false c.loop-file.invariant
