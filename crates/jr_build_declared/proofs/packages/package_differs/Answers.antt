use Rattle.std.proofs.Common.{◌≡◌, ◌<◌, ℕ, ◌∙◌, length, map, get_or, Some, refl, sym, ap, subst, arith, true, false}
use Rattle.std.proofs.lemmas.Option.{slice_get-get_or, slice_get_read}
use Rattle.jr_ast.specs.View.{word_of, unit_of}
use Rattle.jr_table.specs.declared.kinds.DeclKind.TheVariants as kind
use Rattle.jr_table.specs.Faults.{Place, HasFault, line_at}
use Rattle.jr_build_declared.specs.Packages.{package_names, line_of, lines_of}
use Rattle.jr_build_places.specs.Places.{IsEarliest}
use Rattle.jr_build_declared.proofs.PackageLaws.{first_differs, none_differ, same_more}
use Rattle.jr_build_declared.proofs.packages.package_differs.Goals as goal

pub returns-then-not-same_package : goal.returns-then-not-same_package
returns-then-not-same_package g c = λ declarations.
    let us = c.args.units.now in
    let ats = c.args.words.now in
    let n = c.loop-file.file in
    let lt = c.loop-file-test.true in
    let each = c.requires.each in
    let place = c.line_place.ensures
    ∙ ap (λ is. line_at (line_of (get_or ats n 0) (map word_of is))) c.deref-then-not-same_package.ensures.value in
    subst (λ a. IsEarliest (HasFault (lines_of ats (map unit_of us)) declarations kind.PackageDiffers)
    (Some (record { file = n; at = a }))) (sym place)
    (first_differs ats us declarations n (get_or ats n 0) c.index-units-file.result c.index-units-0.result
    c.loop-file.invariant (slice_get-get_or ats n 0 (omega (arith, lt, each)))
    (slice_get_read us (length us) n c.index-units-file.result refl lt c.index-units-file.is)
    (slice_get_read us (length us) 0 c.index-units-0.result refl (omega (arith, lt)) c.index-units-0.is)
    (λ e. let t = c.same_package.ensures.1
    (ap (λ is. package_names (map word_of is)) c.deref.ensures.value ∙ e
    ∙ sym (ap (λ is. package_names (map word_of is)) (c.deref-in-loop-file.ensures.value
    ∙ ap (λ u. u.package.items) (sym c.index-units-0.is)))) in
    let f = c.if-not-same_package.true in cc))

pub loop-file-preserved : goal.loop-file-preserved
loop-file-preserved g c =
    let us = c.args.units.now in
    let n = c.loop-file.file in
    let lt = c.loop-file-test.true in
    same_more us n c.index-units-file.result c.index-units-0.result
    (slice_get_read us (length us) n c.index-units-file.result refl lt c.index-units-file.is)
    (slice_get_read us (length us) 0 c.index-units-0.result refl (omega (arith, lt)) c.index-units-0.is)
    (sym (ap (λ is. package_names (map word_of is)) c.deref.ensures.value)
    ∙ c.same_package.ensures.0 c.if-not-same_package.false
    ∙ ap (λ is. package_names (map word_of is)) (c.deref-in-loop-file.ensures.value
    ∙ ap (λ u. u.package.items) (sym c.index-units-0.is)))
    c.loop-file.invariant

pub returns : goal.returns
returns g c = λ declarations. none_differ c.args.words.now c.args.units.now declarations c.loop-file.file
    c.loop-file-test.false c.loop-file.invariant
