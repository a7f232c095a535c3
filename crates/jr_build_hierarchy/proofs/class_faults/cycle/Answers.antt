use Rattle.std.proofs.Common.{◌≡◌, ◌<◌, ◌+◌, ap, sym, subst, ◌∙◌, Option, Some, map, option_map, length, arith}
use Rattle.std.specs.Prelude.{slice_get}
use Rattle.std.proofs.lemmas.List.{length-map}
use Rattle.std.proofs.lemmas.Option.{slice_get-get_or}
use Rattle.jr_table.specs.Faults.{Place, At}
use Rattle.jr_build_hierarchy.specs.HierarchyView.{hierarchy_of}
use Rattle.jr_build_places.specs.Places.{place_of, IsEarlier}
use Rattle.jr_build_declared.specs.DeclarationFaults.{IsLeastAt}
use Rattle.jr_build_declared.specs.DeclaredView.{declaration_of, item_of}
use Rattle.jr_build_hierarchy.specs.Superclasses.{OnCycleAt}
use Rattle.jr_build_hierarchy.proofs.Cycling.{class_on_cycle, cycles}
use Rattle.jr_build_declared.proofs.Earliest as earliest
use Rattle.jr_build_hierarchy.proofs.HierarchyLaws.{row_within, row_counted, row_on_cycle}
use Rattle.jr_build_declared.proofs.DeclarationFaultLaws.{past}
use Rattle.jr_build_hierarchy.proofs.class_faults.cycle.Goals as goal

pub on_cycle-requires-clause-within : goal.on_cycle-requires-clause-within
on_cycle-requires-clause-within c = row_within (map declaration_of c.args.declarations.now) c.args.hierarchy.now c.requires.is c.deref.result.now c.deref.ensures.value

pub on_cycle-requires-clause-few : goal.on_cycle-requires-clause-few
on_cycle-requires-clause-few c =
    let counted = row_counted (map declaration_of c.args.declarations.now) c.args.hierarchy.now c.requires.is c.deref.result.now c.deref.ensures.value in
    let size = length-map c.args.declarations.now declaration_of in
    omega (arith, counted, size, c.requires.few)

pub loop-number-init : goal.loop-number-init
loop-number-init c = earliest.none_among (map declaration_of c.args.declarations.now) (λ _. OnCycleAt (map declaration_of c.args.declarations.now))

pub index-requires : goal.index-requires
index-requires c =
    let counted = row_counted (map declaration_of c.args.declarations.now) c.args.hierarchy.now c.requires.is c.deref.result.now c.deref.ensures.value in
    let size = length-map c.args.declarations.now declaration_of in
    omega (arith, counted, size, c.in_ok-on.ensures.size, c.loop-number-test.true, c.in_ok-on.on.ok)

pub loop-number-preserved : goal.loop-number-preserved
loop-number-preserved c =
    let declarations = map declaration_of c.args.declarations.now in
    let h = hierarchy_of c.args.hierarchy.now in
    let n = c.loop-number.number in
    let declaration = c.index-declarations-number.result in
    let item = item_of declaration.item in
    let at = earliest.map_stands declaration_of c.args.declarations.now n declaration c.loop-number-test.true c.index-declarations-number.is in
    let stands : At declarations n declaration.file item = record { stands = at } in
    let on = row_on_cycle declarations c.args.hierarchy.now c.requires.is c.deref.result.now c.in_ok-on.on.items c.deref.ensures.value c.in_ok-on.ensures in
    let counted = row_counted declarations c.args.hierarchy.now c.requires.is c.deref.result.now c.deref.ensures.value in
    let size = length-map c.args.declarations.now declaration_of in
    let inside : n < length c.in_ok-on.on.items = omega (arith, counted, size, c.in_ok-on.ensures.size, c.loop-number-test.true) in
    let x = c.index.result.now in
    let reads : slice_get c.in_ok-on.on.items n ≡ Some x = slice_get-get_or c.in_ok-on.on.items n x inside ∙ ap Some (sym c.index.ensures) in
    let E : Option Place → Type 0 = λ o. IsEarlier (option_map place_of c.loop-number.first) o (option_map place_of c.earlier-first.result) in
    earliest.one_more declarations (λ _. OnCycleAt declarations) n declaration.file item (option_map place_of c.loop-number.first)
    c.on_cycle_at-at.result (option_map place_of c.earlier-first.result) at c.loop-number.invariant
    (subst (λ o. IsLeastAt (OnCycleAt declarations item) o) (sym c.on_cycle_at-at.ensures) (class_on_cycle declarations h c.requires.is c.in_ok-on.on.items on n declaration.file item x stands reads))
    (subst E c.in_file.ensures c.earlier-first.ensures)

pub returns : goal.returns
returns c = λ packages. cycles packages (map declaration_of c.args.declarations.now) c.loop-number.number (past c.args.declarations.now c.loop-number.number c.loop-number-test.false)
    (option_map place_of c.loop-number.first) c.loop-number.invariant
