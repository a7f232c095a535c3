use Rattle.std.proofs.Common.{◌≡◌, ap, sym, subst, ◌∙◌, Option, map, option_map}
use Rattle.jr_table.specs.Faults.{Place, At}
use Rattle.jr_build_hierarchy.specs.HierarchyView.{hierarchy_of}
use Rattle.jr_build_places.specs.Places.{place_of, IsEarlier}
use Rattle.jr_build_declared.specs.DeclarationFaults.{IsLeastAt}
use Rattle.jr_build_declared.specs.DeclaredView.{declaration_of, item_of}
use Rattle.jr_build_hierarchy.specs.Superclasses.{UnparentedAt, unparented_of}
use Rattle.jr_build_declared.proofs.Earliest as earliest
use Rattle.jr_build_declared.proofs.DeclarationFaultLaws.{past}
use Rattle.jr_build_hierarchy.proofs.Unparented.{class_unparented, unparented}
use Rattle.jr_build_hierarchy.proofs.class_faults.no_superclass.Goals as goal

pub loop-number-init : goal.loop-number-init
loop-number-init c = earliest.none_among (map declaration_of c.args.declarations.now) (λ _. UnparentedAt (map declaration_of c.args.declarations.now))

pub loop-number-preserved : goal.loop-number-preserved
loop-number-preserved c =
    let declarations = map declaration_of c.args.declarations.now in
    let h = hierarchy_of c.args.hierarchy.now in
    let n = c.loop-number.number in
    let declaration = c.index-declarations-number.result in
    let item = item_of declaration.item in
    let at = earliest.map_stands declaration_of c.args.declarations.now n declaration c.loop-number-test.true c.index-declarations-number.is in
    let stands : At declarations n declaration.file item = record { stands = at } in
    let here = c.unparented_at-at.ensures ∙ ap (unparented_of item) c.parent_at.ensures in
    let E : Option Place → Type 0 = λ o. IsEarlier (option_map place_of c.loop-number.first) o (option_map place_of c.earlier-first.result) in
    earliest.one_more declarations (λ _. UnparentedAt declarations) n declaration.file item (option_map place_of c.loop-number.first)
    c.unparented_at-at.result (option_map place_of c.earlier-first.result) at c.loop-number.invariant
    (subst (λ o. IsLeastAt (UnparentedAt declarations item) o) (sym here) (class_unparented declarations h c.requires.is n declaration.file item stands))
    (subst E c.in_file.ensures c.earlier-first.ensures)

pub returns : goal.returns
returns c = λ packages. unparented packages (map declaration_of c.args.declarations.now) c.loop-number.number (past c.args.declarations.now c.loop-number.number c.loop-number-test.false)
    (option_map place_of c.loop-number.first) c.loop-number.invariant
