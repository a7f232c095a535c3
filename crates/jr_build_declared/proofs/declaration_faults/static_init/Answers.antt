use Rattle.std.proofs.Common.{Option, subst, map, option_map}
use Rattle.jr_table.specs.Faults.{Place}
use Rattle.jr_build_places.specs.Places.{place_of, IsEarlier}
use Rattle.jr_table.specs.Faults.{InitIsBad}
use Rattle.jr_build_declared.specs.DeclaredView.{declaration_of, item_of}
use Rattle.jr_build_declared.proofs.Earliest as earliest
use Rattle.jr_build_declared.proofs.DeclarationFaultLaws as laws
use Rattle.jr_build_declared.proofs.declaration_faults.static_init.Goals as goal

pub loop-declaration-init : goal.loop-declaration-init
loop-declaration-init c = earliest.none_among (map declaration_of c.args.declarations.now) (λ _. InitIsBad)

pub loop-declaration-preserved : goal.loop-declaration-preserved
loop-declaration-preserved c =
    let declaration = c.declaration-item.result in
    earliest.one_more (map declaration_of c.args.declarations.now) (λ _. InitIsBad) c.loop-declaration.declaration-index declaration.file (item_of declaration.item) (option_map place_of c.loop-declaration.first) c.bad_init_at.result (option_map place_of c.earlier-first.result)
    (earliest.map_stands declaration_of c.args.declarations.now c.loop-declaration.declaration-index declaration c.loop-declaration-test.true c.declaration-item.is)
    c.loop-declaration.invariant c.bad_init_at.ensures (let E : Option Place → Type 0 = λ o. IsEarlier (option_map place_of c.loop-declaration.first) o (option_map place_of c.earlier-first.result) in subst E c.in_file.ensures c.earlier-first.ensures)

pub returns : goal.returns
returns c = λ packages. laws.bad_inits packages (map declaration_of c.args.declarations.now) c.loop-declaration.declaration-index (laws.past c.args.declarations.now c.loop-declaration.declaration-index c.loop-declaration-test.false) (option_map place_of c.loop-declaration.first) c.loop-declaration.invariant
