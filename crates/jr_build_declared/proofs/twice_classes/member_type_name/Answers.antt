use Rattle.std.proofs.Common.{Option, ℕ, sym, subst, map, option_map, length, arith}
use Rattle.jr_table.specs.Faults.{Place}
use Rattle.jr_build_declared.specs.KeyIndex.{name_key_at, IsIndexOf}
use Rattle.jr_build_places.specs.Places.{place_of, IsEarlier}
use Rattle.jr_build_declared.specs.DeclarationFaults.{MemberNamedAt, IsLeastAt}
use Rattle.jr_build_declared.specs.DeclaredView.{declaration_of, item_of}
use Rattle.jr_build_declared.proofs.Earliest as earliest
use Rattle.jr_build_declared.proofs.Indexed as indexed
use Rattle.jr_build_declared.proofs.DeclarationFaultLaws as laws
use Rattle.jr_build_declared.proofs.twice_classes.member_type_name.Goals as goal

pub loop-declaration-init : goal.loop-declaration-init
loop-declaration-init c = earliest.none_among (map declaration_of c.args.declarations.now) (λ _. MemberNamedAt (map declaration_of c.args.declarations.now))

pub loop-declaration-preserved : goal.loop-declaration-preserved
loop-declaration-preserved c =
    let declarations = map declaration_of c.args.declarations.now in
    let declaration = c.declaration-item.result in
    let item = item_of declaration.item in
    let E : Option Place → Type 0 = λ o. IsEarlier (option_map place_of c.loop-declaration.first) o
    (option_map place_of c.earlier-first.result) in
    earliest.one_more declarations (λ _. MemberNamedAt declarations) c.loop-declaration.declaration-index declaration.file item
    (option_map place_of c.loop-declaration.first) c.member_named_at.result
    (option_map place_of c.earlier-first.result)
    (earliest.map_stands declaration_of c.args.declarations.now c.loop-declaration.declaration-index declaration c.loop-declaration-test.true c.declaration-item.is)
    c.loop-declaration.invariant
    (subst (λ o. IsLeastAt (MemberNamedAt declarations item) o) (sym c.member_named_at.ensures)
    (indexed.named_or_not declarations (length c.args.declarations.now) (laws.past c.args.declarations.now (length c.args.declarations.now) (omega arith)) item c.in_ok-index.index c.in_ok-index.ensures))
    (subst E c.in_file.ensures c.earlier-first.ensures)

pub returns : goal.returns
returns c = λ packages. laws.member_names packages (map declaration_of c.args.declarations.now) c.loop-declaration.declaration-index (laws.past c.args.declarations.now c.loop-declaration.declaration-index c.loop-declaration-test.false)
    (option_map place_of c.loop-declaration.first) c.loop-declaration.invariant
