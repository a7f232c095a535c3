use Rattle.std.proofs.Common.{length, map, arith}
use Rattle.jr_build_declared.specs.KeyIndex.{name_key_at, IsIndexOf}
use Rattle.jr_build_declared.specs.DeclaredView.{declaration_of, item_of}
use Rattle.jr_build_declared.proofs.Earliest as earliest
use Rattle.jr_build_declared.proofs.Indexed as indexed
use Rattle.jr_build_declared.proofs.DeclarationFaultLaws as laws
use Rattle.jr_build_declared.proofs.twice_classes.names_of_members.Goals as goal

pub loop-number-init : goal.loop-number-init
loop-number-init c = indexed.no_keys name_key_at (map declaration_of c.args.declarations.now) c.new-index.result c.new-index.ensures

pub loop-number-preserved : goal.loop-number-preserved
loop-number-preserved c =
    let declarations = map declaration_of c.args.declarations.now in
    let n = c.loop-number.number in
    let declaration = c.index-declarations-number.result in
    let at = earliest.map_stands declaration_of c.args.declarations.now n declaration c.loop-number-test.true c.index-declarations-number.is in
    indexed.key_more name_key_at declarations n declaration.file (item_of declaration.item) _ c.loop-number.index c.put_maybe.new.self at c.name_key.ensures c.in_ok-put_maybe.ensures.put c.loop-number.invariant

pub returns : goal.returns
returns c =
    indexed.at_end name_key_at (map declaration_of c.args.declarations.now) c.loop-number.number (length c.args.declarations.now) c.loop-number.index
    (laws.past c.args.declarations.now c.loop-number.number c.loop-number-test.false) (laws.past c.args.declarations.now (length c.args.declarations.now) (omega arith)) c.loop-number.invariant
