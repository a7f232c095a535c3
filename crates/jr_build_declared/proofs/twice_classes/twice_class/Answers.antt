use Rattle.std.proofs.Common.{Option, ◌∙◌, ap, sym, subst, map, option_map}
use Rattle.std.specs.Prelude.{option_and_then}
use Rattle.jr_table.specs.Faults.{Place}
use Rattle.jr_table.specs.Keys.{ClassKey}
use Rattle.jr_build_declared.specs.KeyIndex.{number_at, PutsMaybe, class_key_at}
use Rattle.jr_build_places.specs.Places.{place_of, IsEarlier, within_file}
use Rattle.jr_build_declared.specs.DeclarationFaults.{TwiceClassAt, IsLeastAt}
use Rattle.jr_build_declared.specs.DeclaredView.{declaration_of, item_of}
use Rattle.jr_build_declared.proofs.Earliest as earliest
use Rattle.jr_build_declared.proofs.Indexed as indexed
use Rattle.jr_build_declared.proofs.DeclarationFaultLaws as laws
use Rattle.jr_build_declared.proofs.twice_classes.twice_class.Goals as goal

pub loop-number-init : goal.loop-number-init
loop-number-init c = record {
  first = earliest.none_among (map declaration_of c.args.declarations.now) (TwiceClassAt (map declaration_of c.args.declarations.now));
  index = indexed.no_keys class_key_at (map declaration_of c.args.declarations.now) c.new-index.result c.new-index.ensures;
}

pub loop-number-preserved : goal.loop-number-preserved
loop-number-preserved c =
    let declarations = map declaration_of c.args.declarations.now in
    let n = c.loop-number.number in
    let declaration = c.index-declarations-number.result in
    let item = item_of declaration.item in
    let at = earliest.map_stands declaration_of c.args.declarations.now n declaration c.loop-number-test.true c.index-declarations-number.is in
    let before = c.in_ok-before.ensures.before ∙ ap (option_and_then (number_at c.loop-number.index)) c.class_key.ensures in
    let E : Option Place → Type 0 = λ o. IsEarlier (option_map place_of c.loop-number.first) o
    (option_map place_of c.earlier-first.result) in
    record {
      first = earliest.one_more declarations (TwiceClassAt declarations) n declaration.file item (option_map place_of c.loop-number.first)
          c.twice_at.result (option_map place_of c.earlier-first.result) at c.loop-number.invariant.first
          (subst (λ o. IsLeastAt (TwiceClassAt declarations n item) o) (sym c.twice_at.ensures) (indexed.twice_or_not declarations n item c.loop-number.index c.in_ok-before.before c.loop-number.invariant.index before))
          (subst E c.in_file.ensures c.earlier-first.ensures);
      index = indexed.key_more class_key_at declarations n declaration.file item _ c.loop-number.index c.put_maybe.new.self at c.class_key.ensures c.in_ok-before.ensures.put c.loop-number.invariant.index;
    }

pub returns : goal.returns
returns c = λ packages. laws.twice_classes packages (map declaration_of c.args.declarations.now) c.loop-number.number (laws.past c.args.declarations.now c.loop-number.number c.loop-number-test.false)
    (option_map place_of c.loop-number.first) c.loop-number.invariant.first
