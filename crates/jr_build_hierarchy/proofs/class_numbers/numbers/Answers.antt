use Rattle.std.proofs.Common.{◌≤◌, length}
use Rattle.std.proofs.lemmas.List.{length-map}
use Rattle.jr_build_declared.specs.KeyIndex.{number_at}
use Rattle.jr_build_hierarchy.specs.HierarchyView.{keys_of}
use Rattle.jr_build_hierarchy.proofs.Numbering.{none_yet, more_of_row, numbered_to}
use Rattle.jr_build_hierarchy.proofs.class_numbers.numbers.Goals as goal

pub loop-number-init : goal.loop-number-init
loop-number-init c = none_yet (keys_of c.args.keys.now) c.new-index.result c.new-index.ensures

pub loop-number-preserved : goal.loop-number-preserved
loop-number-preserved c = more_of_row c.args.keys.now c.loop-number.number _ c.loop-number.index c.put_maybe.new.self c.loop-number-test.true c.in_ok-_before.ensures.put c.loop-number.invariant

pub returns : goal.returns
returns c = numbered_to (keys_of c.args.keys.now) c.loop-number.number (length c.args.keys.now) (number_at c.loop-number.index) (simp length-map c.loop-number-test.false) c.loop-number.invariant
