use Rattle.std.proofs.Common.{◌≤◌, length}
use Rattle.std.proofs.lemmas.List.{length-map}
use Rattle.jr_index.specs.Names.{named}
use Rattle.jr_build_hierarchy.specs.HierarchyView.{keys_of}
use Rattle.jr_build_hierarchy.proofs.Numbering.{no_inner_yet, more_inner, inner_to}
use Rattle.jr_build_hierarchy.proofs.class_numbers.inner_names.Goals as goal

pub loop-number-init : goal.loop-number-init
loop-number-init c = no_inner_yet (keys_of c.args.keys.now) (named c.new-inner.result)

pub loop-number-preserved : goal.loop-number-preserved
loop-number-preserved c = more_inner c.args.keys.now c.loop-number.number _ (named c.loop-number.inner) (named c.put_inner.new.inner) c.loop-number-test.true c.in_ok-put_inner.ensures c.loop-number.invariant

pub returns : goal.returns
returns c = inner_to (keys_of c.args.keys.now) c.loop-number.number (length c.args.keys.now) (named c.loop-number.inner) (simp length-map c.loop-number-test.false) c.loop-number.invariant
