use Rattle.std.proofs.Common.{map, length, ap, arith, ◌+◌}
use Rattle.std.proofs.lemmas.List.{length-map}
use Rattle.jr_build_hierarchy.specs.declared.hierarchies.Hierarchy.{Hierarchy}
use Rattle.jr_build_declared.specs.DeclaredView.{declaration_of}
use Rattle.jr_build_hierarchy.proofs.HierarchyLaws.{has_classes, keys_counted}
use Rattle.jr_build_hierarchy.proofs.superclasses.classes.Goals as goal

pub inner_names-requires : goal.inner_names-requires
inner_names-requires c =
    let counted = keys_counted (map declaration_of c.args.declarations.now) c.in_ok-keys.keys.items c.in_ok-keys.ensures in
    let size = length-map c.args.declarations.now declaration_of in
    let same = ap length c.deref-2.ensures.value in
    omega (arith, counted, size, same, c.requires.few)

pub returns : goal.returns
returns c =
    let made : Hierarchy = record { keys = c.in_ok-keys.keys; privates = c.in_ok-privates.privates; index = c.in_ok-index.index; inner = c.in_ok-inner.inner; parents = c.new.result } in
    has_classes (map declaration_of c.args.declarations.now) made c.deref.result.now
    c.requires.unique c.in_ok-keys.ensures c.in_ok-privates.ensures c.deref.ensures.value c.in_ok-index.ensures c.deref-2.result.now c.deref-2.ensures.value c.in_ok-inner.ensures
