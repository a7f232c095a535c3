use Rattle.std.proofs.Common.{map}
use Rattle.jr_build_declared.specs.DeclaredView.{declaration_of}
use Rattle.jr_build_hierarchy.specs.HierarchyView.{hierarchy_of}
use Rattle.jr_build_hierarchy.specs.Superclasses.{KnowsTops}
use Rattle.jr_build_hierarchy.proofs.hierarchies.Hierarchy.tell_in_order.Given as goal

abbrev pub invariant-loop-number : goal.invariant-loop-number
invariant-loop-number l = KnowsTops (map declaration_of l.declarations) (hierarchy_of l.self)
