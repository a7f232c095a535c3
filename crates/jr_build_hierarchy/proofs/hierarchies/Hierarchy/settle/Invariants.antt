use Rattle.std.proofs.Common.{map}
use Rattle.jr_build_declared.specs.DeclaredView.{declaration_of}
use Rattle.jr_build_hierarchy.specs.HierarchyView.{hierarchy_of}
use Rattle.jr_build_hierarchy.specs.Hierarchies.{unknown}
use Rattle.jr_build_hierarchy.specs.Superclasses.{KnowsTops}
use Rattle.jr_build_hierarchy.proofs.hierarchies.Hierarchy.settle.Given as goal

abbrev pub invariant-loop-found : goal.invariant-loop-found
invariant-loop-found l = KnowsTops (map declaration_of l.declarations) (hierarchy_of l.self)

abbrev pub decreases-loop-found : goal.decreases-loop-found
decreases-loop-found l = unknown (hierarchy_of l.self).parents
