use Rattle.std.proofs.Common.{◌≡◌, ◌++◌, drop, map}
use Rattle.jr_build_declared.specs.DeclaredView.{declaration_of}
use Rattle.jr_build_hierarchy.specs.HierarchyView.{hierarchy_of}
use Rattle.jr_build_hierarchy.specs.Hierarchies.{declaration_parents}
use Rattle.jr_build_hierarchy.proofs.hierarchies.Hierarchy.declaration_parents.Given as goal

-- what is there, with what is left, is all
abbrev pub invariant-loop-declaration : goal.invariant-loop-declaration
invariant-loop-declaration l =
    l.parents.items ++ declaration_parents (hierarchy_of l.self) (map declaration_of (drop l.declaration-index l.declarations)) ≡ declaration_parents (hierarchy_of l.self) (map declaration_of l.declarations)
