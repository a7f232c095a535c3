use Rattle.std.proofs.Common.{◌≡◌, ◌++◌, drop, map}
use Rattle.jr_build_declared.specs.DeclaredView.{declaration_of}
use Rattle.jr_build_hierarchy.specs.HierarchyView.{keys_of}
use Rattle.jr_build_hierarchy.specs.Hierarchies.{declaration_keys}
use Rattle.jr_build_hierarchy.proofs.class_numbers.declaration_keys.Given as goal

-- what is there, with what is left, is all
abbrev pub invariant-loop-declaration : goal.invariant-loop-declaration
invariant-loop-declaration l =
    keys_of l.keys.items ++ declaration_keys (map declaration_of (drop l.declaration-index l.declarations)) ≡ declaration_keys (map declaration_of l.declarations)
