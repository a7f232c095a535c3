use Rattle.std.proofs.Common.{◌≡◌, ◌++◌, drop, map}
use Rattle.jr_build_declared.specs.DeclaredView.{declaration_of}
use Rattle.jr_build_hierarchy.specs.Hierarchies.{privates_of}
use Rattle.jr_build_hierarchy.proofs.class_numbers.privates.Given as goal

-- what is there, with what is left, is all
abbrev pub invariant-loop-declaration : goal.invariant-loop-declaration
invariant-loop-declaration l =
    l.privates.items ++ privates_of (map declaration_of (drop l.declaration-index l.declarations)) ≡ privates_of (map declaration_of l.declarations)
