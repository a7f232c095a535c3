use Rattle.std.proofs.Common.{map, option_map}
use Rattle.jr_build_hierarchy.specs.HierarchyView.{hierarchy_of}
use Rattle.jr_build_places.specs.Places.{place_of, IsEarliest}
use Rattle.jr_build_declared.specs.DeclarationFaults.{Among}
use Rattle.jr_build_declared.specs.DeclaredView.{declaration_of}
use Rattle.jr_build_rows.specs.TypeFaults.{NothingAt}
use Rattle.jr_build_rows.proofs.type_faults.no_type.Given as goal

-- it is the earliest among the declarations so far
abbrev pub invariant-loop-declaration : goal.invariant-loop-declaration
invariant-loop-declaration l = IsEarliest
    (Among (map declaration_of l.declarations) (λ _. NothingAt (hierarchy_of l.h)) l.declaration-index)
    (option_map place_of l.first)
