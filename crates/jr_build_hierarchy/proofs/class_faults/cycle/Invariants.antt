use Rattle.std.proofs.Common.{map, option_map}
use Rattle.jr_build_places.specs.Places.{place_of, IsEarliest}
use Rattle.jr_build_declared.specs.DeclarationFaults.{Among}
use Rattle.jr_build_declared.specs.DeclaredView.{declaration_of}
use Rattle.jr_build_hierarchy.specs.Superclasses.{OnCycleAt}
use Rattle.jr_build_hierarchy.proofs.class_faults.cycle.Given as goal

-- it is the earliest among the declarations so far
abbrev pub invariant-loop-number : goal.invariant-loop-number
invariant-loop-number l =
    IsEarliest (Among (map declaration_of l.declarations) (λ _. OnCycleAt (map declaration_of l.declarations)) l.number) (option_map place_of l.first)
