use Rattle.std.proofs.Common.{map, option_map}
use Rattle.jr_build_places.specs.Places.{place_of, IsEarliest}
use Rattle.jr_build_declared.specs.DeclarationFaults.{ReservedAt}
use Rattle.jr_build_declared.specs.DeclarationFaults.{Among}
use Rattle.jr_build_declared.specs.DeclaredView.{declaration_of}
use Rattle.jr_build_declared.proofs.declaration_faults.prelude_name.Given as goal

-- it is the earliest among the declarations so far
abbrev pub invariant-loop-declaration : goal.invariant-loop-declaration
invariant-loop-declaration l = IsEarliest (Among (map declaration_of l.declarations) (λ _. ReservedAt) l.declaration-index)
    (option_map place_of l.first)
