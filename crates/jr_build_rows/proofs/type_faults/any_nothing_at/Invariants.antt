use Rattle.std.proofs.Common.{map, take}
use Rattle.jr_build_hierarchy.specs.HierarchyView.{hierarchy_of}
use Rattle.jr_build_declared.specs.DeclarationFaults.{IsLeastAt}
use Rattle.jr_build_declared.specs.DeclaredView.{declaration_key_of, param_declaration_of}
use Rattle.jr_build_rows.specs.TypeFaults.{AnyNothing}
use Rattle.jr_build_rows.proofs.type_faults.any_nothing_at.Given as goal

-- it is the least among the types so far
abbrev pub invariant-loop-param : goal.invariant-loop-param
invariant-loop-param l = IsLeastAt (AnyNothing (hierarchy_of l.h) (declaration_key_of l.of)
    (map param_declaration_of (take l.param-index l.params))) l.least
