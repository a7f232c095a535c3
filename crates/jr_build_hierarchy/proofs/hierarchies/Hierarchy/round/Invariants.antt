use Rattle.std.proofs.Common.{◌≡◌, ◌<◌, ◌≤◌, true, false, map}
use Rattle.jr_build_declared.specs.DeclaredView.{declaration_of}
use Rattle.jr_build_hierarchy.specs.HierarchyView.{hierarchy_of}
use Rattle.jr_build_hierarchy.specs.Hierarchies.{unknown}
use Rattle.jr_build_hierarchy.specs.Superclasses.{KnowsTops}
use Rattle.jr_build_hierarchy.proofs.Rounds.{IsSettledBelow}
use Rattle.jr_build_hierarchy.proofs.hierarchies.Hierarchy.round.Given as goal

-- as long as nothing was found, nothing can be told of the declarations so far
abbrev pub invariant-loop-number : goal.invariant-loop-number
invariant-loop-number l = record {
  knows : KnowsTops (map declaration_of l.declarations) (hierarchy_of l.self);
  settled : l.found ≡ false → IsSettledBelow (map declaration_of l.declarations) (hierarchy_of l.self) l.number;
  no_more : l.found ≡ false → hierarchy_of l.self ≡ hierarchy_of l.fn.self;
  fewer : l.found ≡ true → unknown (hierarchy_of l.self).parents < unknown (hierarchy_of l.fn.self).parents;
}
