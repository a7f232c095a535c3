use Rattle.std.proofs.Common.{◌≡◌, length, ◌-◌}
use Rattle.jr_build_hierarchy.specs.HierarchyView.{hierarchy_of}
use Rattle.jr_build_hierarchy.specs.Hierarchies.{nearest}
use Rattle.jr_build_hierarchy.proofs.hierarchies.Hierarchy.nearest.Given as goal

-- what is found with the turns that are left is what is found from the start
abbrev pub invariant-loop-turn : goal.invariant-loop-turn
invariant-loop-turn l =
    nearest (length (hierarchy_of l.self).keys - l._turn) (hierarchy_of l.self) l.name l.class
    ≡ nearest (length (hierarchy_of l.self).keys) (hierarchy_of l.self) l.name l.fn.class
