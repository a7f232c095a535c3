use Rattle.jr_index.specs.Names.{named}
use Rattle.jr_build_hierarchy.specs.HierarchyView.{keys_of}
use Rattle.jr_build_hierarchy.specs.Superclasses.{HasInner}
use Rattle.jr_build_hierarchy.proofs.class_numbers.inner_names.Given as goal

-- the member classes so far are found
abbrev pub invariant-loop-number : goal.invariant-loop-number
invariant-loop-number l = HasInner (keys_of l.keys) l.number (named l.inner)
