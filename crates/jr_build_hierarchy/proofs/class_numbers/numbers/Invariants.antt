use Rattle.jr_build_declared.specs.KeyIndex.{number_at}
use Rattle.jr_build_hierarchy.specs.HierarchyView.{keys_of}
use Rattle.jr_build_hierarchy.specs.Superclasses.{IsNumbering}
use Rattle.jr_build_hierarchy.proofs.class_numbers.numbers.Given as goal

-- the classes so far are found
abbrev pub invariant-loop-number : goal.invariant-loop-number
invariant-loop-number l = IsNumbering (keys_of l.keys) l.number (number_at l.index)
