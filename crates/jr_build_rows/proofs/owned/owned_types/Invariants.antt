use Rattle.std.proofs.Common.{◌≡◌, ◌++◌, drop, map}
use Rattle.jr_table.specs.TypeView.{ty_of}
use Rattle.jr_build_hierarchy.specs.HierarchyView.{meaning_of}
use Rattle.jr_build_rows.proofs.owned.owned_types.Given as goal

-- the types so far, with those that are left, are all
abbrev pub invariant-loop-meaning : goal.invariant-loop-meaning
invariant-loop-meaning l = map ty_of l.types.items ++ map meaning_of (drop l.meaning-index l.meanings)
    ≡ map meaning_of l.meanings
