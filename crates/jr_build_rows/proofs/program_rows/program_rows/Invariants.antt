use Rattle.std.proofs.Common.{◌≡◌, ◌++◌, drop, map}
use Rattle.jr_table.specs.Prelude.{prelude_rows}
use Rattle.jr_table.specs.RowView.{row_of}
use Rattle.jr_build_rows.specs.ExactRows.{rows_of_declarations}
use Rattle.jr_build_hierarchy.specs.HierarchyView.{hierarchy_of}
use Rattle.jr_build_declared.specs.DeclaredView.{declaration_of}
use Rattle.jr_build_rows.proofs.program_rows.program_rows.Given as goal

-- the rows so far, with those that are left, are all
abbrev pub invariant-loop-declaration : goal.invariant-loop-declaration
invariant-loop-declaration l =
    map row_of l.rows.items ++ rows_of_declarations (hierarchy_of l.h) (map declaration_of (drop l.declaration-index l.declarations))
    ≡ prelude_rows ++ rows_of_declarations (hierarchy_of l.h) (map declaration_of l.declarations)
