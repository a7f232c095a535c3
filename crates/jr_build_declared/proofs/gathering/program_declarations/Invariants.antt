use Rattle.std.proofs.Common.{◌≡◌, ◌++◌, drop, map}
use Rattle.jr_ast.specs.View.{unit_of}
use Rattle.jr_build_declared.specs.Fitting.{begins_by}
use Rattle.jr_table.specs.DeclaredItems.{declarations_from, declarations_of}
use Rattle.jr_build_declared.specs.DeclaredView.{declaration_of}
use Rattle.jr_build_declared.proofs.gathering.program_declarations.Given as goal

-- what is gathered, with what is left, is all
abbrev pub invariant-loop-file : goal.invariant-loop-file
invariant-loop-file g l =
    map declaration_of l.declarations.items ++ declarations_from (begins_by g.A.Mark.span_from) l.file (map unit_of (drop l.file l.units))
    ≡ declarations_from (begins_by g.A.Mark.span_from) 0 (map unit_of l.units)
