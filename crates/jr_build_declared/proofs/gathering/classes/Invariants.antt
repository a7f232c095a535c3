use Rattle.std.proofs.Common.{◌≡◌, ◌++◌, drop, map}
use Rattle.jr_ast.specs.View.{class_of}
use Rattle.jr_build_declared.specs.Fitting.{begins_by}
use Rattle.jr_table.specs.DeclaredItems.{classes_declarations}
use Rattle.jr_build_declared.specs.Gathers.{in_file}
use Rattle.jr_build_declared.specs.DeclaredView.{declaration_of}
use Rattle.jr_build_declared.proofs.gathering.classes.Given as goal

-- what is gathered, with what is left, is all
abbrev pub invariant-loop-part : goal.invariant-loop-part
invariant-loop-part g l =
    map declaration_of l.declarations.items ++ in_file l.at.file (classes_declarations (begins_by g.A.Mark.span_from) l.at.base (map class_of (drop l.part-index l.classes)))
    ≡ map declaration_of l.initial.declarations.items ++ in_file l.at.file (classes_declarations (begins_by g.A.Mark.span_from) l.at.base (map class_of l.classes))
