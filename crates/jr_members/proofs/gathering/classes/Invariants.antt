use Rattle.std.proofs.Common.{◌≡◌, ◌++◌, drop, map}
use Rattle.jr_ast.specs.View.{class_of}
use Rattle.jr_members.specs.Fitting.{begins_by}
use Rattle.jr_members.specs.Parts.{classes_parts}
use Rattle.jr_members.specs.PartView.{placed_of}
use Rattle.jr_members.proofs.gathering.classes.Given as goal

-- what is gathered, with what is left, is all
abbrev pub invariant-loop-part : goal.invariant-loop-part
invariant-loop-part g l =
    map placed_of l.parts.items ++ classes_parts (begins_by g.A.Mark.span_from) l.at.file l.at.base (map class_of (drop l.part-index l.classes))
    ≡ map placed_of l.initial.parts.items ++ classes_parts (begins_by g.A.Mark.span_from) l.at.file l.at.base (map class_of l.classes)
