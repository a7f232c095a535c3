use Rattle.std.proofs.Common.{◌≡◌, ◌++◌, drop, map}
use Rattle.jr_ast.specs.View.{unit_of}
use Rattle.jr_members.specs.Fitting.{begins_by}
use Rattle.jr_members.specs.Parts.{parts_from}
use Rattle.jr_members.specs.PartView.{placed_of}
use Rattle.jr_members.proofs.gathering.program_parts.Given as goal

-- what is gathered, with what is left, is all
abbrev pub invariant-loop-file : goal.invariant-loop-file
invariant-loop-file g l =
    map placed_of l.parts.items ++ parts_from (begins_by g.A.Mark.span_from) l.file (map unit_of (drop l.file l.units))
    ≡ parts_from (begins_by g.A.Mark.span_from) 0 (map unit_of l.units)
