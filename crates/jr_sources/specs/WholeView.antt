-- The program that a lent whole stands for.
use Rattle.std.specs.Prelude.{List, map}
use Rattle.jr_text.specs.declared.spans.Span.{Span}
use Rattle.jr_ast.specs.declared.members.Unit.{Unit}
use Rattle.jr_ast.specs.View.{unit_of}
use Rattle.jr_table.specs.Rows.{Row}
use Rattle.jr_bind.specs.Programs.{Program}
use Rattle.jr_program.specs.declared.bounds.MemberBound.{MemberBound}
use Rattle.jr_sources.specs.Sources.{Source}
use Rattle.jr_sources.specs.Whole.{program_of}

abbrev pub whole_of : List Source × (List (Unit Span) × (List Row × List MemberBound))
    → Program Span
whole_of w = program_of w.0 (map unit_of w.1.0) w.1.1.0 w.1.1.1
