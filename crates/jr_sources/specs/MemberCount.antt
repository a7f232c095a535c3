-- How many members files have.
use Rattle.std.specs.Prelude.{ℕ, List, length}
use Rattle.jr_text.specs.declared.spans.Span.{Span}
use Rattle.jr_ast.specs.MemberTree as syntax
use Rattle.jr_members.specs.Parts.{units_parts}
use Rattle.jr_program_laws.specs.FileParts.{begins}

-- how many members are written: heads of classes, fields, methods and constructors
abbrev pub member_count : List (syntax.Unit Span) → ℕ
member_count units = length (units_parts begins units)
