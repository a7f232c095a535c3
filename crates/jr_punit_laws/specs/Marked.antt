-- The machines over tokens with their places, and what they answer.
use Rattle.std.specs.Prelude.{ℕ, Bool, List, Option, option_and_then}
use Rattle.jr_text.specs.declared.spans.Span.{Span}
use Rattle.jr_ast.specs.StatementTree.{Stmts}
use Rattle.jr_ast.specs.MemberTree.{Member, Unit as UnitTree}
use Rattle.jr_grammar.specs.Tokens.{Placed}
use Rattle.jr_grammar.specs.Stands.{Tokens}
use Rattle.jr_pexpr.specs.Marked.{join}
use Rattle.jr_pexpr.specs.Runs as Runs
use Rattle.jr_pstmt.specs.StatementMachine as Statements
use Rattle.jr_punit_laws.specs.MemberMachine as Members
use Rattle.jr_punit_laws.specs.UnitMachine as Units

-- ---- lists of statements

abbrev pub span_list_step : Statements.State Span → Placed Span → Option (Statements.State Span)
span_list_step s p = Statements.step join s p.mark p.token

abbrev pub span_list_whole : Statements.State Span → Option (Stmts Span)
span_list_whole s = Statements.whole join s

abbrev pub span_list_run : Statements.State Span → Tokens → Option (Statements.State Span)
span_list_run s ps =
    Runs.run (Statements.State Span) (Placed Span) (Stmts Span) span_list_step span_list_whole s ps

abbrev pub span_list_read : Tokens → Option (Stmts Span)
span_list_read tokens = option_and_then span_list_whole (span_list_run Statements.start tokens)

abbrev pub span_list_stop : Tokens → ℕ
span_list_stop tokens =
    Runs.stop_of (Statements.State Span) (Placed Span) (Stmts Span) span_list_step span_list_whole
    Statements.start tokens

-- ---- members of the class that has the name

abbrev pub span_member_step : Bool → List ℕ → Members.State Span → Placed Span →
    Option (Members.State Span)
span_member_step nested name s p = Members.step join nested name s p.mark p.token

abbrev pub span_member_whole : Members.State Span → Option (Member Span)
span_member_whole s = Members.whole s

abbrev pub span_member_run : Bool → List ℕ → Members.State Span → Tokens →
    Option (Members.State Span)
span_member_run nested name s ps =
    Runs.run (Members.State Span) (Placed Span) (Member Span) (span_member_step nested name)
    span_member_whole s ps

abbrev pub span_member_read : Bool → List ℕ → Tokens → Option (Member Span)
span_member_read nested name tokens =
    option_and_then span_member_whole (span_member_run nested name Members.start tokens)

abbrev pub span_member_length : Bool → List ℕ → Tokens → Option ℕ
span_member_length nested name tokens =
    Runs.longest (Members.State Span) (Placed Span) (Member Span) (span_member_step nested name)
    span_member_whole Members.start tokens

abbrev pub span_member_stop : Bool → List ℕ → Tokens → ℕ
span_member_stop nested name tokens =
    Runs.stop_of (Members.State Span) (Placed Span) (Member Span) (span_member_step nested name)
    span_member_whole Members.start tokens

-- ---- units, of a file that has `size` bytes

abbrev pub span_unit_step : Units.State Span → Placed Span → Option (Units.State Span)
span_unit_step s p = Units.step join s p.mark p.token

abbrev pub file_of : ℕ → Span
file_of size = record { from = 0; to = size }

abbrev pub span_unit_whole : ℕ → Units.State Span → Option (UnitTree Span)
span_unit_whole size s = Units.whole (file_of size) s

abbrev pub span_unit_run : ℕ → Units.State Span → Tokens → Option (Units.State Span)
span_unit_run size s ps =
    Runs.run (Units.State Span) (Placed Span) (UnitTree Span) span_unit_step
    (span_unit_whole size) s
    ps

abbrev pub span_unit_read : ℕ → Tokens → Option (UnitTree Span)
span_unit_read size tokens =
    option_and_then (span_unit_whole size) (span_unit_run size Units.start tokens)

abbrev pub span_unit_stop : ℕ → Tokens → ℕ
span_unit_stop size tokens =
    Runs.stop_of (Units.State Span) (Placed Span) (UnitTree Span) span_unit_step
    (span_unit_whole size) Units.start tokens
