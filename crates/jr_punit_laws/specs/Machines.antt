-- The machines without marks, and what they answer.
use Rattle.std.specs.Prelude.{ℕ, Bool, List, Option, option_and_then}
use Rattle.jr_ast.specs.StatementTree.{Stmts}
use Rattle.jr_ast.specs.MemberTree.{Member, Unit as UnitTree}
use Rattle.jr_grammar.specs.Tokens.{Token}
use Rattle.jr_grammar.specs.Bare.{Bare}
use Rattle.jr_pexpr.specs.BareMachine.{no_join}
use Rattle.jr_pexpr.specs.Runs as Runs
use Rattle.jr_pstmt.specs.StatementMachine as Statements
use Rattle.jr_punit_laws.specs.MemberMachine as Members
use Rattle.jr_punit_laws.specs.UnitMachine as Units

-- ---- lists of statements

abbrev pub list_step : Statements.State Bare → Token → Option (Statements.State Bare)
list_step s t = Statements.step no_join s tt t

abbrev pub list_whole : Statements.State Bare → Option (Stmts Bare)
list_whole s = Statements.whole no_join s

abbrev pub list_run : Statements.State Bare → List Token → Option (Statements.State Bare)
list_run s ts = Runs.run (Statements.State Bare) Token (Stmts Bare) list_step list_whole s ts

-- the list of statements that the tokens are, if any
abbrev pub list_read : List Token → Option (Stmts Bare)
list_read tokens = option_and_then list_whole (list_run Statements.start tokens)

abbrev pub list_stop : List Token → ℕ
list_stop tokens =
    Runs.stop_of (Statements.State Bare) Token (Stmts Bare) list_step list_whole Statements.start
    tokens

-- ---- members of the class that has the name

abbrev pub member_step : Bool → List ℕ → Members.State Bare → Token → Option (Members.State Bare)
member_step nested name s t = Members.step no_join nested name s tt t

abbrev pub member_whole : Members.State Bare → Option (Member Bare)
member_whole s = Members.whole s

abbrev pub member_run : Bool → List ℕ → Members.State Bare → List Token →
    Option (Members.State Bare)
member_run nested name s ts =
    Runs.run (Members.State Bare) Token (Member Bare) (member_step nested name) member_whole s ts

-- the member that the tokens are, if any
abbrev pub member_read : Bool → List ℕ → List Token → Option (Member Bare)
member_read nested name tokens =
    option_and_then member_whole (member_run nested name Members.start tokens)

abbrev pub member_length : Bool → List ℕ → List Token → Option ℕ
member_length nested name tokens =
    Runs.longest (Members.State Bare) Token (Member Bare) (member_step nested name) member_whole
    Members.start tokens

abbrev pub member_stop : Bool → List ℕ → List Token → ℕ
member_stop nested name tokens =
    Runs.stop_of (Members.State Bare) Token (Member Bare) (member_step nested name) member_whole
    Members.start tokens

-- ---- units

abbrev pub unit_step : Units.State Bare → Token → Option (Units.State Bare)
unit_step s t = Units.step no_join s tt t

abbrev pub unit_whole : Units.State Bare → Option (UnitTree Bare)
unit_whole s = Units.whole tt s

abbrev pub unit_run : Units.State Bare → List Token → Option (Units.State Bare)
unit_run s ts = Runs.run (Units.State Bare) Token (UnitTree Bare) unit_step unit_whole s ts

-- the unit that the tokens are, if any
abbrev pub unit_read : List Token → Option (UnitTree Bare)
unit_read tokens = option_and_then unit_whole (unit_run Units.start tokens)

abbrev pub unit_stop : List Token → ℕ
unit_stop tokens =
    Runs.stop_of (Units.State Bare) Token (UnitTree Bare) unit_step unit_whole Units.start tokens
