-- What the statements, members and units are that tokens spell, and where reading stops.
use Rattle.std.specs.Prelude.{◌≡◌, ℕ, Bool, List}
use Rattle.jr_text.specs.declared.spans.Span.{Span}
use Rattle.jr_ast.specs.StatementTree.{Stmt, Stmts}
use Rattle.jr_ast.specs.MemberTree.{Member, Unit as UnitTree}
use Rattle.jr_grammar.specs.Tokens.{Token, kinds}
use Rattle.jr_grammar.specs.StatementSpelling.{stmt_toks, stmts_toks}
use Rattle.jr_grammar.specs.StatementShape.{StmtShaped, StmtsShaped}
use Rattle.jr_grammar.specs.MemberSpelling.{member_toks, unit_toks}
use Rattle.jr_grammar.specs.MemberShape.{MemberShaped, UnitShaped}
use Rattle.jr_grammar.specs.Bare.{Bare}
use Rattle.jr_grammar.specs.Stands.{Tokens, Stands, StandInOrder}
use Rattle.jr_grammar.specs.StatementLayout.{stmt_layout, stmts_layout}
use Rattle.jr_grammar.specs.MemberLayout.{member_layout, unit_layouts}
use Rattle.jr_grammar.specs.Readings as Readings

-- ---- units

-- the tokens are the unit
pub record IsUnit {A : Type 0} (tokens : List Token) (unit : UnitTree A) : Type 0 where
  pub shaped : UnitShaped unit
  pub spells : unit_toks unit ≡ tokens

-- the tokens are no unit
abbrev pub IsNoUnit : List Token → Type 0
IsNoUnit tokens = (unit : UnitTree Bare) → IsUnit tokens unit → ⊥

-- The tokens are the unit, each mark is the span of its node's tokens, and the unit's is its file,
-- which has so many bytes.
pub record IsMarkedUnit (size : ℕ) (tokens : Tokens) (unit : UnitTree Span) : Type 0 where
  pub shaped : UnitShaped unit
  pub spells : unit_toks unit ≡ kinds tokens
  pub marks : StandInOrder (unit_layouts unit) tokens
  pub file : unit.mark ≡ record { from = 0; to = size }

-- no two units spell the same tokens
abbrev pub OneUnit : Type 0
OneUnit = Readings.OneTree (UnitTree Bare) unit_toks UnitShaped

-- the first n tokens begin some unit, and with the one behind them they begin none
abbrev pub IsUnitStop : List Token → ℕ → Type 0
IsUnitStop tokens n = Readings.IsStop (UnitTree Bare) unit_toks UnitShaped tokens n

-- ---- members of the class that has the name; `nested` says whether that class is itself a member
-- class

-- the tokens are the member
pub record IsMember {A : Type 0} (nested : Bool) (name : List ℕ) (tokens : List Token)
    (member : Member A) : Type 0 where
  pub shaped : MemberShaped nested name member
  pub spells : member_toks member ≡ tokens

-- the tokens are no member
abbrev pub IsNoMember : Bool → List ℕ → List Token → Type 0
IsNoMember nested name tokens = (member : Member Bare) → IsMember nested name tokens member → ⊥

-- The tokens are the member, and each mark is the span of its node's tokens.
pub record IsMarkedMember (nested : Bool) (name : List ℕ) (tokens : Tokens)
    (member : Member Span) : Type 0 where
  pub shaped : MemberShaped nested name member
  pub spells : member_toks member ≡ kinds tokens
  pub marks : Stands (member_layout member) tokens

-- no two members spell the same tokens
abbrev pub OneMember : Type 0
OneMember = (nested : Bool) (name : List ℕ)
    → Readings.OneTree (Member Bare) member_toks (MemberShaped nested name)

-- the first n tokens are the member, and no more of them are one
abbrev pub IsLongestMember : Bool → List ℕ → List Token → ℕ → Member Bare → Type 0
IsLongestMember nested name tokens n member =
    Readings.IsLongest (Member Bare) member_toks (MemberShaped nested name) tokens n member

-- the tokens begin with no member
abbrev pub HasNoMember : Bool → List ℕ → List Token → Type 0
HasNoMember nested name tokens =
    Readings.HasNone (Member Bare) member_toks (MemberShaped nested name) tokens

-- the first n tokens begin some member, and with the one behind them they begin none
abbrev pub IsMemberStop : Bool → List ℕ → List Token → ℕ → Type 0
IsMemberStop nested name tokens n =
    Readings.IsStop (Member Bare) member_toks (MemberShaped nested name) tokens n

-- ---- statements, and lists of them

-- the tokens are the statement
pub record IsStatement {A : Type 0} (tokens : List Token) (stmt : Stmt A) : Type 0 where
  pub shaped : StmtShaped stmt
  pub spells : stmt_toks stmt ≡ tokens

-- the tokens are no statement
abbrev pub IsNoStatement : List Token → Type 0
IsNoStatement tokens = (stmt : Stmt Bare) → IsStatement tokens stmt → ⊥

-- The tokens are the statement, and each mark is the span of its node's tokens.
pub record IsMarkedStatement (tokens : Tokens) (stmt : Stmt Span) : Type 0 where
  pub shaped : StmtShaped stmt
  pub spells : stmt_toks stmt ≡ kinds tokens
  pub marks : Stands (stmt_layout stmt) tokens

-- the tokens are the statements, one behind the other
pub record AreStatements {A : Type 0} (tokens : List Token) (stmts : Stmts A) : Type 0 where
  pub shaped : StmtsShaped stmts
  pub spells : stmts_toks stmts ≡ tokens

-- the tokens are no statements
abbrev pub AreNoStatements : List Token → Type 0
AreNoStatements tokens = (stmts : Stmts Bare) → AreStatements tokens stmts → ⊥

-- The tokens are the statements, and each mark is the span of its node's tokens.
pub record AreMarkedStatements (tokens : Tokens) (stmts : Stmts Span) : Type 0 where
  pub shaped : StmtsShaped stmts
  pub spells : stmts_toks stmts ≡ kinds tokens
  pub marks : Stands (stmts_layout stmts) tokens

abbrev pub OneList : Type 0
OneList = Readings.OneTree (Stmts Bare) stmts_toks StmtsShaped

abbrev pub IsListStop : List Token → ℕ → Type 0
IsListStop tokens n = Readings.IsStop (Stmts Bare) stmts_toks StmtsShaped tokens n

-- ---- tokens have one stop, and one longest tree or none

abbrev pub OneListReading : Type 0
OneListReading = Readings.OneReading (Stmts Bare) stmts_toks StmtsShaped

abbrev pub OneMemberReading : Type 0
OneMemberReading = (nested : Bool) (name : List ℕ)
    → Readings.OneReading (Member Bare) member_toks (MemberShaped nested name)

abbrev pub OneUnitReading : Type 0
OneUnitReading = Readings.OneReading (UnitTree Bare) unit_toks UnitShaped
