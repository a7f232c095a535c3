-- Each text reads as one tree at most, and tokens with places are one tree at most, marks included.
use Rattle.std.specs.Prelude.{◌≡◌, ℕ, Bool, List}
use Rattle.jr_text.specs.declared.spans.Span.{Span}
use Rattle.jr_ast.specs.StatementTree.{Stmt, Stmts}
use Rattle.jr_ast.specs.MemberTree.{Member, Unit as UnitTree}
use Rattle.jr_grammar.specs.Stands.{Tokens}
use Rattle.jr_grammar.specs.Bare.{bare_stmt, bare_member, bare_unit}
use Rattle.jr_grammar.specs.Units.{
  IsMarkedUnit,
  IsMarkedMember,
  IsMarkedStatement,
  AreMarkedStatements,
}
use Rattle.jr_grammar.specs.Reads.{Reads, ReadsMember, ReadsStatement}

-- the same but for their marks, whatever these are
pub record OneReading (A : Type 0) : Type 0 where
  pub unit : (bytes : List ℕ) (a b : UnitTree A) → Reads bytes a → Reads bytes b →
      bare_unit a ≡ bare_unit b
  pub member : (nested : Bool) (name bytes : List ℕ) (a b : Member A) →
      ReadsMember nested name bytes a → ReadsMember nested name bytes b →
      bare_member a ≡ bare_member b
  pub statement : (bytes : List ℕ) (a b : Stmt A) → ReadsStatement bytes a →
      ReadsStatement bytes b → bare_stmt a ≡ bare_stmt b

-- equal, where each mark is the span of its node's tokens
pub record OneMarkedTree : Type 0 where
  pub unit : (size : ℕ) (tokens : Tokens) (a b : UnitTree Span) → IsMarkedUnit size tokens a →
      IsMarkedUnit size tokens b → a ≡ b
  pub member : (nested : Bool) (name : List ℕ) (tokens : Tokens) (a b : Member Span) →
      IsMarkedMember nested name tokens a → IsMarkedMember nested name tokens b → a ≡ b
  pub list : (tokens : Tokens) (a b : Stmts Span) → AreMarkedStatements tokens a →
      AreMarkedStatements tokens b → a ≡ b
  pub statement : (tokens : Tokens) (a b : Stmt Span) → IsMarkedStatement tokens a →
      IsMarkedStatement tokens b → a ≡ b
