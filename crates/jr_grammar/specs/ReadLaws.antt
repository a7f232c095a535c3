-- What holds of each tree that a text reads as.
use Rattle.std.specs.Prelude.{◌≡◌, ℕ, Bool, List}
use Rattle.jr_text.specs.declared.spans.Span.{Span}
use Rattle.jr_ast.specs.Tree.{Exp}
use Rattle.jr_ast.specs.StatementTree.{Stmt}
use Rattle.jr_ast.specs.MemberTree.{Member, Unit as UnitTree}
use Rattle.jr_grammar.specs.Bare.{Bare, bare, bare_stmt, bare_member, bare_unit}
use Rattle.jr_grammar.specs.Layout.{itself}
use Rattle.jr_grammar.specs.Lexical.{IsGrammarExpression, IsGrammarStatement, IsGrammarMember}
use Rattle.jr_grammar.specs.Lexical.{IsGrammarUnit}
use Rattle.jr_grammar.specs.Reads.{Reads, ReadsMember, ReadsStatement, ReadsExpression}
use Rattle.jr_grammar.specs.Reads.{ReadsWithSpans, ReadsMemberWithSpans, ReadsStatementWithSpans}
use Rattle.jr_grammar.specs.Reads.{ReadsExpressionWithSpans}

-- What a text reads as is a tree of the grammar.
pub record ReadsAreGrammar (A : Type 0) : Type 0 where
  pub unit : (bytes : List ℕ) (unit : UnitTree A) → Reads bytes unit → IsGrammarUnit unit
  pub member : (nested : Bool) (name : List ℕ) (bytes : List ℕ) (member : Member A)
      → ReadsMember nested name bytes member → IsGrammarMember nested name member
  pub statement : (bytes : List ℕ) (stmt : Stmt A) → ReadsStatement bytes stmt
      → IsGrammarStatement stmt
  pub expression : (bytes : List ℕ) (tree : Exp A) → ReadsExpression bytes tree
      → IsGrammarExpression tree

-- Two trees that a text reads as with their spans are equal, marks included, where they are without
-- them.
pub record SpansAreOne {A : Type 0} (tells : A → ℕ → Span) : Type 0 where
  pub unit : (bytes : List ℕ) (a b : UnitTree A) → bare_unit a ≡ bare_unit b
      → ReadsWithSpans tells bytes a → ReadsWithSpans tells bytes b → a ≡ b
  pub member : (nested : Bool) (name : List ℕ) (bytes : List ℕ) (a b : Member A)
      → bare_member a ≡ bare_member b
      → ReadsMemberWithSpans tells nested name bytes a
      → ReadsMemberWithSpans tells nested name bytes b → a ≡ b
  pub statement : (bytes : List ℕ) (a b : Stmt A) → bare_stmt a ≡ bare_stmt b
      → ReadsStatementWithSpans tells bytes a → ReadsStatementWithSpans tells bytes b → a ≡ b
  pub expression : (bytes : List ℕ) (a b : Exp A) → bare a ≡ bare b
      → ReadsExpressionWithSpans tells bytes a → ReadsExpressionWithSpans tells bytes b → a ≡ b

-- A tree that a text reads as has spans with which it does.
pub record SpansAreThere : Type 0 where
  pub unit : (bytes : List ℕ) (unit : UnitTree Bare) → Reads bytes unit
      → (marked : UnitTree Span) × (bare_unit marked ≡ unit) × ReadsWithSpans itself bytes marked
  pub member : (nested : Bool) (name : List ℕ) (bytes : List ℕ) (member : Member Bare)
      → ReadsMember nested name bytes member
      → (marked : Member Span) × (bare_member marked ≡ member)
      × ReadsMemberWithSpans itself nested name bytes marked
  pub statement : (bytes : List ℕ) (stmt : Stmt Bare) → ReadsStatement bytes stmt
      → (marked : Stmt Span) × (bare_stmt marked ≡ stmt)
      × ReadsStatementWithSpans itself bytes marked
  pub expression : (bytes : List ℕ) (tree : Exp Bare) → ReadsExpression bytes tree
      → (marked : Exp Span) × (bare marked ≡ tree) × ReadsExpressionWithSpans itself bytes marked
