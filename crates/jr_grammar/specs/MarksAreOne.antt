-- A tree stands over tokens with one choice of marks, and each tree that spells them with some.
use Rattle.std.specs.Prelude.{◌≡◌, ℕ}
use Rattle.jr_text.specs.declared.spans.Span.{Span}
use Rattle.jr_ast.specs.Tree.{Exp}
use Rattle.jr_ast.specs.StatementTree.{Stmt, Stmts}
use Rattle.jr_ast.specs.MemberTree.{Member, Unit as UnitTree}
use Rattle.jr_grammar.specs.Tokens.{kinds}
use Rattle.jr_grammar.specs.Spelling.{toks}
use Rattle.jr_grammar.specs.StatementSpelling.{stmt_toks, stmts_toks}
use Rattle.jr_grammar.specs.MemberSpelling.{member_toks, unit_toks}
use Rattle.jr_grammar.specs.Bare.{Bare, bare, bare_stmt, bare_stmts, bare_member, bare_unit}
use Rattle.jr_grammar.specs.Layout.{Layout, Layouts, itself, spans_from, all_spans_from}
use Rattle.jr_grammar.specs.Stands.{Tokens, Stands, StandInOrder}
use Rattle.jr_grammar.specs.ExpressionLayout.{exp_layout}
use Rattle.jr_grammar.specs.StatementLayout.{stmt_layout, stmts_layout}
use Rattle.jr_grammar.specs.MemberLayout.{member_layout, unit_layouts}

-- Marks that tell one span of nodes whose parents begin at one place are equal.
abbrev pub TellsApart : {A : Type 0} → (A → ℕ → Span) → Type 0
TellsApart {A} tells = (m n : A) (base : ℕ) → tells m base ≡ tells n base → m ≡ n

-- Two trees that are equal without their marks, and stand over the same tokens, are equal. A unit's
-- own mark stands over none.
pub record MarksAreOne : Type 0 where
  pub expression : (a b : Exp Span) (tokens : Tokens) → bare a ≡ bare b
      → Stands (exp_layout a) tokens → Stands (exp_layout b) tokens → a ≡ b
  pub statement : (a b : Stmt Span) (tokens : Tokens) → bare_stmt a ≡ bare_stmt b
      → Stands (stmt_layout a) tokens → Stands (stmt_layout b) tokens → a ≡ b
  pub statements : (a b : Stmts Span) (tokens : Tokens) → bare_stmts a ≡ bare_stmts b
      → Stands (stmts_layout a) tokens → Stands (stmts_layout b) tokens → a ≡ b
  pub member : (a b : Member Span) (tokens : Tokens) → bare_member a ≡ bare_member b
      → Stands (member_layout a) tokens → Stands (member_layout b) tokens → a ≡ b
  pub unit : (a b : UnitTree Span) (tokens : Tokens) → a.mark ≡ b.mark → bare_unit a ≡ bare_unit b
      → StandInOrder (unit_layouts a) tokens → StandInOrder (unit_layouts b) tokens → a ≡ b

-- A tree that spells the tokens has marks with which it stands over them.
pub record MarksAreThere : Type 0 where
  pub expression : (tree : Exp Bare) (tokens : Tokens) → toks tree ≡ kinds tokens
      → (marked : Exp Span) × (bare marked ≡ tree) × Stands (exp_layout marked) tokens
  pub statement : (stmt : Stmt Bare) (tokens : Tokens) → stmt_toks stmt ≡ kinds tokens
      → (marked : Stmt Span) × (bare_stmt marked ≡ stmt) × Stands (stmt_layout marked) tokens
  pub statements : (stmts : Stmts Bare) (tokens : Tokens) → stmts_toks stmts ≡ kinds tokens
      → (marked : Stmts Span) × (bare_stmts marked ≡ stmts) × Stands (stmts_layout marked) tokens
  pub member : (member : Member Bare) (tokens : Tokens) → member_toks member ≡ kinds tokens
      → (marked : Member Span) × (bare_member marked ≡ member)
      × Stands (member_layout marked) tokens
  pub unit : (mark : Span) (unit : UnitTree Bare) (tokens : Tokens) → unit_toks unit ≡ kinds tokens
      → (marked : UnitTree Span) × (marked.mark ≡ mark) × (bare_unit marked ≡ unit)
      × StandInOrder (unit_layouts marked) tokens

-- What stands over tokens spells them.
pub record StandsSpells : Type 0 where
  pub expression : (tree : Exp Span) (tokens : Tokens) → Stands (exp_layout tree) tokens
      → toks tree ≡ kinds tokens
  pub statement : (stmt : Stmt Span) (tokens : Tokens) → Stands (stmt_layout stmt) tokens
      → stmt_toks stmt ≡ kinds tokens
  pub statements : (stmts : Stmts Span) (tokens : Tokens) → Stands (stmts_layout stmts) tokens
      → stmts_toks stmts ≡ kinds tokens
  pub member : (member : Member Span) (tokens : Tokens) → Stands (member_layout member) tokens
      → member_toks member ≡ kinds tokens
  pub unit : (unit : UnitTree Span) (tokens : Tokens) → StandInOrder (unit_layouts unit) tokens
      → unit_toks unit ≡ kinds tokens

-- A mark that is a span tells itself, wherever the parent begins.
pub record SpansTellThemselves : Type 0 where
  pub part : (base : ℕ) (x : Layout Span) → spans_from itself base x ≡ x
  pub parts : (base : ℕ) (xs : Layouts Span) → all_spans_from itself base xs ≡ xs
