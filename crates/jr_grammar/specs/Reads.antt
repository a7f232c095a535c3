-- What a text reads as.
use Rattle.std.specs.Prelude.{◌≡◌, ℕ, Bool, List, length}
use Rattle.jr_text.specs.declared.spans.Span.{Span}
use Rattle.jr_lex.specs.declared.items.Item.{Item}
use Rattle.jr_lex.specs.Lexes.{Lexes}
use Rattle.jr_ast.specs.Tree.{Exp}
use Rattle.jr_ast.specs.StatementTree.{Stmt}
use Rattle.jr_ast.specs.MemberTree.{Member, Unit as UnitTree}
use Rattle.jr_grammar.specs.Tokens.{tokens_of, placed_of}
use Rattle.jr_grammar.specs.Layout.{spans_from, all_spans_from}
use Rattle.jr_grammar.specs.Stands.{Stands, StandInOrder}
use Rattle.jr_grammar.specs.ExpressionLayout.{exp_layout}
use Rattle.jr_grammar.specs.StatementLayout.{stmt_layout}
use Rattle.jr_grammar.specs.MemberLayout.{member_layout, unit_layouts}
use Rattle.jr_grammar.specs.Expressions.{IsExpression}
use Rattle.jr_grammar.specs.Units.{IsStatement, IsMember, IsUnit}

-- ---- whatever the tree's marks: the text has items, and their tokens are the tree's, which is
-- shaped

-- a compilation unit (JLS 7.3)
pub record Reads {A : Type 0} (bytes : List ℕ) (unit : UnitTree A) : Type 0 where
  pub items : List Item
  pub lexes : Lexes bytes items
  pub is : IsUnit (tokens_of bytes items) unit

-- a member of the class that has the name; `nested` says whether that class is itself a member
-- class (JLS 8)
pub record ReadsMember {A : Type 0} (nested : Bool) (name : List ℕ) (bytes : List ℕ)
    (member : Member A) : Type 0 where
  pub items : List Item
  pub lexes : Lexes bytes items
  pub is : IsMember nested name (tokens_of bytes items) member

-- a statement (JLS 14)
pub record ReadsStatement {A : Type 0} (bytes : List ℕ) (stmt : Stmt A) : Type 0 where
  pub items : List Item
  pub lexes : Lexes bytes items
  pub is : IsStatement (tokens_of bytes items) stmt

-- an expression (JLS 15)
pub record ReadsExpression {A : Type 0} (bytes : List ℕ) (tree : Exp A) : Type 0 where
  pub items : List Item
  pub lexes : Lexes bytes items
  pub is : IsExpression (tokens_of bytes items) tree

-- ---- and with its spans: what each mark tells, where the parent begins so, is the span of its
-- node's tokens. The root's parent begins at 0, and a unit is the whole file.

module _ {A : Type 0} (tells : A → ℕ → Span) where
  pub record ReadsWithSpans (bytes : List ℕ) (unit : UnitTree A) : Type 0 where
    pub items : List Item
    pub lexes : Lexes bytes items
    pub is : IsUnit (tokens_of bytes items) unit
    pub spans : StandInOrder (all_spans_from tells 0 (unit_layouts unit)) (placed_of bytes items)
    pub file : tells unit.mark 0 ≡ record { from = 0; to = length bytes }

  pub record ReadsMemberWithSpans (nested : Bool) (name : List ℕ) (bytes : List ℕ)
      (member : Member A) : Type 0 where
    pub items : List Item
    pub lexes : Lexes bytes items
    pub is : IsMember nested name (tokens_of bytes items) member
    pub spans : Stands (spans_from tells 0 (member_layout member)) (placed_of bytes items)

  pub record ReadsStatementWithSpans (bytes : List ℕ) (stmt : Stmt A) : Type 0 where
    pub items : List Item
    pub lexes : Lexes bytes items
    pub is : IsStatement (tokens_of bytes items) stmt
    pub spans : Stands (spans_from tells 0 (stmt_layout stmt)) (placed_of bytes items)

  pub record ReadsExpressionWithSpans (bytes : List ℕ) (tree : Exp A) : Type 0 where
    pub items : List Item
    pub lexes : Lexes bytes items
    pub is : IsExpression (tokens_of bytes items) tree
    pub spans : Stands (spans_from tells 0 (exp_layout tree)) (placed_of bytes items)
