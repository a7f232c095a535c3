-- What is printed reads back, and doesn't depend on marks.
use Rattle.std.specs.Prelude.{◌≡◌, Bool, ℕ, List}
use Rattle.jr_ast.specs.Tree.{Exp}
use Rattle.jr_ast.specs.StatementTree.{Stmt}
use Rattle.jr_ast.specs.MemberTree.{Member}
use Rattle.jr_ast.specs.Remarked.{map_exp, map_stmt, map_member}
use Rattle.jr_grammar.specs.Lexical.{IsGrammarExpression, IsGrammarStatement, IsGrammarMember}
use Rattle.jr_grammar.specs.Reads.{ReadsExpression, ReadsStatement, ReadsMember}
use Rattle.jr_print.specs.ExpressionText.{printed}
use Rattle.jr_print.specs.StatementText.{printed_stmt}
use Rattle.jr_print.specs.MemberText.{printed_member}

-- The text of an expression of the grammar reads as that expression.
abbrev pub ExpressionReadsBack : Type 0 → Type 0
ExpressionReadsBack A =
    (tree : Exp A) → IsGrammarExpression tree → ReadsExpression (printed tree) tree

abbrev pub StatementReadsBack : Type 0 → Type 0
StatementReadsBack A =
    (stmt : Stmt A) → IsGrammarStatement stmt → ReadsStatement (printed_stmt stmt) stmt

-- a member of the class that has the name; `nested` says whether that class is itself a member
-- class
abbrev pub MemberReadsBack : Type 0 → Type 0
MemberReadsBack A = (nested : Bool) (name : List ℕ) (member : Member A)
    → IsGrammarMember nested name member → ReadsMember nested name (printed_member member) member

-- a tree with its marks mapped by h is printed alike
pub record PrintingIgnoresMarks (A B : Type 0) : Type 0 where
  pub expression : (h : A → B) (e : Exp A) → printed (map_exp h e) ≡ printed e
  pub statement : (h : A → B) (s : Stmt A) → printed_stmt (map_stmt h s) ≡ printed_stmt s
  pub member : (h : A → B) (d : Member A) → printed_member (map_member h d) ≡ printed_member d
