-- Which spots suit their places: their changes lead from the tokens that stand there to those of
-- the new tree, and that is shaped, and may stand there, where the old one did.
use Rattle.std.specs.Prelude.{◌≡◌, ℕ, List, Bool, Option}
use Rattle.jr_text.specs.declared.spans.Span.{Span}
use Rattle.jr_ast.specs.Tree as tree
use Rattle.jr_ast.specs.StatementTree as statement
use Rattle.jr_ast.specs.MemberTree as syntax
use Rattle.jr_grammar.specs.Spelling.{toks}
use Rattle.jr_grammar.specs.StatementSpelling.{stmts_toks}
use Rattle.jr_grammar.specs.MemberSpelling.{class_toks, members_toks}
use Rattle.jr_grammar.specs.Layout.{spans_from}
use Rattle.jr_grammar.specs.ExpressionLayout.{exp_layout}
use Rattle.jr_grammar.specs.StatementLayout.{stmts_layout}
use Rattle.jr_grammar.specs.MemberLayout.{class_layout, members_layout}
use Rattle.jr_grammar.specs.Stands.{Tokens, last_to, Stands}
use Rattle.jr_grammar.specs.Shape.{ShapedBehind}
use Rattle.jr_grammar.specs.StatementShape.{StmtsShaped}
use Rattle.jr_grammar.specs.MemberShape.{ClassShaped, MembersShaped}
use Rattle.jr_table.specs.Keys.{ClassKey}
use Rattle.jr_table.specs.Decls.{class_decl}
use Rattle.jr_table.specs.Binding.{Role}
use Rattle.jr_table.specs.Context.{Context}
use Rattle.jr_rewrite.specs.Respellings.{Choice, text_of}
use Rattle.jr_rewrite.specs.Rewritten.{Rewritten}
use Rattle.jr_rewrite.specs.Spots.{Asks, Takes, Spots, Spotted, nowhere, spotted}
use Rattle.jr_rewrite.specs.Rewrites.{Choosing}
use Rattle.jr_rewrite.specs.Woven.{Weaving, anything, no_indent, token_to}

-- the class's own word, and each that a constructor of it has, become one
abbrev pub BecomesName : {A : Type 0} → Choosing A → ClassKey → (name new : List ℕ) → Type 0
BecomesName {A} C of name new = (v : tree.Word A) (h : Choice) → v.text ≡ name
    → C.declared (class_decl of) v h → text_of h v.text ≡ new

pub record AreSuitableSpots {A : Type 0} (tells : A → ℕ → Span) (C : Choosing A) (W : Weaving)
    (s : Spots A) : Type 0 where
  -- an expression, which ends where its last token does
  pub part : (k : Asks) (c : Context) (r : Role) (base : ℕ) (e : tree.Exp A)
      (o : Rewritten (tree.Exp A)) (ps : Tokens) → s.part k c r base e o
      → Stands (spans_from tells base (exp_layout e)) ps
      → W anything ps o.changes (toks o.tree) (token_to (last_to ps))
  pub part_takes : (k : Asks) (c : Context) (r : Role) (base : ℕ) (e : tree.Exp A)
      (o : Rewritten (tree.Exp A)) → s.part k c r base e o → Takes k e → Takes k o.tree
  pub part_shaped : (k : Asks) (c : Context) (r : Role) (base : ℕ) (e : tree.Exp A)
      (o : Rewritten (tree.Exp A)) → s.part k c r base e o
      → (minus : Bool) → ShapedBehind minus e → ShapedBehind minus o.tree
  -- statements
  pub list : (n : ℕ) (c : Context) (base : ℕ) (xs : statement.Stmts A)
      (o : Rewritten (statement.Stmts A)) (ps : Tokens) → s.list n c base xs o
      → Stands (spans_from tells base (stmts_layout xs)) ps
      → W no_indent ps o.changes (stmts_toks o.tree) no_indent
  pub list_shaped : (n : ℕ) (c : Context) (base : ℕ) (xs : statement.Stmts A)
      (o : Rewritten (statement.Stmts A)) → s.list n c base xs o → StmtsShaped xs
      → StmtsShaped o.tree
  -- members
  pub members : (base : ℕ) (of : ClassKey) (xs : syntax.Members A)
      (o : Rewritten (syntax.Members A)) (ps : Tokens) → s.members base of xs o
      → Stands (spans_from tells base (members_layout xs)) ps
      → W no_indent ps o.changes (members_toks o.tree) no_indent
  pub members_shaped : (base : ℕ) (of : ClassKey) (xs : syntax.Members A)
      (o : Rewritten (syntax.Members A)) → s.members base of xs o
      → (nested : Bool) (name new : List ℕ) → BecomesName C of name new
      → MembersShaped nested name xs → MembersShaped nested new o.tree
  -- a class
  pub whole : (base : ℕ) (outer : Option (List ℕ)) (x : syntax.Class A)
      (o : Rewritten (syntax.Class A)) (ps : Tokens) → s.whole base outer x o
      → Stands (spans_from tells base (class_layout x)) ps
      → W no_indent ps o.changes (class_toks o.tree) no_indent
  pub whole_shaped : (base : ℕ) (outer : Option (List ℕ)) (x : syntax.Class A)
      (o : Rewritten (syntax.Class A)) → s.whole base outer x o → (nested : Bool)
      → ClassShaped nested x → ClassShaped nested o.tree

-- where there are spots, they suit
abbrev pub SpotsSuit : {A : Type 0} → (A → ℕ → Span) → Choosing A → Weaving → Spotted A → Type 0
SpotsSuit tells C W nowhere = Unit {0}
SpotsSuit tells C W (spotted s) = AreSuitableSpots tells C W s
