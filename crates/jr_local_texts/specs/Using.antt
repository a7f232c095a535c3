-- That plans of extract local and inline local use their spots, as statements.
use Rattle.std.specs.Prelude.{◌≡◌, ℕ, List}
use Rattle.jr_text.specs.declared.spans.Span.{Span}
use Rattle.jr_ast.specs.Tree as tree
use Rattle.jr_ast.specs.StatementTree as statement
use Rattle.jr_ast.specs.Marks.{exp_mark}
use Rattle.jr_grammar.specs.Layout.{itself}
use Rattle.jr_table.specs.Binding.{Role}
use Rattle.jr_table.specs.Context.{Context}
use Rattle.jr_bind.specs.Programs.{Program}
use Rattle.jr_rewrite.specs.Rewritten.{Rewritten}
use Rattle.jr_rewrite.specs.Spots.{Asks, spotted}
use Rattle.jr_rewrite.specs.Rewrites.{TransformsPart, TransformsList}
use Rattle.jr_local.specs.Inlining.{Naming}
use Rattle.jr_local.specs.Extracted as extracted
use Rattle.jr_local.specs.Inlined as inlined

-- The list from the statement on becomes what the spot makes of it; in it the expression, whose
-- value is used there, becomes the name.
pub record UsesExtract (p : Program Span) (file from to : ℕ) (name : List ℕ)
    (f : extracted.Found p file from to name) : Type 0 where
  pub list : (n : ℕ) (c : Context) (base : ℕ) (xs : statement.Stmts Span)
      (o : Rewritten (statement.Stmts Span))
      → extracted.IsHeld p file from to name f.selected n c xs
      → TransformsList itself (extracted.choices p file from to name f.selected
      (extracted.around p file from to name f.selected))
      (spotted (extracted.list_spot p file from to name f.selected f.text f.items f.type))
      n c base xs o
      → extracted.Extracts p file from to name f.selected f.text f.items f.type n c base xs o
  pub part : (k : Asks) (c : Context) (r : Role) (base : ℕ) (e : tree.Exp Span)
      (o : Rewritten (tree.Exp Span)) → extracted.IsValue p file from to name f.selected k c e
      → TransformsPart itself (extracted.choices p file from to name f.selected
      (extracted.from_there p file from to name f.selected))
      (spotted (extracted.name_spot p file from to name f.selected f.items)) k c r base e o
      → o ≡ extracted.named name f.items (exp_mark f.selected.value)

-- The list from the declaration on becomes what the spot makes of it; behind it each read of the
-- local becomes a copy.
pub record UsesInline (p : Program Span) (file at : ℕ) (f : inlined.Found p file at)
    : Type 0 where
  pub list : (n : ℕ) (c : Context) (base : ℕ) (xs : statement.Stmts Span)
      (o : Rewritten (statement.Stmts Span))
      → inlined.IsHeld p file at f.asked f.type n c xs
      → TransformsList itself (inlined.choices p file at f.asked f.type
      (inlined.left_out p file at f.asked f.type))
      (spotted (inlined.list_spot p file at f.asked f.type f.text f.items f.copies f.gone))
      n c base xs o
      → inlined.Inlines p file at f.asked f.type f.text f.items f.copies f.gone n c base xs o
  pub part : (k : Asks) (c : Context) (r : Role) (base : ℕ) (e : tree.Exp Span)
      (o : Rewritten (tree.Exp Span)) (n : Naming f.asked.declared)
      → inlined.IsReadAt p file at f.asked f.type f.text f.items f.copies k c e n
      → TransformsPart itself (inlined.choices p file at f.asked f.type
      (inlined.left_out p file at f.asked f.type))
      (spotted (inlined.read_spot p file at f.asked f.type f.text f.items f.copies))
      k c r base e o
      → inlined.Reads p file at f.asked f.type f.text f.items f.copies k c e o

-- Each spot of a plan is used: where it is, nothing is rewritten node by node.
abbrev pub ExtractsUse : Type 0
ExtractsUse = (p : Program Span) (file from to : ℕ) (name : List ℕ)
    (f : extracted.Found p file from to name) → UsesExtract p file from to name f

abbrev pub InlinesUse : Type 0
InlinesUse = (p : Program Span) (file at : ℕ) (f : inlined.Found p file at)
    → UsesInline p file at f
