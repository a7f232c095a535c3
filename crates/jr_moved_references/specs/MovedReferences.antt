-- Where the references of a renamed expression or statement stand, which is a text of its own, and
-- what they are bound to there.
use Rattle.std.specs.Prelude.{◌≡◌, ℕ, List, []}
use Rattle.jr_text.specs.declared.spans.Span.{Span}
use Rattle.jr_text.specs.Edits.{Entry}
use Rattle.jr_text.specs.Splices.{splice, IsUntouched, moved_to}
use Rattle.jr_ast.specs.Tree as tree
use Rattle.jr_ast.specs.StatementTree as statement
use Rattle.jr_grammar.specs.Bare.{bare, bare_stmt}
use Rattle.jr_grammar.specs.Layout.{itself}
use Rattle.jr_grammar.specs.Reads.{ReadsExpressionWithSpans, ReadsStatementWithSpans}
use Rattle.jr_table.specs.Decls.{Decl}
use Rattle.jr_table.specs.Rows.{Row}
use Rattle.jr_table.specs.Conditions.{AreRows}
use Rattle.jr_table.specs.Context.{Context}
use Rattle.jr_table.specs.Binding.{Role, BindsItself}
use Rattle.jr_table.specs.Somewhere.{Somewhere, InStmt}
use Rattle.jr_table.specs.StatementRules.{StmtBindsItself}
use Rattle.jr_program_laws.specs.FileParts.{begins}
use Rattle.jr_rewrite.specs.Rewritten.{Rewritten}
use Rattle.jr_rewrite.specs.Edited.{entries_of}
use Rattle.jr_rewrite.specs.Rewrites.{RewritesExp, RewritesStmt}
use Rattle.jr_images.specs.Images.{Renaming, decl_to, rows_to}
use Rattle.jr_images.specs.NamedImages.{AreNamedImages}
use Rattle.jr_images.specs.Regions.{images_of}
use Rattle.jr_images.specs.RenameLaws.{IsFair}
use Rattle.jr_images.specs.Spelling.{spelling}
use Rattle.jr_images.specs.Standing.{ContextTo}

module _ (rows : List Row) (c : Context) where
  -- some reference of an expression that begins there is bound to the declaration
  abbrev pub RefersInExp : Role → tree.Exp Span → (at : ℕ) → Decl → Type 0
  RefersInExp r e at x = Somewhere begins (λ r b e. BindsItself begins rows c r b e at x) r 0 e

  -- some reference of a statement, the next local in which has this number
  abbrev pub RefersInStmt : (next : ℕ) → statement.Stmt Span → (at : ℕ) → Decl → Type 0
  RefersInStmt n s at x = InStmt begins (λ c r b e. BindsItself begins rows c r b e at x)
      (λ n c b s. StmtBindsItself begins rows n c b s at x) (λ b ss. ⊥) n c 0 s

-- The rename of these declarations of a program of these rows loses nothing in the expression, and
-- what its changes make of the text is read again. Each reference whose first byte no change
-- touches is bound, where that byte has moved to, to the image of its declaration.
abbrev pub ExpressionReferencesMove : Type 0
ExpressionReferencesMove =
    (rows : List Row) (g : Renaming) (super_at : Context → ℕ) (c d : Context) (r : Role)
    (bytes : List ℕ) (e : tree.Exp Span) (o : Rewritten (tree.Exp Span)) (y : tree.Exp Span)
    → AreRows rows → IsFair rows g → AreNamedImages rows (images_of rows g) → ContextTo g rows c d
    → ReadsExpressionWithSpans itself bytes e
    → RewritesExp itself (spelling begins rows g super_at) c r 0 e o → o.losses ≡ []
    → ReadsExpressionWithSpans itself (splice bytes (entries_of o.changes)) y
    → bare y ≡ bare o.tree → (at : ℕ) (x : Decl) → RefersInExp rows c r e at x
    → IsUntouched (entries_of o.changes) at
    → RefersInExp (rows_to g rows) d r y (moved_to (entries_of o.changes) at) (decl_to g x)

-- The same of a statement.
abbrev pub StatementReferencesMove : Type 0
StatementReferencesMove =
    (rows : List Row) (g : Renaming) (super_at : Context → ℕ) (c d : Context) (n : ℕ)
    (bytes : List ℕ) (s : statement.Stmt Span) (o : Rewritten (statement.Stmt Span))
    (y : statement.Stmt Span)
    → AreRows rows → IsFair rows g → AreNamedImages rows (images_of rows g) → ContextTo g rows c d
    → ReadsStatementWithSpans itself bytes s
    → RewritesStmt itself (spelling begins rows g super_at) n c 0 s o → o.losses ≡ []
    → ReadsStatementWithSpans itself (splice bytes (entries_of o.changes)) y
    → bare_stmt y ≡ bare_stmt o.tree → (at : ℕ) (x : Decl) → RefersInStmt rows c n s at x
    → IsUntouched (entries_of o.changes) at
    → RefersInStmt (rows_to g rows) d n y (moved_to (entries_of o.changes) at) (decl_to g x)
