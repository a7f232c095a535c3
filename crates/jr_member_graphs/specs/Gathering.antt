-- How far a walk that gathers has come.
use Rattle.std.specs.Prelude.{◌≡◌, ℕ}
use Rattle.jr_text.specs.declared.spans.Span.{Span}
use Rattle.jr_ast.specs.Tree as tree
use Rattle.jr_ast.specs.StatementTree as statement
use Rattle.jr_ast.specs.View.{stmt_of}
use Rattle.jr_bind_expr.specs.Fits.{FitsStmt}
use Rattle.jr_expr_sites.specs.Meanings.{Meaning}
use Rattle.jr_expr_sites.specs.Routes.{begins_by}
use Rattle.jr_cfg.specs.StatementRoutes.{IsLast, IsLastOf}
use Rattle.jr_member_graphs.specs.Notes.{Notes, both, wrote, exp_locals, stmt_notes, else_notes}
use Rattle.jr_member_graphs.specs.declared.gather.Last.{Last}
use Rattle.jr_member_graphs.specs.declared.gather.Reached.{Reached}
use Rattle.jr_member_graphs.specs.declared.gather.Reached.TheVariants as reached

module _ {A : Type 0} (tells : A → ℕ → Span) (Fits : A → ℕ → Type 0) (means : ℕ → Meaning) where
  -- whole: what is gathered in the end, where this statement is still to be walked
  pub record Leaves (whole now : Notes A) (at : ℕ) (s : statement.Stmt A) : Type 0 where
    pub fits : FitsStmt (begins_by tells) Fits at s
    pub notes : both now (stmt_notes tells means at s) ≡ whole

  -- of a statement whose parent begins at `base`, behind what was there
  abbrev pub HeadGathered : (base : ℕ) → statement.Stmt A → Reached A → (old now : Notes A) → Type 0
  HeadGathered base s reached.Behind old now = now ≡ both old (stmt_notes tells means base s)
  HeadGathered base s (reached.To l) old now = IsLast tells (stmt_of l.of.now) s
      × Leaves (both old (stmt_notes tells means base s)) now l.at (stmt_of l.of.now)

  -- of an `if` that begins at a byte
  abbrev pub BranchGathered : (at : ℕ) → tree.Exp A → statement.Stmt A → statement.Else A
      → Last A → (old now : Notes A) → Type 0
  BranchGathered at c s o l old now = IsLastOf tells (stmt_of l.of.now) s o
      × Leaves (both old (both (wrote (exp_locals tells means at c))
      (both (stmt_notes tells means at s) (else_notes tells means at o))))
      now l.at (stmt_of l.of.now)
