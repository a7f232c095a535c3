-- What a walk gathers of statements at a place: exactly what a rewriting of them gives, wherever a
-- written `super(..)` stands.
use Rattle.std.specs.Prelude.{ℕ, Option}
use Rattle.jr_text.specs.declared.spans.Span.{Span}
use Rattle.jr_ast.specs.Tree as tree
use Rattle.jr_ast.specs.StatementTree as statement
use Rattle.jr_table.specs.Decls.{Decl}
use Rattle.jr_table.specs.Context.{Context}
use Rattle.jr_rewrite.specs.Rewrites.{
  DeclaredOut,
  TransformsMaybe,
  TransformsStmt,
  TransformsElse,
  TransformsList,
}
use Rattle.jr_new_bodies.specs.declared.here.Here as raw
use Rattle.jr_new_bodies.specs.Known.{context_of}
use Rattle.jr_new_bodies.specs.Walks.{choosing, spotted}
use Rattle.jr_new_bodies.specs.Effects.{Effect, Gathers}
use Rattle.jr_new_bodies.specs.Spotting.{Unseen}

module _ {A : Type 0} (tells : A → ℕ → Span) (h : raw.Here) where
  abbrev pub MaybeGathers : (at : ℕ) → Option (tree.Exp A) → (old new : Effect) → Type 0
  MaybeGathers at e old new = (u : Unseen A) → Gathers (TransformsMaybe tells
      (choosing tells h u.super_at) (spotted tells h u) (context_of h) at e) old new

  abbrev pub WordGathers : Decl → (at : ℕ) → tree.Word A → (old new : Effect) → Type 0
  WordGathers d at w old new = (s : Context → ℕ)
      → Gathers (DeclaredOut tells (choosing tells h s) d at w) old new

  abbrev pub StmtGathers : (number : ℕ) → (base : ℕ) → statement.Stmt A → (old new : Effect)
      → Type 0
  StmtGathers n base x old new = (u : Unseen A) → Gathers (TransformsStmt tells
      (choosing tells h u.super_at) (spotted tells h u) n (context_of h) base x) old new

  abbrev pub ElseGathers : (number : ℕ) → (base : ℕ) → statement.Else A → (old new : Effect)
      → Type 0
  ElseGathers n base x old new = (u : Unseen A) → Gathers (TransformsElse tells
      (choosing tells h u.super_at) (spotted tells h u) n (context_of h) base x) old new

  abbrev pub StmtsGather : (number : ℕ) → (base : ℕ) → statement.Stmts A → (old new : Effect)
      → Type 0
  StmtsGather n base xs old new = (u : Unseen A) → Gathers (TransformsList tells
      (choosing tells h u.super_at) (spotted tells h u) n (context_of h) base xs) old new
