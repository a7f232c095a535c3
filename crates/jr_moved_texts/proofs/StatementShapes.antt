-- Rewritten statements are shaped where the old ones are. (jr_rewrite has this for itself alone.)
use Rattle.std.proofs.Common.{inl, inr, ℕ, ◌+◌, false, Option, Some, None, sym, subst}
use Rattle.jr_text.specs.declared.spans.Span.{Span}
use Rattle.jr_ast.specs.Tree as tree
use Rattle.jr_ast.specs.StatementTree as statement
use Rattle.jr_grammar.specs.StatementShape.{IsNoDeclaration, TakesNoElse, EndsTaken, ShapedValue, StmtShaped, ElseShaped, StmtsShaped}
use Rattle.jr_table.specs.Binding.{value}
use Rattle.jr_table.specs.Binding as role
use Rattle.jr_table.specs.Context.{Context, local_of, in_own, after, locals_in}
use Rattle.jr_rewrite.specs.Rewritten.{Rewritten}
use Rattle.jr_rewrite.specs.Suitable.{AreSuitable}
use Rattle.jr_rewrite.specs.Spots.{level, a_statement, Spotted, nowhere, spotted, OrList}
use Rattle.jr_rewrite.specs.Rewrites.{Choosing, TransformsMaybe, TransformsStmt, TransformsElse, TransformsStmts, TransformsList}
use Rattle.jr_rewrite.specs.Woven.{Weaving}
use Rattle.jr_rewrite.specs.SuitableSpots.{SpotsSuit}
use Rattle.jr_rewrite.proofs.ExpressionShapes.{takes, part_shaped}

-- what a spot makes of a list, or the other way
or_list : {A : Type 0} (tells : A → ℕ → Span) (S : Spotted A) (C : Choosing A) (W : Weaving) → SpotsSuit tells C W S → {N : Type 0} (n : ℕ) (c : Context) (base : ℕ) (xs : statement.Stmts A)
    (o : Rewritten (statement.Stmts A)) → OrList S n c base xs o N → StmtsShaped xs → (N → StmtsShaped o.tree) → StmtsShaped o.tree
or_list tells nowhere C W suit n c base xs o w h go = go w
or_list tells (spotted s) C W suit n c base xs o w h go = elim w [ inl x ↦ go x.1 | inr x ↦ suit.list_shaped n c base xs o x h ]

module _ {A : Type 0} (tells : A → ℕ → Span) (C : Choosing A) (S : Spotted A) where
  -- ---- statements

  no_declaration : (n : ℕ) (c : Context) (base : ℕ) (s : statement.Stmt A) (o : Rewritten (statement.Stmt A)) → TransformsStmt tells C S n c base s o → IsNoDeclaration s → IsNoDeclaration o.tree
  unfolding TransformsStmt TransformsElse TransformsStmts
  no_declaration n c base (statement.local m f t v e) o w h = absurd h
  no_declaration n c base (statement.eval m e) o w h = subst (λ z. IsNoDeclaration z.tree) (sym w.2) tt
  no_declaration n c base (statement.branch m e x other) o w h = subst (λ z. IsNoDeclaration z.tree) (sym w.6) tt
  no_declaration n c base (statement.loop m e x) o w h = subst (λ z. IsNoDeclaration z.tree) (sym w.4) tt
  no_declaration n c base (statement.return m e) o w h = subst (λ z. IsNoDeclaration z.tree) (sym w.2) tt
  no_declaration n c base (statement.block m body) o w h = subst (λ z. IsNoDeclaration z.tree) (sym w.2) tt
  no_declaration n c base (statement.sync m e body) o w h = subst (λ z. IsNoDeclaration z.tree) (sym w.4) tt
  no_declaration n c base (statement.empty m) o w h = subst (λ z. IsNoDeclaration z.tree) (sym w) tt

  mutual
    unfolding TransformsStmt TransformsElse TransformsStmts

    no_else : (n : ℕ) (c : Context) (base : ℕ) (s : statement.Stmt A) (o : Rewritten (statement.Stmt A)) → TransformsStmt tells C S n c base s o → TakesNoElse s → TakesNoElse o.tree
    no_else n c base (statement.local m f t v e) o w h = subst (λ z. TakesNoElse z.tree) (sym w.6) tt
    no_else n c base (statement.eval m e) o w h = subst (λ z. TakesNoElse z.tree) (sym w.2) tt
    no_else n c base (statement.branch m e x other) o w h = subst (λ z. TakesNoElse z.tree) (sym w.6) (ends_taken (n + locals_in x) c (tells m base).from other w.2 w.5 h)
    no_else n c base (statement.loop m e x) o w h = subst (λ z. TakesNoElse z.tree) (sym w.4) (no_else n c (tells m base).from x w.1 w.3 h)
    no_else n c base (statement.return m e) o w h = subst (λ z. TakesNoElse z.tree) (sym w.2) tt
    no_else n c base (statement.block m body) o w h = subst (λ z. TakesNoElse z.tree) (sym w.2) tt
    no_else n c base (statement.sync m e body) o w h = subst (λ z. TakesNoElse z.tree) (sym w.4) tt
    no_else n c base (statement.empty m) o w h = subst (λ z. TakesNoElse z.tree) (sym w) tt

    ends_taken : (n : ℕ) (c : Context) (base : ℕ) (s : statement.Else A) (o : Rewritten (statement.Else A)) → TransformsElse tells C S n c base s o → EndsTaken s → EndsTaken o.tree
    ends_taken n c base statement.no_else o w h = absurd h
    ends_taken n c base (statement.otherwise x) o w h = subst (λ z. EndsTaken z.tree) (sym w.2) (no_else n c base x w.0 w.1 h)

  module _ (W : Weaving) (fit : AreSuitable C) (suit : SpotsSuit tells C W S) where
    in_list : {N : Type 0} (n : ℕ) (c : Context) (base : ℕ) (xs : statement.Stmts A) (o : Rewritten (statement.Stmts A)) → OrList S n c base xs o N → StmtsShaped xs
        → (N → StmtsShaped o.tree) → StmtsShaped o.tree
    in_list n c base xs o w h go = or_list tells S C W suit n c base xs o w h go

    maybe_shaped : (c : Context) (at : ℕ) (e : Option (tree.Exp A)) (o : Rewritten (Option (tree.Exp A))) → TransformsMaybe tells C S c at e o → ShapedValue e → ShapedValue o.tree
    maybe_shaped c at None o w h = subst (λ z. ShapedValue z.tree) (sym w) tt
    maybe_shaped c at (Some e) o w h = subst (λ z. ShapedValue z.tree) (sym w.2) (part_shaped tells C S W fit suit false (level 0) c value at e w.0 w.1 h)

    mutual
      unfolding TransformsStmt TransformsElse TransformsStmts

      pub stmt_shaped : (n : ℕ) (c : Context) (base : ℕ) (s : statement.Stmt A) (o : Rewritten (statement.Stmt A)) → TransformsStmt tells C S n c base s o → StmtShaped s → StmtShaped o.tree
      stmt_shaped n c base (statement.local m f t v e) o w h =
          subst (λ z. StmtShaped z.tree) (sym w.6) (part_shaped tells C S W fit suit false (level 0) (in_own c (local_of c n f t v)) value (tells m base).from e w.2 w.5 h)
      stmt_shaped n c base (statement.eval m e) o w h =
          subst (λ z. StmtShaped z.tree) (sym w.2)
          (takes tells C S W fit suit a_statement c role.statement (tells m base).from e w.0 w.1 h.0, part_shaped tells C S W fit suit false a_statement c role.statement (tells m base).from e w.0 w.1 h.1)
      stmt_shaped n c base (statement.branch m e x other) o w h =
          let at : ℕ = (tells m base).from in
          subst (λ z. StmtShaped z.tree) (sym w.6) (
            part_shaped tells C S W fit suit false (level 0) c value at e w.0 w.3 h.0,
            no_declaration n c at x w.1 w.4 h.1,
            stmt_shaped n c at x w.1 w.4 h.2,
            else_shaped n c at x w.1 w.4 (n + locals_in x) other w.2 w.5 h.3,
          )
      stmt_shaped n c base (statement.loop m e x) o w h =
          let at : ℕ = (tells m base).from in
          subst (λ z. StmtShaped z.tree) (sym w.4) (part_shaped tells C S W fit suit false (level 0) c value at e w.0 w.2 h.0, no_declaration n c at x w.1 w.3 h.1, stmt_shaped n c at x w.1 w.3 h.2)
      stmt_shaped n c base (statement.return m e) o w h = subst (λ z. StmtShaped z.tree) (sym w.2) (maybe_shaped c (tells m base).from e w.0 w.1 h)
      stmt_shaped n c base (statement.block m body) o w h = subst (λ z. StmtShaped z.tree) (sym w.2) (in_list n c (tells m base).from body w.0 w.1 h (λ x0. stmts_shaped n c (tells m base).from body w.0 x0 h))
      stmt_shaped n c base (statement.sync m e body) o w h =
          subst (λ z. StmtShaped z.tree) (sym w.4) (part_shaped tells C S W fit suit false (level 0) c value (tells m base).from e w.0 w.2 h.0, in_list n c (tells m base).from body w.1 w.3 h.1 (λ x0. stmts_shaped n c (tells m base).from body w.1 x0 h.1))
      stmt_shaped n c base (statement.empty m) o w h = subst (λ z. StmtShaped z.tree) (sym w) tt

      else_shaped : (n : ℕ) (c : Context) (base : ℕ) (x : statement.Stmt A) (p : Rewritten (statement.Stmt A)) → TransformsStmt tells C S n c base x p → (k : ℕ) (s : statement.Else A)
          (o : Rewritten (statement.Else A)) → TransformsElse tells C S k c base s o → ElseShaped x s → ElseShaped p.tree o.tree
      else_shaped n c base x p r k statement.no_else o w h = subst (λ z. ElseShaped p.tree z.tree) (sym w) tt
      else_shaped n c base x p r k (statement.otherwise s) o w h =
          subst (λ z. ElseShaped p.tree z.tree) (sym w.2) (no_else n c base x p r h.0, no_declaration k c base s w.0 w.1 h.1, stmt_shaped k c base s w.0 w.1 h.2)

      stmts_shaped : (n : ℕ) (c : Context) (base : ℕ) (s : statement.Stmts A) (o : Rewritten (statement.Stmts A)) → TransformsStmts tells C S n c base s o → StmtsShaped s → StmtsShaped o.tree
      stmts_shaped n c base statement.end o w h = subst (λ z. StmtsShaped z.tree) (sym w) tt
      stmts_shaped n c base (statement.more x xs) o w h =
          subst (λ z. StmtsShaped z.tree) (sym w.4) (stmt_shaped n c base x w.0 w.2 h.0, in_list (n + locals_in x) (after n c x) base xs w.1 w.3 h.1 (λ x0. stmts_shaped (n + locals_in x) (after n c x) base xs w.1 x0 h.1))

    pub list_shaped : (n : ℕ) (c : Context) (base : ℕ) (xs : statement.Stmts A) (o : Rewritten (statement.Stmts A)) → TransformsList tells C S n c base xs o → StmtsShaped xs → StmtsShaped o.tree
    list_shaped n c base xs o w h = in_list n c base xs o w h (λ x. stmts_shaped n c base xs o x h)
