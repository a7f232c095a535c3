-- Old and new statements side by side: what stands in front of each reference.
use Rattle.std.proofs.Common.{◌≡◌, ℕ, ◌+◌, List, [], ◌++◌, Option, Some, None, ap}
use Rattle.jr_text.specs.declared.spans.Span.{Span}
use Rattle.jr_ast.specs.Tree as tree
use Rattle.jr_ast.specs.StatementTree as statement
use Rattle.jr_table.specs.Rows.{Row}
use Rattle.jr_table.specs.Context.{Context, local_of, in_own, after, locals_in}
use Rattle.jr_table.specs.Binding.{Role, value}
use Rattle.jr_table.specs.Binding as role
use Rattle.jr_rewrite.specs.Rewritten.{Rewritten, within, joined}
use Rattle.jr_rewrite.specs.Rewrites.{Choosing, RewritesMaybe, RewritesStmt, RewritesElse, RewritesStmts, TransformsStmt, TransformsElse, TransformsStmts}
use Rattle.jr_rewrite.specs.Along.{AlongMaybe, AlongStmt, AlongElse, AlongStmts}
use Rattle.jr_images.specs.Regions.{Region}
use Rattle.jr_images.proofs.Chosen.{left_none, right_none, lost_none}
use Rattle.jr_reference_changes.proofs.FrontsAlong.{at_mark, Chosen, Fronted, AnyType, along}

module _ {A : Type 0} (tells : A → ℕ → Span) (rows : List Row) (R : Region A) (super_at : Context → ℕ) where
  abbrev begins : A → ℕ → ℕ
  begins = at_mark tells rows R super_at

  abbrev Fronts : Context → Context → Role → (base : ℕ) → tree.Exp A → (base' : ℕ) → tree.Exp A → Type 0
  Fronts = Fronted tells rows R super_at

  abbrev Types : Context → Context → (base : ℕ) → tree.TypeName A → (base' : ℕ) → tree.TypeName A → Type 0
  Types = AnyType tells rows R super_at

  abbrev Choices : Choosing A
  Choices = Chosen tells rows R super_at

  pub maybe_along : (c d : Context) (b i : ℕ) (e : Option (tree.Exp A)) (o : Rewritten (Option (tree.Exp A))) → RewritesMaybe tells Choices c b e o → o.losses ≡ []
      → AlongMaybe begins begins Fronts Types c d b i e o.tree
  maybe_along c d b i None o is none = ap (λ (z : Rewritten (Option (tree.Exp A))). z.tree) is
  maybe_along c d b i (Some e) o (p, made, is) none =
      (p.tree, ap (λ (z : Rewritten (Option (tree.Exp A))). z.tree) is, along tells rows R super_at c d value b i e p made (lost_none o (within (λ (x : tree.Exp A). Some x) p) is none))

  mutual
    unfolding TransformsStmt TransformsElse TransformsStmts AlongStmt AlongElse AlongStmts

    pub stmt_along : (n : ℕ) (c d : Context) (b i : ℕ) (x : statement.Stmt A) (q : Rewritten (statement.Stmt A)) → RewritesStmt tells Choices n c b x q → q.losses ≡ []
        → AlongStmt begins begins Fronts Types n c d b i x q.tree
    stmt_along n c d b i (statement.local m f t w e) q (p, v, z, types, declared, inner, is) none =
        let all = lost_none q (joined (λ (u : tree.TypeName A × tree.Word A) x. statement.local m f u.0 u.1 x) (joined (λ u z. (u, z)) p v) z) is none in (
          m,
          p.tree,
          v.tree,
          z.tree,
          ap (λ (y : Rewritten (statement.Stmt A)). y.tree) is,
          tt,
          along tells rows R super_at (in_own c (local_of c n f t w)) (in_own d (local_of d n f p.tree v.tree)) value _ _ e z inner (right_none (p.losses ++ v.losses) z.losses all),
        )
    stmt_along n c d b i (statement.eval m e) q (p, inner, is) none =
        (m, p.tree, ap (λ (y : Rewritten (statement.Stmt A)). y.tree) is, along tells rows R super_at c d role.statement _ _ e p inner (lost_none q (within (λ x. statement.eval m x) p) is none))
    stmt_along n c d b i (statement.branch m e x other) q (p, y, z, inner, one_side, other_side, is) none =
        let all = lost_none q (joined (λ (u : tree.Exp A × statement.Stmt A) v. statement.branch m u.0 u.1 v) (joined (λ u v. (u, v)) p y) z) is none in
        let front = left_none (p.losses ++ y.losses) z.losses all in (
          m,
          p.tree,
          y.tree,
          z.tree,
          ap (λ (y : Rewritten (statement.Stmt A)). y.tree) is,
          along tells rows R super_at c d value _ _ e p inner (left_none p.losses y.losses front),
          stmt_along n c d _ _ x y one_side (right_none p.losses y.losses front),
          else_along (n + locals_in x) c d _ _ other z other_side (right_none (p.losses ++ y.losses) z.losses all),
        )
    stmt_along n c d b i (statement.loop m e x) q (p, y, inner, body, is) none = let all = lost_none q (joined (λ u v. statement.loop m u v) p y) is none in
        (m, p.tree, y.tree, ap (λ (y : Rewritten (statement.Stmt A)). y.tree) is, along tells rows R super_at c d value _ _ e p inner (left_none p.losses y.losses all), stmt_along n c d _ _ x y body (right_none p.losses y.losses all))
    stmt_along n c d b i (statement.return m e) q (p, inner, is) none =
        (m, p.tree, ap (λ (y : Rewritten (statement.Stmt A)). y.tree) is, maybe_along c d _ _ e p inner (lost_none q (within (λ x. statement.return m x) p) is none))
    stmt_along n c d b i (statement.block m body) q (p, inner, is) none =
        (m, p.tree, ap (λ (y : Rewritten (statement.Stmt A)). y.tree) is, stmts_along n c d _ _ body p inner (lost_none q (within (λ x. statement.block m x) p) is none))
    stmt_along n c d b i (statement.sync m e body) q (p, y, inner, rest, is) none = let all = lost_none q (joined (λ u v. statement.sync m u v) p y) is none in
        (m, p.tree, y.tree, ap (λ (y : Rewritten (statement.Stmt A)). y.tree) is, along tells rows R super_at c d value _ _ e p inner (left_none p.losses y.losses all), stmts_along n c d _ _ body y rest (right_none p.losses y.losses all))
    stmt_along n c d b i (statement.empty m) q is none = (m, ap (λ (y : Rewritten (statement.Stmt A)). y.tree) is)

    else_along : (n : ℕ) (c d : Context) (b i : ℕ) (x : statement.Else A) (q : Rewritten (statement.Else A)) → RewritesElse tells Choices n c b x q → q.losses ≡ []
        → AlongElse begins begins Fronts Types n c d b i x q.tree
    else_along n c d b i statement.no_else q is none = ap (λ (y : Rewritten (statement.Else A)). y.tree) is
    else_along n c d b i (statement.otherwise x) q (p, inner, is) none =
        (p.tree, ap (λ (y : Rewritten (statement.Else A)). y.tree) is, stmt_along n c d b i x p inner (lost_none q (within (λ y. statement.otherwise y) p) is none))

    pub stmts_along : (n : ℕ) (c d : Context) (b i : ℕ) (xs : statement.Stmts A) (q : Rewritten (statement.Stmts A)) → RewritesStmts tells Choices n c b xs q → q.losses ≡ []
        → AlongStmts begins begins Fronts Types n c d b i xs q.tree
    stmts_along n c d b i statement.end q is none = ap (λ (y : Rewritten (statement.Stmts A)). y.tree) is
    stmts_along n c d b i (statement.more x xs) q (p, z, inner, rest, is) none = let all = lost_none q (joined (λ y ys. statement.more y ys) p z) is none in (
      p.tree,
      z.tree,
      ap (λ (y : Rewritten (statement.Stmts A)). y.tree) is,
      stmt_along n c d b i x p inner (left_none p.losses z.losses all),
      stmts_along (n + locals_in x) (after n c x) (after n d p.tree) b i xs z rest (right_none p.losses z.losses all),
    )
