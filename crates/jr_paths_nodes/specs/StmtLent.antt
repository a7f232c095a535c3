-- What a statement ends as, once a `&mut` into it has ended.
use Rattle.std.specs.Prelude.{◌≡◌, ℕ, List, Option, Vec}
use Rattle.std.specs.Option.{OnSome, option_map}
use Rattle.std.specs.Global.{Global}
use Rattle.std.specs.Borrow.{Fml, RattleType, MutBor, LendsSo}
use Rattle.std.specs.declared.boxed.Box.{Box}
use Rattle.std.specs.contracts.boxed.Box as box
use Rattle.std.specs.contracts.vec.Vec as vec
use Rattle.std.specs.contracts.option.Option as option
use Rattle.std.specs.contracts.alloc.Global as global
use Rattle.std.specs.contracts.impls.GlobalAllocator.TheImpl as global_impl
use Rattle.jr_ast.specs.declared.exprs.Expr.{Expr}
use Rattle.jr_ast.specs.declared.stmts.Stmt.{Stmt}
use Rattle.jr_ast.specs.declared.stmts.StmtKind.{StmtKind}
use Rattle.jr_ast.specs.contracts.exprs.Expr as expr
use Rattle.jr_ast.specs.contracts.stmts.Stmt as stmt
use Rattle.jr_ast.specs.contracts.stmts.StmtKind as stmt_kind
use Rattle.jr_ast.specs.View as view
use Rattle.jr_ast.specs.Nodes as pure
use Rattle.jr_paths_nodes.specs.Reaches.{IsWithin}
use Rattle.jr_paths_nodes.specs.With.{stmt_with_exp, stmt_with_stmt, with_stmt_from, with_node}

module _ (A : RattleType) where
  -- a vector of statements, of which the first is the child of the number `first`
  abbrev pub lends_stmt_among : MutBor (Vec (Stmt A.Denot) Global) → ℕ → ℕ
      → Option (MutBor (Stmt A.Denot)) → Fml
  lends_stmt_among s first number r =
      LendsSo (vec.the_row (stmt.the_row A) global.the_row global_impl.ghosts) (stmt.the_row A) s r
      (λ n w. OnSome r (view.stmts_of n.items
      ≡ with_stmt_from first (view.stmts_of s.now.items) number (view.stmt_of w)))
      (λ n. n.items ≡ s.now.items)

  -- a statement, an expression that may be missing
  abbrev pub lends_held_stmt : MutBor (Option (Box (Stmt A.Denot) Global))
      → Option (MutBor (Stmt A.Denot)) → Fml
  lends_held_stmt s r = LendsSo
      (option.the_row (box.the_row (stmt.the_row A) global.the_row global_impl.ghosts))
      (stmt.the_row A) s r
      (λ n w. OnSome r (option_map (λ (b : Box (Stmt A.Denot) Global). view.stmt_of b.value) n
      ≡ option_map (λ _. view.stmt_of w) s.now))
      (λ n. n ≡ s.now)

  abbrev pub lends_held_expr : MutBor (Option (Expr A.Denot)) → Option (MutBor (Expr A.Denot)) → Fml
  lends_held_expr s r = LendsSo (option.the_row (expr.the_row A)) (expr.the_row A) s r
      (λ n w. OnSome r (option_map view.expr_of n ≡ option_map (λ _. view.expr_of w) s.now))
      (λ n. n ≡ s.now)

  -- a statement, an expression of a statement
  abbrev pub lends_stmt_of_stmt : MutBor (StmtKind A.Denot) → ℕ
      → Option (MutBor (Stmt A.Denot)) → Fml
  lends_stmt_of_stmt s number r = LendsSo (stmt_kind.the_row A) (stmt.the_row A) s r
      (λ n w. OnSome r ((m : A.Denot)
      → view.stmt_kind m n ≡ stmt_with_stmt (view.stmt_kind m s.now) number (view.stmt_of w)))
      (λ n. (m : A.Denot) → view.stmt_kind m n ≡ view.stmt_kind m s.now)

  abbrev pub lends_expr_of_stmt : MutBor (StmtKind A.Denot) → ℕ
      → Option (MutBor (Expr A.Denot)) → Fml
  lends_expr_of_stmt s number r = LendsSo (stmt_kind.the_row A) (expr.the_row A) s r
      (λ n w. OnSome r ((m : A.Denot)
      → view.stmt_kind m n ≡ stmt_with_exp (view.stmt_kind m s.now) number (view.expr_of w)))
      (λ n. (m : A.Denot) → view.stmt_kind m n ≡ view.stmt_kind m s.now)

  -- a statement below a statement
  abbrev pub lends_below_stmt : (reach : ℕ) → MutBor (StmtKind A.Denot) → List ℕ
      → Option (MutBor (Stmt A.Denot)) → Fml
  lends_below_stmt reach s path r = LendsSo (stmt_kind.the_row A) (stmt.the_row A) s r
      (λ n w. OnSome r (IsWithin reach path → (m : A.Denot)
      → pure.stmt (view.stmt_kind m n)
      ≡ with_node (pure.stmt (view.stmt_kind m s.now)) path (pure.stmt (view.stmt_of w))))
      (λ n. IsWithin reach path → (m : A.Denot) → view.stmt_kind m n ≡ view.stmt_kind m s.now)
