-- What a tree ends as, once a `&mut` into it has ended.
use Rattle.std.specs.Prelude.{◌≡◌, ℕ, List, Option, Vec}
use Rattle.std.specs.Option.{OnSome, option_map}
use Rattle.std.specs.Global.{Global}
use Rattle.std.specs.Borrow.{Fml, RattleType, MutBor, LendsSo}
use Rattle.std.specs.declared.boxed.Box.{Box}
use Rattle.std.specs.contracts.boxed.Box as box
use Rattle.std.specs.contracts.vec.Vec as vec
use Rattle.std.specs.contracts.option.Option as option
use Rattle.std.specs.contracts.alloc.Global as global
use Rattle.std.specs.contracts.impls.GlobalAllocator.TheImpl as global_impl
use Rattle.jr_ast.specs.declared.exprs.Expr.{Expr}
use Rattle.jr_ast.specs.declared.exprs.ExprKind.{ExprKind}
use Rattle.jr_ast.specs.contracts.exprs.Expr as expr
use Rattle.jr_ast.specs.contracts.exprs.ExprKind as expr_kind
use Rattle.jr_ast.specs.View as view
use Rattle.jr_ast.specs.Nodes as pure
use Rattle.jr_paths_nodes.specs.Reaches.{IsWithin}
use Rattle.jr_paths_nodes.specs.With.{with_exp, with_exp_from, with_node}

module _ (A : RattleType) where
  -- a vector of expressions, of which the first is the child of the number `first`
  abbrev pub lends_expr_among : MutBor (Vec (Expr A.Denot) Global) → ℕ → ℕ
      → Option (MutBor (Expr A.Denot)) → Fml
  lends_expr_among s first number r =
      LendsSo (vec.the_row (expr.the_row A) global.the_row global_impl.ghosts) (expr.the_row A) s r
      (λ n w. OnSome r (view.exprs_of n.items
      ≡ with_exp_from first (view.exprs_of s.now.items) number (view.expr_of w)))
      (λ n. n.items ≡ s.now.items)

  -- an expression that may be missing
  abbrev pub lends_held : MutBor (Option (Box (Expr A.Denot) Global))
      → Option (MutBor (Expr A.Denot)) → Fml
  lends_held s r = LendsSo
      (option.the_row (box.the_row (expr.the_row A) global.the_row global_impl.ghosts))
      (expr.the_row A) s r
      (λ n w. OnSome r (option_map (λ (b : Box (Expr A.Denot) Global). view.expr_of b.value) n
      ≡ option_map (λ _. view.expr_of w) s.now))
      (λ n. n ≡ s.now)

  -- an expression of an expression
  abbrev pub lends_expr_of_expr : MutBor (ExprKind A.Denot) → ℕ
      → Option (MutBor (Expr A.Denot)) → Fml
  lends_expr_of_expr s number r = LendsSo (expr_kind.the_row A) (expr.the_row A) s r
      (λ n w. OnSome r ((m : A.Denot)
      → view.expr_kind m n ≡ with_exp (view.expr_kind m s.now) number (view.expr_of w)))
      (λ n. (m : A.Denot) → view.expr_kind m n ≡ view.expr_kind m s.now)

  -- an expression below an expression
  abbrev pub lends_below_expr : (reach : ℕ) → MutBor (ExprKind A.Denot) → List ℕ
      → Option (MutBor (Expr A.Denot)) → Fml
  lends_below_expr reach s path r = LendsSo (expr_kind.the_row A) (expr.the_row A) s r
      (λ n w. OnSome r (IsWithin reach path → (m : A.Denot)
      → pure.exp (view.expr_kind m n)
      ≡ with_node (pure.exp (view.expr_kind m s.now)) path (pure.exp (view.expr_of w))))
      (λ n. IsWithin reach path → (m : A.Denot) → view.expr_kind m n ≡ view.expr_kind m s.now)
