-- What a tree ends as, once a `&mut` to the node at the end of a path has ended: with that node
-- replaced by the last value behind the reference, or as before where nothing was lent.
use Rattle.std.specs.Prelude.{◌≡◌, ℕ, List, Option}
use Rattle.std.specs.Option.{OnSome}
use Rattle.std.specs.Borrow.{Fml, RattleType, MutBor, LendsSo}
use Rattle.jr_ast.specs.declared.exprs.Expr.{Expr}
use Rattle.jr_ast.specs.declared.stmts.Stmt.{Stmt}
use Rattle.jr_ast.specs.declared.stmts.StmtKind.{StmtKind}
use Rattle.jr_ast.specs.declared.members.MemberKind.{MemberKind}
use Rattle.jr_ast.specs.declared.members.Member.{Member}
use Rattle.jr_ast.specs.declared.members.Unit.{Unit}
use Rattle.jr_ast.specs.contracts.members.Member as member
use Rattle.jr_ast.specs.contracts.members.Unit as unit
use Rattle.jr_ast.specs.contracts.exprs.Expr as expr
use Rattle.jr_ast.specs.contracts.stmts.Stmt as stmt
use Rattle.jr_ast.specs.contracts.stmts.StmtKind as stmt_kind
use Rattle.jr_ast.specs.contracts.members.MemberKind as member_kind
use Rattle.jr_ast.specs.MemberTree as declared
use Rattle.jr_ast.specs.View as view
use Rattle.jr_ast.specs.Nodes as pure
use Rattle.jr_paths_nodes.specs.With.{with_node}

module _ (A : RattleType) where
  abbrev pub lends_expr_below_stmt : MutBor (StmtKind A.Denot) → List ℕ
      → Option (MutBor (Expr A.Denot)) → Fml
  lends_expr_below_stmt s path r = LendsSo (stmt_kind.the_row A) (expr.the_row A) s r
      (λ n w. OnSome r ((m : A.Denot)
      → pure.stmt (view.stmt_kind m n)
      ≡ with_node (pure.stmt (view.stmt_kind m s.now)) path (pure.exp (view.expr_of w))))
      (λ n. (m : A.Denot) → view.stmt_kind m n ≡ view.stmt_kind m s.now)

  abbrev pub lends_expr_below_member : MutBor (MemberKind A.Denot) → List ℕ
      → Option (MutBor (Expr A.Denot)) → Fml
  lends_expr_below_member s path r = LendsSo (member_kind.the_row A) (expr.the_row A) s r
      (λ n w. OnSome r ((m : A.Denot)
      → pure.member (view.member_kind m n)
      ≡ with_node (pure.member (view.member_kind m s.now)) path (pure.exp (view.expr_of w))))
      (λ n. (m : A.Denot) → view.member_kind m n ≡ view.member_kind m s.now)

  abbrev pub lends_stmt_below_member : MutBor (MemberKind A.Denot) → List ℕ
      → Option (MutBor (Stmt A.Denot)) → Fml
  lends_stmt_below_member s path r = LendsSo (member_kind.the_row A) (stmt.the_row A) s r
      (λ n w. OnSome r ((m : A.Denot)
      → pure.member (view.member_kind m n)
      ≡ with_node (pure.member (view.member_kind m s.now)) path (pure.stmt (view.stmt_of w))))
      (λ n. (m : A.Denot) → view.member_kind m n ≡ view.member_kind m s.now)

  abbrev pub lends_member_below_unit : MutBor (Unit A.Denot) → List ℕ
      → Option (MutBor (Member A.Denot)) → Fml
  lends_member_below_unit s path r = LendsSo (unit.the_row A) (member.the_row A) s r
      (λ n w. OnSome r (pure.unit (view.unit_of n)
      ≡ with_node (pure.unit (view.unit_of s.now)) path (pure.member (view.member_of w))))
      (λ n. view.unit_of n ≡ view.unit_of s.now)

-- of what `whole` tells the tree of
module _ (S A : RattleType) (whole : S.Denot → declared.Unit A.Denot) where
  abbrev pub lends_member_at : MutBor S.Denot → List ℕ → Option (MutBor (Member A.Denot)) → Fml
  lends_member_at s path r = LendsSo S (member.the_row A) s r
      (λ n w. OnSome r (pure.unit (whole n)
      ≡ with_node (pure.unit (whole s.now)) path (pure.member (view.member_of w))))
      (λ n. whole n ≡ whole s.now)

  abbrev pub lends_stmt_at : MutBor S.Denot → List ℕ → Option (MutBor (Stmt A.Denot)) → Fml
  lends_stmt_at s path r = LendsSo S (stmt.the_row A) s r
      (λ n w. OnSome r (pure.unit (whole n)
      ≡ with_node (pure.unit (whole s.now)) path (pure.stmt (view.stmt_of w))))
      (λ n. whole n ≡ whole s.now)

  abbrev pub lends_expr_at : MutBor S.Denot → List ℕ → Option (MutBor (Expr A.Denot)) → Fml
  lends_expr_at s path r = LendsSo S (expr.the_row A) s r
      (λ n w. OnSome r (pure.unit (whole n)
      ≡ with_node (pure.unit (whole s.now)) path (pure.exp (view.expr_of w))))
      (λ n. whole n ≡ whole s.now)
