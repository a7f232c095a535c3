-- The tests of rows of arguments and of statements, as tests of each.
use Rattle.std.proofs.Common.{◌≡◌, ℕ, ◌∷◌, [], List, Bool, true, refl}
use Rattle.std.specs.Prelude.{◌&&◌}
use Rattle.jr_ast.specs.declared.exprs.Expr.{Expr}
use Rattle.jr_ast.specs.declared.stmts.Stmt.{Stmt}
use Rattle.jr_ast.specs.View.{expr_of, exprs_of, stmt_of, stmts_of}
use Rattle.jr_mentions.specs.AvoidTests.{avoids_exp, avoids_target, avoids_row, avoids_stmt, avoids_else, avoids_stmts}

module _ (A : Type 0) (names : List (List ℕ)) where
  abbrev pub expr_test : Expr A → Bool
  expr_test x = avoids_exp names (expr_of x)

  abbrev pub exprs_test : List (Expr A) → Bool
  exprs_test xs = avoids_row names (exprs_of xs)

  abbrev pub stmt_test : Stmt A → Bool
  stmt_test x = avoids_stmt names (stmt_of x)

  abbrev pub stmts_test : List (Stmt A) → Bool
  stmts_test xs = avoids_stmts names (stmts_of xs)

  pub no_exprs : exprs_test [] ≡ true
  unfolding avoids_exp avoids_target avoids_row
  no_exprs = refl

  pub more_exprs : (x : Expr A) (xs : List (Expr A)) → exprs_test (x ∷ xs) ≡ (expr_test x && exprs_test xs)
  unfolding avoids_exp avoids_target avoids_row
  more_exprs x xs = refl

  pub no_stmts : stmts_test [] ≡ true
  unfolding avoids_stmt avoids_else avoids_stmts
  no_stmts = refl

  pub more_stmts : (x : Stmt A) (xs : List (Stmt A)) → stmts_test (x ∷ xs) ≡ (stmt_test x && stmts_test xs)
  unfolding avoids_stmt avoids_else avoids_stmts
  more_stmts x xs = refl
