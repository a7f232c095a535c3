-- Where there are no names, each tree avoids them.
use Rattle.std.proofs.Common.{◌≡◌, [], Option, Some, None, Bool, true, refl}
use Rattle.std.specs.Prelude.{◌&&◌}
use Rattle.jr_ast.specs.Tree as tree
use Rattle.jr_ast.specs.StatementTree as statement
use Rattle.jr_ast.specs.MemberTree as syntax
use Rattle.jr_mentions.specs.AvoidTests.{avoids_exp, avoids_target, avoids_row, avoids_maybe, avoids_stmt, avoids_else, avoids_stmts, avoids_args, avoids_member, is_no_class}

and_true : (a b : Bool) → a ≡ true → b ≡ true → a && b ≡ true
and_true a b e d = λ i. e i && d i

module _ {A : Type 0} where
  mutual
    unfolding avoids_exp avoids_target avoids_row

    no_exp : (e : tree.Exp A) → avoids_exp [] e ≡ true
    no_exp (tree.number m n) = refl
    no_exp (tree.truth m b) = refl
    no_exp (tree.null m) = refl
    no_exp (tree.string m s) = refl
    no_exp (tree.name m w) = refl
    no_exp (tree.field m e w) = and_true (avoids_exp [] e) true (no_exp e) refl
    no_exp (tree.super_field m w) = refl
    no_exp (tree.this m) = refl
    no_exp (tree.class_literal m t) = refl
    no_exp (tree.call m to w args) = and_true (avoids_target [] to && true) (avoids_row [] args) (and_true (avoids_target [] to) true (no_target to) refl) (no_row args)
    no_exp (tree.super_call m w args) = no_row args
    no_exp (tree.create m t args) = no_row args
    no_exp (tree.paren m e) = no_exp e
    no_exp (tree.cast m t e) = no_exp e
    no_exp (tree.unary m o e) = no_exp e
    no_exp (tree.bump m o e) = no_exp e
    no_exp (tree.binary m o l r) = and_true (avoids_exp [] l) (avoids_exp [] r) (no_exp l) (no_exp r)
    no_exp (tree.assign m l r) = and_true (avoids_exp [] l) (avoids_exp [] r) (no_exp l) (no_exp r)
    no_exp (tree.compound m o l r) = and_true (avoids_exp [] l) (avoids_exp [] r) (no_exp l) (no_exp r)

    no_target : (t : tree.Target A) → avoids_target [] t ≡ true
    no_target tree.no_target = refl
    no_target (tree.on e) = no_exp e

    no_row : (es : tree.Exps A) → avoids_row [] es ≡ true
    no_row tree.end = refl
    no_row (tree.more e es) = and_true (avoids_exp [] e) (avoids_row [] es) (no_exp e) (no_row es)

  no_maybe : (e : Option (tree.Exp A)) → avoids_maybe [] e ≡ true
  no_maybe None = refl
  no_maybe (Some e) = no_exp e

  mutual
    unfolding avoids_stmt avoids_else avoids_stmts

    no_stmt : (x : statement.Stmt A) → avoids_stmt [] x ≡ true
    no_stmt (statement.local m f t w e) = no_exp e
    no_stmt (statement.eval m e) = no_exp e
    no_stmt (statement.branch m e x other) = and_true (avoids_exp [] e && avoids_stmt [] x) (avoids_else [] other) (and_true (avoids_exp [] e) (avoids_stmt [] x) (no_exp e) (no_stmt x)) (no_else other)
    no_stmt (statement.loop m e x) = and_true (avoids_exp [] e) (avoids_stmt [] x) (no_exp e) (no_stmt x)
    no_stmt (statement.return m e) = no_maybe e
    no_stmt (statement.block m body) = no_stmts body
    no_stmt (statement.sync m e body) = and_true (avoids_exp [] e) (avoids_stmts [] body) (no_exp e) (no_stmts body)
    no_stmt (statement.empty m) = refl

    no_else : (x : statement.Else A) → avoids_else [] x ≡ true
    no_else statement.no_else = refl
    no_else (statement.otherwise x) = no_stmt x

    no_stmts : (xs : statement.Stmts A) → avoids_stmts [] xs ≡ true
    no_stmts statement.end = refl
    no_stmts (statement.more x xs) = and_true (avoids_stmt [] x) (avoids_stmts [] xs) (no_stmt x) (no_stmts xs)

  no_args : (args : Option (tree.Exps A)) → avoids_args [] args ≡ true
  no_args None = refl
  no_args (Some args) = no_row args

  pub no_member : (x : syntax.Member A) → avoids_member [] x ≡ is_no_class x
  no_member (syntax.field m mods t w init) = no_maybe init
  no_member (syntax.method m mods t w ps body) = no_stmts body
  no_member (syntax.constructor m mods w ps args body) = and_true (avoids_args [] args) (avoids_stmts [] body) (no_args args) (no_stmts body)
  no_member (syntax.inner m of) = refl
