-- Whether a tree refers to no variable and calls no method by one of these names, as a test.
use Rattle.std.specs.Prelude.{ℕ, List, Option, Some, None, Bool, true, false, ◌&&◌, not}
use Rattle.jr_ast.specs.Tree as tree
use Rattle.jr_ast.specs.StatementTree as statement
use Rattle.jr_ast.specs.MemberTree as syntax
use Rattle.jr_mentions.specs.Apart.{is_among}

-- a member class is a part of its own
abbrev pub is_no_class : {A : Type 0} → syntax.Member A → Bool
is_no_class (syntax.field m mods t w init) = true
is_no_class (syntax.method m mods t w ps body) = true
is_no_class (syntax.constructor m mods w ps args body) = true
is_no_class (syntax.inner m of) = false

module _ {A : Type 0} (names : List (List ℕ)) where
  abbrev pub is_other : tree.Word A → Bool
  is_other w = not (is_among names w.text)

  unfoldable mutual
    pub avoids_exp : tree.Exp A → Bool
    avoids_exp (tree.number m n) = true
    avoids_exp (tree.truth m b) = true
    avoids_exp (tree.null m) = true
    avoids_exp (tree.string m s) = true
    avoids_exp (tree.name m w) = is_other w
    avoids_exp (tree.field m e w) = avoids_exp e && is_other w
    avoids_exp (tree.super_field m w) = is_other w
    avoids_exp (tree.this m) = true
    avoids_exp (tree.class_literal m t) = true
    avoids_exp (tree.call m to w args) = avoids_target to && is_other w && avoids_row args
    avoids_exp (tree.super_call m w args) = is_other w && avoids_row args
    avoids_exp (tree.create m t args) = avoids_row args
    avoids_exp (tree.paren m e) = avoids_exp e
    avoids_exp (tree.cast m t e) = avoids_exp e
    avoids_exp (tree.unary m o e) = avoids_exp e
    avoids_exp (tree.bump m o e) = avoids_exp e
    avoids_exp (tree.binary m o l r) = avoids_exp l && avoids_exp r
    avoids_exp (tree.assign m l r) = avoids_exp l && avoids_exp r
    avoids_exp (tree.compound m o l r) = avoids_exp l && avoids_exp r

    pub avoids_target : tree.Target A → Bool
    avoids_target tree.no_target = true
    avoids_target (tree.on e) = avoids_exp e

    pub avoids_row : tree.Exps A → Bool
    avoids_row tree.end = true
    avoids_row (tree.more e es) = avoids_exp e && avoids_row es

  abbrev pub avoids_maybe : Option (tree.Exp A) → Bool
  avoids_maybe None = true
  avoids_maybe (Some e) = avoids_exp e

  unfoldable mutual
    pub avoids_stmt : statement.Stmt A → Bool
    avoids_stmt (statement.local m f t w e) = avoids_exp e
    avoids_stmt (statement.eval m e) = avoids_exp e
    avoids_stmt (statement.branch m e x other) = avoids_exp e && avoids_stmt x && avoids_else other
    avoids_stmt (statement.loop m e x) = avoids_exp e && avoids_stmt x
    avoids_stmt (statement.return m e) = avoids_maybe e
    avoids_stmt (statement.block m body) = avoids_stmts body
    avoids_stmt (statement.sync m e body) = avoids_exp e && avoids_stmts body
    avoids_stmt (statement.empty m) = true

    pub avoids_else : statement.Else A → Bool
    avoids_else statement.no_else = true
    avoids_else (statement.otherwise x) = avoids_stmt x

    pub avoids_stmts : statement.Stmts A → Bool
    avoids_stmts statement.end = true
    avoids_stmts (statement.more x xs) = avoids_stmt x && avoids_stmts xs

  abbrev pub avoids_args : Option (tree.Exps A) → Bool
  avoids_args None = true
  avoids_args (Some args) = avoids_row args

  abbrev pub avoids_member : syntax.Member A → Bool
  avoids_member (syntax.field m mods t w init) = avoids_maybe init
  avoids_member (syntax.method m mods t w ps body) = avoids_stmts body
  avoids_member (syntax.constructor m mods w ps args body) = avoids_args args && avoids_stmts body
  avoids_member (syntax.inner m of) = false
