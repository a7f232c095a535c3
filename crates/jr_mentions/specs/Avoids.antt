-- Trees that refer to no variable and call no method by one of these names.
use Rattle.std.specs.Prelude.{ℕ, List, Option, Some, None}
use Rattle.jr_ast.specs.Tree as tree
use Rattle.jr_ast.specs.StatementTree as statement
use Rattle.jr_ast.specs.MemberTree as syntax
use Rattle.jr_table.specs.Errors.{Part, class_part, member_part}
use Rattle.jr_mentions.specs.Apart.{IsOther}

module _ {A : Type 0} (names : List (List ℕ)) where
  unfoldable mutual
    pub AvoidsExp : tree.Exp A → Type 0
    AvoidsExp (tree.number m n) = Unit {0}
    AvoidsExp (tree.truth m b) = Unit {0}
    AvoidsExp (tree.null m) = Unit {0}
    AvoidsExp (tree.string m s) = Unit {0}
    AvoidsExp (tree.name m w) = IsOther names w.text
    AvoidsExp (tree.field m e w) = AvoidsExp e × IsOther names w.text
    AvoidsExp (tree.super_field m w) = IsOther names w.text
    AvoidsExp (tree.this m) = Unit {0}
    AvoidsExp (tree.class_literal m t) = Unit {0}
    AvoidsExp (tree.call m to w args) =
        AvoidsTarget to × IsOther names w.text × AvoidsRow args
    AvoidsExp (tree.super_call m w args) = IsOther names w.text × AvoidsRow args
    AvoidsExp (tree.create m t args) = AvoidsRow args
    AvoidsExp (tree.paren m e) = AvoidsExp e
    AvoidsExp (tree.cast m t e) = AvoidsExp e
    AvoidsExp (tree.unary m o e) = AvoidsExp e
    AvoidsExp (tree.bump m o e) = AvoidsExp e
    AvoidsExp (tree.binary m o l r) = AvoidsExp l × AvoidsExp r
    AvoidsExp (tree.assign m l r) = AvoidsExp l × AvoidsExp r
    AvoidsExp (tree.compound m o l r) = AvoidsExp l × AvoidsExp r

    pub AvoidsTarget : tree.Target A → Type 0
    AvoidsTarget tree.no_target = Unit {0}
    AvoidsTarget (tree.on e) = AvoidsExp e

    pub AvoidsRow : tree.Exps A → Type 0
    AvoidsRow tree.end = Unit {0}
    AvoidsRow (tree.more e es) = AvoidsExp e × AvoidsRow es

  abbrev pub AvoidsMaybe : Option (tree.Exp A) → Type 0
  AvoidsMaybe None = Unit {0}
  AvoidsMaybe (Some e) = AvoidsExp e

  unfoldable mutual
    pub AvoidsStmt : statement.Stmt A → Type 0
    AvoidsStmt (statement.local m f t w e) = AvoidsExp e
    AvoidsStmt (statement.eval m e) = AvoidsExp e
    AvoidsStmt (statement.branch m e x other) = AvoidsExp e × AvoidsStmt x × AvoidsElse other
    AvoidsStmt (statement.loop m e x) = AvoidsExp e × AvoidsStmt x
    AvoidsStmt (statement.return m e) = AvoidsMaybe e
    AvoidsStmt (statement.block m body) = AvoidsStmts body
    AvoidsStmt (statement.sync m e body) = AvoidsExp e × AvoidsStmts body
    AvoidsStmt (statement.empty m) = Unit {0}

    pub AvoidsElse : statement.Else A → Type 0
    AvoidsElse statement.no_else = Unit {0}
    AvoidsElse (statement.otherwise x) = AvoidsStmt x

    pub AvoidsStmts : statement.Stmts A → Type 0
    AvoidsStmts statement.end = Unit {0}
    AvoidsStmts (statement.more x xs) = AvoidsStmt x × AvoidsStmts xs

  abbrev pub AvoidsArgs : Option (tree.Exps A) → Type 0
  AvoidsArgs None = Unit {0}
  AvoidsArgs (Some args) = AvoidsRow args

  abbrev pub AvoidsMember : syntax.Member A → Type 0
  AvoidsMember (syntax.field m mods t w init) = AvoidsMaybe init
  AvoidsMember (syntax.method m mods t w ps body) = AvoidsStmts body
  AvoidsMember (syntax.constructor m mods w ps args body) = AvoidsArgs args × AvoidsStmts body
  -- a member class is a part of its own
  AvoidsMember (syntax.inner m of) = ⊥

  -- the head of a class names classes alone
  abbrev pub AvoidsPart : Part A → Type 0
  AvoidsPart (class_part c) = Unit {0}
  AvoidsPart (member_part x) = AvoidsMember x
