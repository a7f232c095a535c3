-- When the places of a tree's nodes fit: each mark does where its parent begins.
use Rattle.std.specs.Prelude.{ℕ, Option, Some, None}
use Rattle.jr_ast.specs.Tree as tree
use Rattle.jr_ast.specs.StatementTree as statement

module _ {A : Type 0} (Fits : A → ℕ → Type 0) where
  abbrev pub FitsOuter : (at : ℕ) → Option (tree.Word A) → Type 0
  FitsOuter at None = Unit {0}
  FitsOuter at (Some w) = Fits w.mark at

  abbrev pub FitsNamed : (at : ℕ) → Option (tree.Word A) → tree.Word A → Type 0
  FitsNamed at outer w = FitsOuter at outer × Fits w.mark at

-- `begins m base` is the first byte of a node with the mark m whose parent begins at base
module _ {A : Type 0} (begins : A → ℕ → ℕ) (Fits : A → ℕ → Type 0) where
  abbrev pub FitsType : (base : ℕ) → tree.TypeName A → Type 0
  FitsType base (tree.int m) = Fits m base
  FitsType base (tree.boolean m) = Fits m base
  FitsType base (tree.named m outer w) = Fits m base × FitsNamed Fits (begins m base) outer w

  unfoldable mutual
    pub FitsExp : (base : ℕ) → tree.Exp A → Type 0
    FitsExp base (tree.number m n) = Fits m base
    FitsExp base (tree.truth m b) = Fits m base
    FitsExp base (tree.null m) = Fits m base
    FitsExp base (tree.string m t) = Fits m base
    FitsExp base (tree.name m w) = Fits m base × Fits w.mark (begins m base)
    FitsExp base (tree.field m e w) =
        Fits m base × FitsExp (begins m base) e × Fits w.mark (begins m base)
    FitsExp base (tree.super_field m w) = Fits m base × Fits w.mark (begins m base)
    FitsExp base (tree.this m) = Fits m base
    FitsExp base (tree.class_literal m t) = Fits m base × FitsType (begins m base) t
    FitsExp base (tree.call m to w args) = Fits m base × FitsTarget (begins m base) to
        × Fits w.mark (begins m base) × FitsExps (begins m base) args
    FitsExp base (tree.super_call m w args) =
        Fits m base × Fits w.mark (begins m base) × FitsExps (begins m base) args
    FitsExp base (tree.create m t args) =
        Fits m base × FitsType (begins m base) t × FitsExps (begins m base) args
    FitsExp base (tree.paren m e) = Fits m base × FitsExp (begins m base) e
    FitsExp base (tree.cast m t e) =
        Fits m base × FitsType (begins m base) t × FitsExp (begins m base) e
    FitsExp base (tree.unary m op e) = Fits m base × FitsExp (begins m base) e
    FitsExp base (tree.bump m op e) = Fits m base × FitsExp (begins m base) e
    FitsExp base (tree.binary m op l r) =
        Fits m base × FitsExp (begins m base) l × FitsExp (begins m base) r
    FitsExp base (tree.assign m l r) =
        Fits m base × FitsExp (begins m base) l × FitsExp (begins m base) r
    FitsExp base (tree.compound m op l r) =
        Fits m base × FitsExp (begins m base) l × FitsExp (begins m base) r

    pub FitsTarget : (at : ℕ) → tree.Target A → Type 0
    FitsTarget at tree.no_target = Unit {0}
    FitsTarget at (tree.on e) = FitsExp at e

    pub FitsExps : (at : ℕ) → tree.Exps A → Type 0
    FitsExps at tree.end = Unit {0}
    FitsExps at (tree.more e es) = FitsExp at e × FitsExps at es

  abbrev pub FitsMaybe : (at : ℕ) → Option (tree.Exp A) → Type 0
  FitsMaybe at None = Unit {0}
  FitsMaybe at (Some e) = FitsExp at e

  unfoldable mutual
    pub FitsStmt : (base : ℕ) → statement.Stmt A → Type 0
    FitsStmt base (statement.local m f t w e) = Fits m base × FitsType (begins m base) t
        × Fits w.mark (begins m base) × FitsExp (begins m base) e
    FitsStmt base (statement.eval m e) = Fits m base × FitsExp (begins m base) e
    FitsStmt base (statement.branch m e x other) = Fits m base × FitsExp (begins m base) e
        × FitsStmt (begins m base) x × FitsElse (begins m base) other
    FitsStmt base (statement.loop m e x) =
        Fits m base × FitsExp (begins m base) e × FitsStmt (begins m base) x
    FitsStmt base (statement.return m e) = Fits m base × FitsMaybe (begins m base) e
    FitsStmt base (statement.block m body) = Fits m base × FitsStmts (begins m base) body
    FitsStmt base (statement.sync m e body) =
        Fits m base × FitsExp (begins m base) e × FitsStmts (begins m base) body
    FitsStmt base (statement.empty m) = Fits m base

    pub FitsElse : (at : ℕ) → statement.Else A → Type 0
    FitsElse at statement.no_else = Unit {0}
    FitsElse at (statement.otherwise x) = FitsStmt at x

    pub FitsStmts : (at : ℕ) → statement.Stmts A → Type 0
    FitsStmts at statement.end = Unit {0}
    FitsStmts at (statement.more x xs) = FitsStmt at x × FitsStmts at xs
