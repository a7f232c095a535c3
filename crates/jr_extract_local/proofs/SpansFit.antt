-- Spans fit as marks of a member's sites, wherever its parent begins: by a recursion on its trees, as each place is a
-- span's own.
use Rattle.std.proofs.Common.{ℕ}
use Rattle.std.specs.Prelude.{Option, Some, None}
use Rattle.jr_text.specs.declared.spans.Span.{Span}
use Rattle.jr_ast.specs.Tree as tree
use Rattle.jr_ast.specs.StatementTree as statement
use Rattle.jr_ast.specs.MemberTree as syntax
use Rattle.jr_grammar.specs.Layout.{itself}
use Rattle.jr_expr_sites.specs.Routes.{begins_by}
use Rattle.jr_bind_expr.specs.Fits.{FitsOuter, FitsType, FitsExp, FitsTarget, FitsExps, FitsMaybe, FitsStmt, FitsElse, FitsStmts}
use Rattle.jr_cfg.specs.MemberRoutes.{FitsArgs, FitsSites}

module _ {A : Type 0} (begins : A → ℕ → ℕ) where
  abbrev Any : A → ℕ → Type 0
  Any m base = Unit {0}

  outer : (at : ℕ) (o : Option (tree.Word A)) → FitsOuter Any at o
  outer at None = tt
  outer at (Some w) = tt

  type : (base : ℕ) (t : tree.TypeName A) → FitsType begins Any base t
  type base (tree.int m) = tt
  type base (tree.boolean m) = tt
  type base (tree.named m o w) = (tt, (outer (begins m base) o, tt))

  mutual
    unfolding FitsExp FitsTarget FitsExps

    exp : (base : ℕ) (e : tree.Exp A) → FitsExp begins Any base e
    exp base (tree.number m n) = tt
    exp base (tree.truth m b) = tt
    exp base (tree.null m) = tt
    exp base (tree.string m t) = tt
    exp base (tree.name m w) = (tt, tt)
    exp base (tree.field m e w) = (tt, exp (begins m base) e, tt)
    exp base (tree.super_field m w) = (tt, tt)
    exp base (tree.this m) = tt
    exp base (tree.class_literal m t) = (tt, type (begins m base) t)
    exp base (tree.call m to w args) = (tt, target (begins m base) to, tt, exps (begins m base) args)
    exp base (tree.super_call m w args) = (tt, tt, exps (begins m base) args)
    exp base (tree.create m t args) = (tt, type (begins m base) t, exps (begins m base) args)
    exp base (tree.paren m e) = (tt, exp (begins m base) e)
    exp base (tree.cast m t e) = (tt, type (begins m base) t, exp (begins m base) e)
    exp base (tree.unary m op e) = (tt, exp (begins m base) e)
    exp base (tree.bump m op e) = (tt, exp (begins m base) e)
    exp base (tree.binary m op l r) = (tt, exp (begins m base) l, exp (begins m base) r)
    exp base (tree.assign m l r) = (tt, exp (begins m base) l, exp (begins m base) r)
    exp base (tree.compound m op l r) = (tt, exp (begins m base) l, exp (begins m base) r)

    target : (at : ℕ) (to : tree.Target A) → FitsTarget begins Any at to
    target at tree.no_target = tt
    target at (tree.on e) = exp at e

    exps : (at : ℕ) (es : tree.Exps A) → FitsExps begins Any at es
    exps at tree.end = tt
    exps at (tree.more e es) = (exp at e, exps at es)

  maybe : (at : ℕ) (o : Option (tree.Exp A)) → FitsMaybe begins Any at o
  maybe at None = tt
  maybe at (Some e) = exp at e

  mutual
    unfolding FitsStmt FitsElse FitsStmts

    stmt : (base : ℕ) (s : statement.Stmt A) → FitsStmt begins Any base s
    stmt base (statement.local m f t w e) = (tt, type (begins m base) t, tt, exp (begins m base) e)
    stmt base (statement.eval m e) = (tt, exp (begins m base) e)
    stmt base (statement.branch m e x other) = (tt, exp (begins m base) e, stmt (begins m base) x, otherwise (begins m base) other)
    stmt base (statement.loop m e x) = (tt, exp (begins m base) e, stmt (begins m base) x)
    stmt base (statement.return m e) = (tt, maybe (begins m base) e)
    stmt base (statement.block m body) = (tt, stmts (begins m base) body)
    stmt base (statement.sync m e body) = (tt, exp (begins m base) e, stmts (begins m base) body)
    stmt base (statement.empty m) = tt

    otherwise : (at : ℕ) (s : statement.Else A) → FitsElse begins Any at s
    otherwise at statement.no_else = tt
    otherwise at (statement.otherwise x) = stmt at x

    stmts : (at : ℕ) (ss : statement.Stmts A) → FitsStmts begins Any at ss
    stmts at statement.end = tt
    stmts at (statement.more x xs) = (stmt at x, stmts at xs)

abbrev B : Span → ℕ → ℕ
B = begins_by itself

args_fit : (at : ℕ) (args : Option (tree.Exps Span)) → FitsArgs itself (λ m b. Unit {0}) at args
args_fit at None = tt
args_fit at (Some es) = exps B at es

pub sites_fit : (base : ℕ) (x : syntax.Member Span) → FitsSites itself (λ m b. Unit {0}) base x
sites_fit base (syntax.field m mods t w init) = (tt, tt, maybe B (B m base) init)
sites_fit base (syntax.method m mods t w ps body) = (tt, tt, stmts B (B m base) body)
sites_fit base (syntax.constructor m mods w ps args body) = (tt, tt, args_fit (B m base) args, stmts B (B m base) body)
sites_fit base (syntax.inner m c) = tt
