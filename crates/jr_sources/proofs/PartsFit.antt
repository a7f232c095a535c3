-- Spans fit as marks of members, of what they hold, and of the classes around them.
use Rattle.std.proofs.Common.{ℕ, List, [], ◌∷◌}
use Rattle.std.specs.Prelude.{Option, Some, None}
use Rattle.jr_ast.specs.Tree as tree
use Rattle.jr_ast.specs.StatementTree as statement
use Rattle.jr_ast.specs.MemberTree as syntax
use Rattle.jr_table.specs.Errors.{Part, class_part, member_part}
use Rattle.jr_members.specs.Fitting.{ClassFits, MembersFit, MemberFits, ClassesFit, UnitsFit}
use Rattle.jr_bind_expr.specs.Fits.{FitsOuter, FitsNamed, FitsType, FitsExp, FitsTarget, FitsExps, FitsMaybe, FitsStmt, FitsElse, FitsStmts}
use Rattle.jr_bind_parts.specs.DeclaredTypes.{FitsParams, FitsMaybeType}
use Rattle.jr_bind_parts.specs.Heads.{FitsHead}
use Rattle.jr_bind_parts.specs.PartFits.{FitsMaybeArgs, FitsMember, FitsPart}
use Rattle.jr_bind.specs.Bounds.{FitsWhole}

module _ {A : Type 0} (begins : A → ℕ → ℕ) where
  abbrev Any : A → ℕ → Type 0
  Any m base = Unit {0}

  outer : (at : ℕ) (o : Option (tree.Word A)) → FitsOuter Any at o
  outer at None = tt
  outer at (Some w) = tt

  type : (base : ℕ) (t : tree.TypeName A) → FitsType begins Any base t
  type base (tree.int m) = tt
  type base (tree.boolean m) = tt
  type base (tree.named m o w) = (tt, (outer (begins m base) o, tt))

  mutual
    unfolding FitsExp FitsTarget FitsExps

    exp : (base : ℕ) (e : tree.Exp A) → FitsExp begins Any base e
    exp base (tree.number m n) = tt
    exp base (tree.truth m b) = tt
    exp base (tree.null m) = tt
    exp base (tree.string m t) = tt
    exp base (tree.name m w) = (tt, tt)
    exp base (tree.field m e w) = (tt, exp (begins m base) e, tt)
    exp base (tree.super_field m w) = (tt, tt)
    exp base (tree.this m) = tt
    exp base (tree.class_literal m t) = (tt, type (begins m base) t)
    exp base (tree.call m to w args) = (tt, target (begins m base) to, tt, exps (begins m base) args)
    exp base (tree.super_call m w args) = (tt, tt, exps (begins m base) args)
    exp base (tree.create m t args) = (tt, type (begins m base) t, exps (begins m base) args)
    exp base (tree.paren m e) = (tt, exp (begins m base) e)
    exp base (tree.cast m t e) = (tt, type (begins m base) t, exp (begins m base) e)
    exp base (tree.unary m op e) = (tt, exp (begins m base) e)
    exp base (tree.bump m op e) = (tt, exp (begins m base) e)
    exp base (tree.binary m op l r) = (tt, exp (begins m base) l, exp (begins m base) r)
    exp base (tree.assign m l r) = (tt, exp (begins m base) l, exp (begins m base) r)
    exp base (tree.compound m op l r) = (tt, exp (begins m base) l, exp (begins m base) r)

    target : (at : ℕ) (to : tree.Target A) → FitsTarget begins Any at to
    target at tree.no_target = tt
    target at (tree.on e) = exp at e

    exps : (at : ℕ) (es : tree.Exps A) → FitsExps begins Any at es
    exps at tree.end = tt
    exps at (tree.more e es) = (exp at e, exps at es)

  maybe : (at : ℕ) (o : Option (tree.Exp A)) → FitsMaybe begins Any at o
  maybe at None = tt
  maybe at (Some e) = exp at e

  mutual
    unfolding FitsStmt FitsElse FitsStmts

    stmt : (base : ℕ) (s : statement.Stmt A) → FitsStmt begins Any base s
    stmt base (statement.local m f t w e) = (tt, type (begins m base) t, tt, exp (begins m base) e)
    stmt base (statement.eval m e) = (tt, exp (begins m base) e)
    stmt base (statement.branch m e x other) = (tt, exp (begins m base) e, stmt (begins m base) x, otherwise (begins m base) other)
    stmt base (statement.loop m e x) = (tt, exp (begins m base) e, stmt (begins m base) x)
    stmt base (statement.return m e) = (tt, maybe (begins m base) e)
    stmt base (statement.block m body) = (tt, stmts (begins m base) body)
    stmt base (statement.sync m e body) = (tt, exp (begins m base) e, stmts (begins m base) body)
    stmt base (statement.empty m) = tt

    otherwise : (at : ℕ) (s : statement.Else A) → FitsElse begins Any at s
    otherwise at statement.no_else = tt
    otherwise at (statement.otherwise x) = stmt at x

    stmts : (at : ℕ) (ss : statement.Stmts A) → FitsStmts begins Any at ss
    stmts at statement.end = tt
    stmts at (statement.more x xs) = (stmt at x, stmts at xs)

  params : (at : ℕ) (ps : List (syntax.Param A)) → FitsParams begins Any at ps
  params at [] = tt
  params at (p ∷ ps) = (tt, type (begins p.mark at) p.type, params at ps)

  maybe_type : (at : ℕ) (t : Option (tree.TypeName A)) → FitsMaybeType begins Any at t
  maybe_type at None = tt
  maybe_type at (Some t) = type at t

  maybe_args : (at : ℕ) (args : Option (tree.Exps A)) → FitsMaybeArgs begins Any at args
  maybe_args at None = tt
  maybe_args at (Some es) = exps at es

  member : (base : ℕ) (x : syntax.Member A) → FitsMember begins Any base x
  member base (syntax.field m mods t w init) = (tt, type (begins m base) t, maybe (begins m base) init)
  member base (syntax.method m mods t w ps body) = (tt, maybe_type (begins m base) t, tt, params (begins m base) ps, stmts (begins m base) body)
  member base (syntax.constructor m mods w ps args body) = (tt, tt, params (begins m base) ps, maybe_args (begins m base) args, stmts (begins m base) body)
  member base (syntax.inner m of) = tt

  part : (base : ℕ) (p : Part A) → FitsPart begins Any base p
  part base (class_part (syntax.class m mods w t ms)) = (tt, tt, maybe_type (begins m base) t)
  part base (member_part x) = member base x

  pub whole_fits : (base : ℕ) (p : Part A) → FitsWhole begins Any base p
  whole_fits base p = (tt, part base p)

  -- ---- where members are gathered
  mutual
    unfolding ClassFits MembersFit MemberFits

    class_fits : (base : ℕ) (c : syntax.Class A) → ClassFits begins Any base c
    class_fits base (syntax.class m mods w t ms) = (tt, members_fit (begins m base) ms)

    members_fit : (base : ℕ) (ds : syntax.Members A) → MembersFit begins Any base ds
    members_fit base syntax.end = tt
    members_fit base (syntax.more d ds) = (member_fits base d, members_fit base ds)

    member_fits : (base : ℕ) (d : syntax.Member A) → MemberFits begins Any base d
    member_fits base (syntax.field m mods t w init) = tt
    member_fits base (syntax.method m mods t w ps body) = tt
    member_fits base (syntax.constructor m mods w ps args body) = tt
    member_fits base (syntax.inner m c) = (tt, class_fits (begins m base) c)

  classes_fit : (base : ℕ) (cs : List (syntax.Class A)) → ClassesFit begins Any base cs
  classes_fit base [] = tt
  classes_fit base (c ∷ cs) = (class_fits base c, classes_fit base cs)

  pub units_gathered : (us : List (syntax.Unit A)) → UnitsFit begins Any us
  units_gathered [] = tt
  units_gathered (u ∷ us) = ((tt, classes_fit (begins u.mark 0) u.classes), units_gathered us)
