-- The pure tree that a Rust tree stands for. No other file knows the constructors that Rattle
-- generates.
use Rattle.std.specs.Prelude.{List, [], ◌∷◌, Option, None, Some, Vec, map, option_map}
use Rattle.std.specs.Global.{Global}
use Rattle.std.specs.declared.boxed.Box.{Box}
use Rattle.jr_ast.specs.declared.names.Ident.{Ident}
use Rattle.jr_ast.specs.declared.parts.Modifier.{Modifier}
use Rattle.jr_ast.specs.declared.parts.Param.{Param}
use Rattle.jr_ast.specs.declared.parts.TypeRef.{TypeRef}
use Rattle.jr_ast.specs.declared.parts.TypeKind.{TypeKind}
use Rattle.jr_ast.specs.declared.parts.TypeKind.TheVariants as type
use Rattle.jr_ast.specs.declared.exprs.Expr.{Expr}
use Rattle.jr_ast.specs.declared.exprs.ExprKind as expr
use Rattle.jr_ast.specs.declared.stmts.Stmt.{Stmt}
use Rattle.jr_ast.specs.declared.stmts.StmtKind as stmt
use Rattle.jr_ast.specs.declared.members.Class.{Class, Class', Row_of-Member, end_of-Member}
use Rattle.jr_ast.specs.declared.members.Class.{more_of-Member}
use Rattle.jr_ast.specs.declared.members.Member.{Member}
use Rattle.jr_ast.specs.declared.members.MemberKind as kind
use Rattle.jr_ast.specs.declared.members.Unit.{Unit}
use Rattle.jr_ast.specs.Tree as tree
use Rattle.jr_ast.specs.StatementTree as statement
use Rattle.jr_ast.specs.MemberTree as member

module _ {A : Type 0} where
  abbrev pub word_of : Ident A → tree.Word A
  word_of i = record { mark = i.mark; text = i.name }

  abbrev pub modifier_of : Modifier A → member.Modifier A
  modifier_of m = record { mark = m.mark; word = m.word }

  abbrev pub type_kind : A → TypeKind A → tree.TypeName A
  type_kind m type.Int = tree.int m
  type_kind m type.Boolean = tree.boolean m
  type_kind m (type.Named outer name) = tree.named m (option_map word_of outer) (word_of name)

  abbrev pub type_of : TypeRef A → tree.TypeName A
  type_of t = type_kind t.mark t.kind

  abbrev pub param_of : Param A → member.Param A
  param_of p = record {
    mark = p.mark;
    is_final = p.is_final;
    type = type_of p.ty;
    name = word_of p.name;
  }

  unfoldable mutual
    pub expr_kind : A → expr.ExprKind A → tree.Exp A
    expr_kind m (expr.Int n) = tree.number m n
    expr_kind m (expr.Bool b) = tree.truth m b
    expr_kind m expr.Null = tree.null m
    expr_kind m (expr.Text n) = tree.string m n
    expr_kind m (expr.Simple i) = tree.name m (word_of i)
    expr_kind m (expr.Field' p n k i) = tree.field m (expr_kind n k) (word_of i)
    expr_kind m (expr.SuperField i) = tree.super_field m (word_of i)
    expr_kind m expr.This = tree.this m
    expr_kind m (expr.ClassLit t) = tree.class_literal m (type_of t)
    expr_kind m (expr.Call' h i shape row) = tree.call m (held_target h) (word_of i) (expr_row row)
    expr_kind m (expr.SuperCall' i shape row) = tree.super_call m (word_of i) (expr_row row)
    expr_kind m (expr.New' t shape row) = tree.create m (type_of t.value) (expr_row row)
    expr_kind m (expr.Paren' p n k) = tree.paren m (expr_kind n k)
    expr_kind m (expr.Cast' t p n k) = tree.cast m (type_of t.value) (expr_kind n k)
    expr_kind m (expr.Unary' op p n k) = tree.unary m op (expr_kind n k)
    expr_kind m (expr.Bump' op p n k) = tree.bump m op (expr_kind n k)
    expr_kind m (expr.Binary' op p n k q n' k') = tree.binary m op (expr_kind n k) (expr_kind n' k')
    expr_kind m (expr.Assign' p n k q n' k') = tree.assign m (expr_kind n k) (expr_kind n' k')
    expr_kind m (expr.Compound' op p n k q n' k') =
        tree.compound m op (expr_kind n k) (expr_kind n' k')

    pub held_target : expr.Held-ExprKind-Call-0 A → tree.Target A
    held_target expr.None' = tree.no_target
    held_target (expr.Some' p n k) = tree.on (expr_kind n k)

    pub expr_row : {c : _} → expr.Row_of-Expr A c → tree.Exps A
    expr_row expr.end_of-Expr = tree.end
    expr_row (expr.more_of-Expr n k rest) = tree.more (expr_kind n k) (expr_row rest)

  abbrev pub expr_of : Expr A → tree.Exp A
  expr_of x = expr_kind x.mark x.kind

  abbrev pub exprs_of : List (Expr A) → tree.Exps A
  exprs_of [] = tree.end
  exprs_of (x ∷ xs) = tree.more (expr_of x) (exprs_of xs)

  -- what a call is made on
  abbrev pub target_of : Option (Box (Expr A) Global) → tree.Target A
  target_of None = tree.no_target
  target_of (Some b) = tree.on (expr_of b.value)

  -- the arguments of a written `super(..)`, if there is one
  abbrev pub args_of : Option (Vec (Expr A) Global) → Option (tree.Exps A)
  args_of args = option_map (λ v. exprs_of v.items) args

  unfoldable mutual
    pub stmt_kind : A → stmt.StmtKind A → statement.Stmt A
    stmt_kind m (stmt.Local f t i x) = statement.local m f (type_of t) (word_of i) (expr_of x)
    stmt_kind m (stmt.Eval x) = statement.eval m (expr_of x)
    stmt_kind m (stmt.If' x p n k h) = statement.branch m (expr_of x) (stmt_kind n k) (held_else h)
    stmt_kind m (stmt.While' x p n k) = statement.loop m (expr_of x) (stmt_kind n k)
    stmt_kind m (stmt.Return x) = statement.return m (option_map expr_of x)
    stmt_kind m (stmt.Block' shape row) = statement.block m (stmt_row row)
    stmt_kind m (stmt.Sync' x shape row) = statement.sync m (expr_of x) (stmt_row row)
    stmt_kind m stmt.Empty = statement.empty m

    pub held_else : stmt.Held-StmtKind-If-2 A → statement.Else A
    held_else stmt.None' = statement.no_else
    held_else (stmt.Some' p n k) = statement.otherwise (stmt_kind n k)

    pub stmt_row : {c : _} → stmt.Row_of-Stmt A c → statement.Stmts A
    stmt_row stmt.end_of-Stmt = statement.end
    stmt_row (stmt.more_of-Stmt n k rest) = statement.more (stmt_kind n k) (stmt_row rest)

  abbrev pub stmt_of : Stmt A → statement.Stmt A
  stmt_of x = stmt_kind x.mark x.kind

  abbrev pub stmts_of : List (Stmt A) → statement.Stmts A
  stmts_of [] = statement.end
  stmts_of (x ∷ xs) = statement.more (stmt_of x) (stmts_of xs)

  -- what stands behind `else`
  abbrev pub else_of : Option (Box (Stmt A) Global) → statement.Else A
  else_of None = statement.no_else
  else_of (Some b) = statement.otherwise (stmt_of b.value)

  unfoldable mutual
    pub member_kind : A → kind.MemberKind A → member.Member A
    member_kind m (kind.Field mods t i x) =
        member.field m (map modifier_of mods.items) (type_of t) (word_of i) (option_map expr_of x)
    member_kind m (kind.Method mods t i ps body) =
        member.method m (map modifier_of mods.items) (option_map type_of t) (word_of i)
        (map param_of ps.items) (stmts_of body.items)
    member_kind m (kind.Ctor mods i ps args body) =
        member.constructor m (map modifier_of mods.items) (word_of i) (map param_of ps.items)
        (args_of args) (stmts_of body.items)
    member_kind m (kind.Inner c) = member.inner m (class_of c)

    pub class_of : Class A → member.Class A
    class_of (Class' m mods i t shape row) =
        member.class m (map modifier_of mods.items) (word_of i) (option_map type_of t)
        (member_row row)

    pub member_row : {c : _} → Row_of-Member A c → member.Members A
    member_row end_of-Member = member.end
    member_row (more_of-Member n k rest) = member.more (member_kind n k) (member_row rest)

  abbrev pub member_of : Member A → member.Member A
  member_of x = member_kind x.mark x.kind

  abbrev pub members_of : List (Member A) → member.Members A
  members_of [] = member.end
  members_of (x ∷ xs) = member.more (member_of x) (members_of xs)

  abbrev pub unit_of : Unit A → member.Unit A
  unit_of u = record {
    mark = u.mark;
    package_name = map word_of u.package.items;
    classes = map class_of u.classes.items;
  }
