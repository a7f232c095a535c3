-- Children as lists, and the marks of views.
use Rattle.std.proofs.Common.{◌≡◌, refl, sym, ap, ◌∙◌, Vec, Global, Option, Some, None, map, option_map}
use Rattle.std.specs.declared.boxed.Box.{Box}
use Rattle.jr_ast.specs.declared.names.Ident.{Ident}
use Rattle.jr_ast.specs.declared.parts.TypeRef.{TypeRef}
use Rattle.jr_ast.specs.declared.exprs.Expr.{Expr}
use Rattle.jr_ast.specs.declared.exprs.ExprKind as expr
use Rattle.jr_ast.specs.declared.stmts.Stmt.{Stmt}
use Rattle.jr_ast.specs.declared.stmts.StmtKind as stmt
use Rattle.jr_ast.specs.declared.members.Class.{Class, Class', roll-Class, out-Class, Row_of-Member, end_of-Member, more_of-Member, items-the_row-Member, items_hidden-the_row-Member-0, items_shown-the_row-Member-0}
use Rattle.jr_ast.specs.declared.members.Member.{Member}
use Rattle.jr_ast.specs.declared.members.MemberKind as kind
use Rattle.jr_ast.specs.declared.parts.Modifier.{Modifier}
use Rattle.jr_ast.specs.declared.members.MemberKind.TheBlock as block
use denote.Hole.Carrier.{roll, out}
use Rattle.jr_ast.specs.Marks.{exp_mark, stmt_mark, member_mark}
use Rattle.jr_ast.specs.Tree as tree
use Rattle.jr_ast.specs.StatementTree as statement
use Rattle.jr_ast.specs.MemberTree as member
use Rattle.jr_ast.specs.View.{word_of, modifier_of, type_of, expr_of, expr_kind, expr_row, held_target, target_of, exprs_of, stmt_of, stmt_kind, stmt_row, held_else, else_of, stmts_of, class_of, member_of, member_kind, member_row, members_of}

module _ (A : Type 0) where
  pub expr_row-list : (n : _) (row : expr.Row_of-Expr A n) → expr_row row ≡ exprs_of (expr.items-the_row-Expr A n row)
  unfolding expr_kind expr_row held_target
  expr_row-list n expr.end_of-Expr = refl
  expr_row-list n (expr.more_of-Expr m k rest) = ap (tree.more (expr_kind m k)) (expr_row-list _ rest)

  abbrev exprs_in : expr.ExprKind A → (n : _) × expr.Row_of-Expr A n
  exprs_in (expr.Call' h i shape row) = (_, row)
  exprs_in (expr.SuperCall' i shape row) = (_, row)
  exprs_in (expr.New' t shape row) = (_, row)
  exprs_in _ = (_, expr.end_of-Expr)

  -- `expr_kind` at the variants that hold a `Vec`
  pub expr_kind-Call : (m : A) (i : Ident A) (args : Vec (Expr A) Global) → expr_kind m (expr.Call None i args) ≡ tree.call m tree.no_target (word_of i) (exprs_of args.items)
  unfolding expr_kind expr_row held_target
  expr_kind-Call m i args =
      let row = exprs_in (expr.Call None i args) in
      ap (tree.call m tree.no_target (word_of i)) (expr_row-list row.0 row.1 ∙ ap exprs_of (expr.items_hidden-the_row-Expr-0 A args))

  pub expr_kind-Call_on : (m : A) (b : Box (Expr A) Global) (i : Ident A) (args : Vec (Expr A) Global)
      → expr_kind m (expr.Call (Some b) i args) ≡ tree.call m (tree.on (expr_of b.value)) (word_of i) (exprs_of args.items)
  unfolding expr_kind expr_row held_target
  expr_kind-Call_on m b i args =
      let row = exprs_in (expr.Call (Some b) i args) in
      ap (tree.call m (tree.on (expr_of b.value)) (word_of i)) (expr_row-list row.0 row.1 ∙ ap exprs_of (expr.items_hidden-the_row-Expr-0 A args))

  pub expr_kind-Call_to : (m : A) (o : Option (Box (Expr A) Global)) (i : Ident A) (args : Vec (Expr A) Global) → expr_kind m (expr.Call o i args) ≡ tree.call m (target_of o) (word_of i) (exprs_of args.items)
  expr_kind-Call_to m None i args = expr_kind-Call m i args
  expr_kind-Call_to m (Some b) i args = expr_kind-Call_on m b i args

  pub expr_kind-SuperCall : (m : A) (i : Ident A) (args : Vec (Expr A) Global) → expr_kind m (expr.SuperCall i args) ≡ tree.super_call m (word_of i) (exprs_of args.items)
  unfolding expr_kind expr_row held_target
  expr_kind-SuperCall m i args =
      let row = exprs_in (expr.SuperCall i args) in
      ap (tree.super_call m (word_of i)) (expr_row-list row.0 row.1 ∙ ap exprs_of (expr.items_hidden-the_row-Expr-0 A args))

  pub expr_kind-New : (m : A) (t : Box (TypeRef A) Global) (args : Vec (Expr A) Global) → expr_kind m (expr.New t args) ≡ tree.create m (type_of t.value) (exprs_of args.items)
  unfolding expr_kind expr_row held_target
  expr_kind-New m t args =
      let row = exprs_in (expr.New t args) in
      ap (tree.create m (type_of t.value)) (expr_row-list row.0 row.1 ∙ ap exprs_of (expr.items_hidden-the_row-Expr-0 A args))

  pub stmt_row-list : (n : _) (row : stmt.Row_of-Stmt A n) → stmt_row row ≡ stmts_of (stmt.items-the_row-Stmt A n row)
  unfolding stmt_kind stmt_row held_else
  stmt_row-list n stmt.end_of-Stmt = refl
  stmt_row-list n (stmt.more_of-Stmt m k rest) = ap (statement.more (stmt_kind m k)) (stmt_row-list _ rest)

  abbrev stmts_in : stmt.StmtKind A → (n : _) × stmt.Row_of-Stmt A n
  stmts_in (stmt.Block' shape row) = (_, row)
  stmts_in (stmt.Sync' x shape row) = (_, row)
  stmts_in _ = (_, stmt.end_of-Stmt)

  pub stmt_kind-If : (m : A) (x : Expr A) (body : Box (Stmt A) Global) (other : Option (Box (Stmt A) Global)) → stmt_kind m (stmt.If x body other) ≡ statement.branch m (expr_of x) (stmt_of body.value) (else_of other)
  unfolding stmt_kind stmt_row held_else
  stmt_kind-If m x body None = refl
  stmt_kind-If m x body (Some b) = refl

  pub stmt_kind-Block : (m : A) (body : Vec (Stmt A) Global) → stmt_kind m (stmt.Block body) ≡ statement.block m (stmts_of body.items)
  unfolding stmt_kind stmt_row held_else
  stmt_kind-Block m body =
      let row = stmts_in (stmt.Block body) in
      ap (statement.block m) (stmt_row-list row.0 row.1 ∙ ap stmts_of (stmt.items_hidden-the_row-Stmt-0 A body))

  pub stmt_kind-Sync : (m : A) (x : Expr A) (body : Vec (Stmt A) Global) → stmt_kind m (stmt.Sync x body) ≡ statement.sync m (expr_of x) (stmts_of body.items)
  unfolding stmt_kind stmt_row held_else
  stmt_kind-Sync m x body =
      let row = stmts_in (stmt.Sync x body) in
      ap (statement.sync m (expr_of x)) (stmt_row-list row.0 row.1 ∙ ap stmts_of (stmt.items_hidden-the_row-Stmt-0 A body))

  pub member_row-list : (n : _) (row : Row_of-Member A n) → member_row row ≡ members_of (items-the_row-Member A n row)
  unfolding member_kind member_row class_of
  member_row-list n end_of-Member = refl
  member_row-list n (more_of-Member m k rest) = ap (member.more (member_kind m k)) (member_row-list _ rest)

  abbrev members_in : Class A → (n : _) × Row_of-Member A n
  members_in (Class' m mods i t shape row) = (_, row)

  pub class_of-roll : (m : A) (mods : Vec (Modifier A) Global) (i : Ident A) (t : Option (TypeRef A)) (all : Vec (Member A) Global)
      → class_of (roll-Class A (record { mark = m; modifiers = mods; name = i; parent = t; members = all }))
      ≡ member.class m (map modifier_of mods.items) (word_of i) (option_map type_of t) (members_of all.items)
  unfolding member_kind member_row class_of roll-Class block.hidden-the_row-Member-0 roll
  class_of-roll m mods i t all =
      let row = members_in (roll-Class A (record { mark = m; modifiers = mods; name = i; parent = t; members = all })) in
      ap (member.class m (map modifier_of mods.items) (word_of i) (option_map type_of t)) (member_row-list row.0 row.1 ∙ ap members_of (items_hidden-the_row-Member-0 A all))

  pub class_of-out : (x : Class A) → class_of x
      ≡ member.class (out-Class A x).mark (map modifier_of (out-Class A x).modifiers.items) (word_of (out-Class A x).name) (option_map type_of (out-Class A x).parent) (members_of (out-Class A x).members.items)
  unfolding member_kind member_row class_of out-Class out
  class_of-out (Class' m mods i t shape row) =
      ap (member.class m (map modifier_of mods.items) (word_of i) (option_map type_of t)) (member_row-list _ row ∙ ap members_of (sym (items_shown-the_row-Member-0 A shape row)))

  mark_expr : (m : A) (k : expr.ExprKind A) → exp_mark (expr_kind m k) ≡ m
  unfolding expr_kind expr_row held_target
  mark_expr m (expr.Call' _ _ _ _) = refl
  mark_expr m _ = refl

  mark_stmt : (m : A) (k : stmt.StmtKind A) → stmt_mark (stmt_kind m k) ≡ m
  unfolding stmt_kind stmt_row held_else
  mark_stmt m (stmt.Block' _ _) = refl
  mark_stmt m _ = refl

  mark_member : (m : A) (k : kind.MemberKind A) → member_mark (member_kind m k) ≡ m
  unfolding member_kind member_row class_of
  mark_member m (kind.Inner _) = refl
  mark_member m _ = refl

-- the mark of a view is the mark
pub expr_mark_is : {A : Type 0} (x : Expr A) → exp_mark (expr_of x) ≡ x.mark
expr_mark_is {A} x = mark_expr A x.mark x.kind

pub stmt_mark_is : {A : Type 0} (x : Stmt A) → stmt_mark (stmt_of x) ≡ x.mark
stmt_mark_is {A} x = mark_stmt A x.mark x.kind

pub member_mark_is : {A : Type 0} (x : Member A) → member_mark (member_of x) ≡ x.mark
member_mark_is {A} x = mark_member A x.mark x.kind
