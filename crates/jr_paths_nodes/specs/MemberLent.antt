-- What classes, members and compilation units end as, once a `&mut` into them has ended.
use Rattle.std.specs.Prelude.{◌≡◌, ◌≤◌, ◌*◌, ℕ, zero, suc, List, length, Option, Some, None, Vec}
use Rattle.std.specs.Prelude.{map, option_map, option_and_then}
use Rattle.std.specs.List.{slice_get}
use Rattle.std.specs.Option.{OnSome}
use Rattle.std.specs.Global.{Global}
use Rattle.std.specs.Borrow.{Fml, RattleType, MutBor, LendsSo}
use Rattle.std.specs.contracts.vec.Vec as vec
use Rattle.std.specs.contracts.option.Option as option
use Rattle.std.specs.contracts.alloc.Global as global
use Rattle.std.specs.contracts.impls.GlobalAllocator.TheImpl as global_impl
use Rattle.jr_ast.specs.declared.exprs.Expr.{Expr}
use Rattle.jr_ast.specs.declared.stmts.Stmt.{Stmt}
use Rattle.jr_ast.specs.declared.members.Class.{Class}
use Rattle.jr_ast.specs.declared.members.Member.{Member}
use Rattle.jr_ast.specs.declared.members.MemberKind.{MemberKind}
use Rattle.jr_ast.specs.declared.members.Unit.{Unit}
use Rattle.jr_ast.specs.contracts.exprs.Expr as expr
use Rattle.jr_ast.specs.contracts.stmts.Stmt as stmt
use Rattle.jr_ast.specs.contracts.members.Class as class
use Rattle.jr_ast.specs.contracts.members.Member as member
use Rattle.jr_ast.specs.contracts.members.MemberKind as member_kind
use Rattle.jr_ast.specs.contracts.members.Unit as unit
use Rattle.jr_ast.specs.Tree as tree
use Rattle.jr_ast.specs.StatementTree as statement
use Rattle.jr_ast.specs.MemberTree as declared
use Rattle.jr_ast.specs.Nodes as pure
use Rattle.jr_ast.specs.View as view
use Rattle.jr_paths_nodes.specs.With.{first_member, first_init, first_parent_arg, first_in_constructor}
use Rattle.jr_paths_nodes.specs.With.{first_in_method, with_exp_among, with_stmt_among, with_member_from}
use Rattle.jr_paths_nodes.specs.With.{with_class_from, with_maybe, with_node}
use Rattle.jr_paths_nodes.specs.With.{class_with_member, member_with_class, member_with_stmt}
use Rattle.jr_paths_nodes.specs.With.{member_with_exp, unit_with_class}

-- what is left of a number once so many children are passed over
abbrev pub left_of : (passed : ℕ) → ℕ → Option ℕ
left_of zero number = Some number
left_of (suc passed) zero = None
left_of (suc passed) (suc number) = left_of passed number

-- how many children a method's type and name are
abbrev pub names_of : {X : Type 0} → Option X → ℕ
names_of None = 1
names_of (Some t) = 2

-- what stands at this place, as one of its kind
abbrev pub at_place : {X Y : Type 0} → (X → Option Y) → List X → Option ℕ → Option Y
at_place f xs None = None
at_place f xs (Some i) = option_and_then f (slice_get xs i)

module _ {A : Type 0} where
  -- the number of a class's first member, of a field's initial value
  abbrev pub members_begin : declared.Class A → ℕ
  members_begin (declared.class m mods w t ms) = first_member mods t

  abbrev pub init_begins : declared.Member A → ℕ
  init_begins (declared.field m mods t w e) = first_init mods
  init_begins _ = 0

  -- which argument of a written `super(..)`, which statement of a body has this number
  abbrev pub args_place : declared.Member A → ℕ → Option ℕ
  args_place (declared.constructor m mods w ps args body) number =
      left_of (first_parent_arg mods ps) number
  args_place _ number = None

  abbrev pub body_place : declared.Member A → ℕ → Option ℕ
  body_place (declared.method m mods t w ps body) number =
      left_of (first_in_method mods t ps) number
  body_place (declared.constructor m mods w ps args body) number =
      left_of (first_in_constructor mods ps args) number
  body_place _ number = None

  -- the row in which x stands at this place
  abbrev pub with_stmt_left : statement.Stmts A → Option ℕ → statement.Stmt A → statement.Stmts A
  with_stmt_left ss None x = ss
  with_stmt_left ss (Some i) x = with_stmt_among ss i x

  abbrev pub with_arg_left : Option (tree.Exps A) → Option ℕ → tree.Exp A → Option (tree.Exps A)
  with_arg_left None place x = None
  with_arg_left (Some es) None x = Some es
  with_arg_left (Some es) (Some i) x = Some (with_exp_among es i x)

module _ (A : RattleType) where
  -- a vector of members, of which the first is the child of the number `first`
  abbrev pub lends_member_among : MutBor (Vec (Member A.Denot) Global) → ℕ → ℕ
      → Option (MutBor (Member A.Denot)) → Fml
  lends_member_among s first number r =
      LendsSo (vec.the_row (member.the_row A) global.the_row global_impl.ghosts)
      (member.the_row A) s r
      (λ n w. OnSome r (view.members_of n.items
      ≡ with_member_from first (view.members_of s.now.items) number (view.member_of w)))
      (λ n. n.items ≡ s.now.items)

  -- a member of a class
  abbrev pub lends_member_of_class : MutBor (Class A.Denot) → ℕ
      → Option (MutBor (Member A.Denot)) → Fml
  lends_member_of_class s number r = LendsSo (class.the_row A) (member.the_row A) s r
      (λ n w. OnSome r (view.class_of n
      ≡ class_with_member (view.class_of s.now) number (view.member_of w)))
      (λ n. view.class_of n ≡ view.class_of s.now)

  -- the class that a member is
  abbrev pub lends_class_of_member : MutBor (MemberKind A.Denot) → ℕ
      → Option (MutBor (Class A.Denot)) → Fml
  lends_class_of_member s number r = LendsSo (member_kind.the_row A) (class.the_row A) s r
      (λ n w. OnSome r ((m : A.Denot)
      → view.member_kind m n ≡ member_with_class (view.member_kind m s.now) number
      (view.class_of w)))
      (λ n. (m : A.Denot) → view.member_kind m n ≡ view.member_kind m s.now)

  -- a vector of classes, of which the first is the child of the number `first`
  abbrev pub lends_class_among : MutBor (Vec (Class A.Denot) Global) → ℕ → ℕ
      → Option (MutBor (Class A.Denot)) → Fml
  lends_class_among s first number r =
      LendsSo (vec.the_row (class.the_row A) global.the_row global_impl.ghosts)
      (class.the_row A) s r
      (λ n w. OnSome r (map view.class_of n.items
      ≡ with_class_from first (map view.class_of s.now.items) number (view.class_of w)))
      (λ n. n.items ≡ s.now.items)

  -- a class of a compilation unit
  abbrev pub lends_class_of_unit : MutBor (Unit A.Denot) → ℕ → Option (MutBor (Class A.Denot)) → Fml
  lends_class_of_unit s number r = LendsSo (unit.the_row A) (class.the_row A) s r
      (λ n w. OnSome r (view.unit_of n
      ≡ unit_with_class (view.unit_of s.now) number (view.class_of w)))
      (λ n. view.unit_of n ≡ view.unit_of s.now)

  -- a statement at a place of a body, an argument at a place, an initial value that may be missing
  -- and has the number `first`
  abbrev pub lends_stmt_left : MutBor (Vec (Stmt A.Denot) Global) → Option ℕ
      → Option (MutBor (Stmt A.Denot)) → Fml
  lends_stmt_left s place r = LendsSo
      (vec.the_row (stmt.the_row A) global.the_row global_impl.ghosts) (stmt.the_row A) s r
      (λ n w. OnSome r (view.stmts_of n.items
      ≡ with_stmt_left (view.stmts_of s.now.items) place (view.stmt_of w)))
      (λ n. view.stmts_of n.items ≡ view.stmts_of s.now.items)

  abbrev pub lends_arg_left : MutBor (Option (Vec (Expr A.Denot) Global)) → Option ℕ
      → Option (MutBor (Expr A.Denot)) → Fml
  lends_arg_left s place r = LendsSo
      (option.the_row (vec.the_row (expr.the_row A) global.the_row global_impl.ghosts))
      (expr.the_row A) s r
      (λ n w. OnSome r (view.args_of n ≡ with_arg_left (view.args_of s.now) place (view.expr_of w)))
      (λ n. view.args_of n ≡ view.args_of s.now)

  abbrev pub lends_init : MutBor (Option (Expr A.Denot)) → ℕ → ℕ
      → Option (MutBor (Expr A.Denot)) → Fml
  lends_init s first number r = LendsSo (option.the_row (expr.the_row A)) (expr.the_row A) s r
      (λ n w. OnSome r (option_map view.expr_of n
      ≡ with_maybe first (option_map view.expr_of s.now) number (view.expr_of w)))
      (λ n. option_map view.expr_of n ≡ option_map view.expr_of s.now)

  -- a statement, an expression of a member
  abbrev pub lends_stmt_of_member : MutBor (MemberKind A.Denot) → ℕ
      → Option (MutBor (Stmt A.Denot)) → Fml
  lends_stmt_of_member s number r = LendsSo (member_kind.the_row A) (stmt.the_row A) s r
      (λ n w. OnSome r ((m : A.Denot)
      → view.member_kind m n ≡ member_with_stmt (view.member_kind m s.now) number
      (view.stmt_of w)))
      (λ n. (m : A.Denot) → view.member_kind m n ≡ view.member_kind m s.now)

  abbrev pub lends_expr_of_member : MutBor (MemberKind A.Denot) → ℕ
      → Option (MutBor (Expr A.Denot)) → Fml
  lends_expr_of_member s number r = LendsSo (member_kind.the_row A) (expr.the_row A) s r
      (λ n w. OnSome r ((m : A.Denot)
      → view.member_kind m n ≡ member_with_exp (view.member_kind m s.now) number
      (view.expr_of w)))
      (λ n. (m : A.Denot) → view.member_kind m n ≡ view.member_kind m s.now)

  -- a member below a class, where the path has no more than twice `reach` steps
  abbrev pub lends_below_class : (reach : ℕ) → MutBor (Class A.Denot) → List ℕ
      → Option (MutBor (Member A.Denot)) → Fml
  lends_below_class reach s path r = LendsSo (class.the_row A) (member.the_row A) s r
      (λ n w. OnSome r (length path ≤ 2 * reach
      → pure.class (view.class_of n)
      ≡ with_node (pure.class (view.class_of s.now)) path (pure.member (view.member_of w))))
      (λ n. length path ≤ 2 * reach → view.class_of n ≡ view.class_of s.now)
