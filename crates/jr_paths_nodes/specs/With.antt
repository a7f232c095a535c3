-- A tree in which one node is another: the child of a number, or the node at the end of a path, is
-- replaced by a node of its kind, and all else stays.
use Rattle.std.specs.Prelude.{◌≡◌, ℕ, zero, suc, ◌+◌, List, [], ◌∷◌, Option, Some, None, length}
use Rattle.std.specs.List.{slice_get, slice_set}
use Rattle.jr_ast.specs.Tree as tree
use Rattle.jr_ast.specs.StatementTree as statement
use Rattle.jr_ast.specs.MemberTree as declared
use Rattle.jr_ast.specs.Nodes.{Node, unit, class, member, stmt, exp, child_of, children_of}
use Rattle.jr_ast.specs.Nodes.{args_children}

-- what stands at this number, where the first has the number `first`
abbrev pub get_from : {X : Type 0} → (first : ℕ) → List X → ℕ → Option X
get_from zero xs i = slice_get xs i
get_from (suc first) xs zero = None
get_from (suc first) xs (suc i) = get_from first xs i

module _ {A : Type 0} where
  -- the row of expressions in which that of this number is x
  abbrev pub with_exp_among : tree.Exps A → ℕ → tree.Exp A → tree.Exps A
  with_exp_among tree.end i x = tree.end
  with_exp_among (tree.more e es) zero x = tree.more x es
  with_exp_among (tree.more e es) (suc i) x = tree.more e (with_exp_among es i x)

  -- the same where the row's first expression is the child of the number `first`
  abbrev pub with_exp_from : (first : ℕ) → tree.Exps A → ℕ → tree.Exp A → tree.Exps A
  with_exp_from zero es i x = with_exp_among es i x
  with_exp_from (suc first) es zero x = es
  with_exp_from (suc first) es (suc i) x = with_exp_from first es i x

  abbrev pub with_stmt_among : statement.Stmts A → ℕ → statement.Stmt A → statement.Stmts A
  with_stmt_among statement.end i x = statement.end
  with_stmt_among (statement.more s ss) zero x = statement.more x ss
  with_stmt_among (statement.more s ss) (suc i) x = statement.more s (with_stmt_among ss i x)

  abbrev pub with_stmt_from : (first : ℕ) → statement.Stmts A → ℕ → statement.Stmt A
      → statement.Stmts A
  with_stmt_from zero ss i x = with_stmt_among ss i x
  with_stmt_from (suc first) ss zero x = ss
  with_stmt_from (suc first) ss (suc i) x = with_stmt_from first ss i x

  abbrev pub with_member_among : declared.Members A → ℕ → declared.Member A → declared.Members A
  with_member_among declared.end i x = declared.end
  with_member_among (declared.more m ms) zero x = declared.more x ms
  with_member_among (declared.more m ms) (suc i) x = declared.more m (with_member_among ms i x)

  abbrev pub with_member_from : (first : ℕ) → declared.Members A → ℕ → declared.Member A
      → declared.Members A
  with_member_from zero ms i x = with_member_among ms i x
  with_member_from (suc first) ms zero x = ms
  with_member_from (suc first) ms (suc i) x = with_member_from first ms i x

  abbrev pub with_class_from : (first : ℕ) → List (declared.Class A) → ℕ → declared.Class A
      → List (declared.Class A)
  with_class_from zero cs i x = slice_set cs i x
  with_class_from (suc first) cs zero x = cs
  with_class_from (suc first) cs (suc i) x = with_class_from first cs i x

  -- an expression that may be missing, and is the child of the number `first`
  abbrev pub with_maybe : (first : ℕ) → Option (tree.Exp A) → ℕ → tree.Exp A → Option (tree.Exp A)
  with_maybe first None i x = None
  with_maybe zero (Some e) zero x = Some x
  with_maybe zero (Some e) (suc i) x = Some e
  with_maybe (suc first) (Some e) zero x = Some e
  with_maybe (suc first) (Some e) (suc i) x = with_maybe first (Some e) i x

  -- what a call is made on, which is its first child
  abbrev pub with_target : tree.Target A → ℕ → tree.Exp A → tree.Target A
  with_target (tree.on e) zero x = tree.on x
  with_target to i x = to

  -- the number of a call's first argument
  abbrev pub first_argument : tree.Target A → ℕ
  first_argument tree.no_target = 1
  first_argument (tree.on e) = 2

  abbrev pub arguments_begin : tree.Exp A → ℕ
  arguments_begin (tree.call m to w args) = first_argument to
  arguments_begin _ = 1

  -- the expression whose child of this number is the expression x
  unfoldable pub with_exp : tree.Exp A → ℕ → tree.Exp A → tree.Exp A
  with_exp (tree.field m e w) zero x = tree.field m x w
  with_exp (tree.call m to w args) i x =
      tree.call m (with_target to i x) w (with_exp_from (first_argument to) args i x)
  with_exp (tree.super_call m w args) i x = tree.super_call m w (with_exp_from 1 args i x)
  with_exp (tree.create m t args) i x = tree.create m t (with_exp_from 1 args i x)
  with_exp (tree.paren m e) zero x = tree.paren m x
  with_exp (tree.cast m t e) (suc zero) x = tree.cast m t x
  with_exp (tree.unary m op e) zero x = tree.unary m op x
  with_exp (tree.bump m op e) zero x = tree.bump m op x
  with_exp (tree.binary m op e f) zero x = tree.binary m op x f
  with_exp (tree.binary m op e f) (suc zero) x = tree.binary m op e x
  with_exp (tree.assign m e f) zero x = tree.assign m x f
  with_exp (tree.assign m e f) (suc zero) x = tree.assign m e x
  with_exp (tree.compound m op e f) zero x = tree.compound m op x f
  with_exp (tree.compound m op e f) (suc zero) x = tree.compound m op e x
  with_exp e i x = e

  -- the statement whose child of this number is the expression x
  unfoldable pub stmt_with_exp : statement.Stmt A → ℕ → tree.Exp A → statement.Stmt A
  stmt_with_exp (statement.local m f t w e) (suc (suc zero)) x = statement.local m f t w x
  stmt_with_exp (statement.eval m e) zero x = statement.eval m x
  stmt_with_exp (statement.branch m e s other) zero x = statement.branch m x s other
  stmt_with_exp (statement.loop m e s) zero x = statement.loop m x s
  stmt_with_exp (statement.return m e) i x = statement.return m (with_maybe 0 e i x)
  stmt_with_exp (statement.sync m e body) zero x = statement.sync m x body
  stmt_with_exp s i x = s

  -- what stands behind `else`, which is the child of the number 2
  abbrev pub with_else : statement.Else A → ℕ → statement.Stmt A → statement.Else A
  with_else (statement.otherwise s) (suc (suc zero)) x = statement.otherwise x
  with_else other i x = other

  -- the statement whose child of this number is the statement x
  unfoldable pub stmt_with_stmt : statement.Stmt A → ℕ → statement.Stmt A → statement.Stmt A
  stmt_with_stmt (statement.branch m e s other) (suc zero) x = statement.branch m e x other
  stmt_with_stmt (statement.branch m e s other) i x = statement.branch m e s (with_else other i x)
  stmt_with_stmt (statement.loop m e s) (suc zero) x = statement.loop m e x
  stmt_with_stmt (statement.block m body) i x = statement.block m (with_stmt_from 0 body i x)
  stmt_with_stmt (statement.sync m e body) i x = statement.sync m e (with_stmt_from 1 body i x)
  stmt_with_stmt s i x = s

  -- how many children stand in front of the initial value of a field, of the arguments of
  -- `super(..)`, and of a body
  abbrev pub first_init : List (declared.Modifier A) → ℕ
  first_init mods = length mods + 2

  abbrev pub first_parent_arg : List (declared.Modifier A) → List (declared.Param A) → ℕ
  first_parent_arg mods ps = length mods + (1 + length ps)

  abbrev pub first_in_constructor : List (declared.Modifier A) → List (declared.Param A)
      → Option (tree.Exps A) → ℕ
  first_in_constructor mods ps args = first_parent_arg mods ps + length (args_children args)

  abbrev pub first_in_method : List (declared.Modifier A) → Option (tree.TypeName A)
      → List (declared.Param A) → ℕ
  first_in_method mods None ps = length mods + (1 + length ps)
  first_in_method mods (Some t) ps = length mods + (2 + length ps)

  abbrev pub with_parent_args : (first : ℕ) → Option (tree.Exps A) → ℕ → tree.Exp A
      → Option (tree.Exps A)
  with_parent_args first None i x = None
  with_parent_args first (Some args) i x = Some (with_exp_from first args i x)

  -- the member whose child of this number is the expression x, the statement x, the class x
  unfoldable pub member_with_exp : declared.Member A → ℕ → tree.Exp A → declared.Member A
  member_with_exp (declared.field m mods t w e) i x =
      declared.field m mods t w (with_maybe (first_init mods) e i x)
  member_with_exp (declared.constructor m mods w ps args body) i x =
      declared.constructor m mods w ps (with_parent_args (first_parent_arg mods ps) args i x) body
  member_with_exp m i x = m

  unfoldable pub member_with_stmt : declared.Member A → ℕ → statement.Stmt A → declared.Member A
  member_with_stmt (declared.method m mods t w ps body) i x =
      declared.method m mods t w ps (with_stmt_from (first_in_method mods t ps) body i x)
  member_with_stmt (declared.constructor m mods w ps args body) i x =
      declared.constructor m mods w ps args
      (with_stmt_from (first_in_constructor mods ps args) body i x)
  member_with_stmt m i x = m

  unfoldable pub member_with_class : declared.Member A → ℕ → declared.Class A → declared.Member A
  member_with_class (declared.inner m c) zero x = declared.inner m x
  member_with_class m i x = m

  -- how many children stand in front of the members of a class
  abbrev pub first_member : List (declared.Modifier A) → Option (tree.TypeName A) → ℕ
  first_member mods None = length mods + 1
  first_member mods (Some t) = length mods + 2

  unfoldable pub class_with_member : declared.Class A → ℕ → declared.Member A → declared.Class A
  class_with_member (declared.class m mods w t ms) i x =
      declared.class m mods w t (with_member_from (first_member mods t) ms i x)

  abbrev pub unit_with_class : declared.Unit A → ℕ → declared.Class A → declared.Unit A
  unit_with_class u i x = record {
    mark = u.mark;
    package_name = u.package_name;
    classes = with_class_from (length u.package_name) u.classes i x;
  }

  -- the node whose child of this number is the node c, where that child is of the kind of c: an
  -- expression, a statement, a member or a class
  abbrev pub with_child : Node A → ℕ → Node A → Node A
  with_child (exp e) i (exp x) = exp (with_exp e i x)
  with_child (stmt s) i (exp x) = stmt (stmt_with_exp s i x)
  with_child (stmt s) i (stmt x) = stmt (stmt_with_stmt s i x)
  with_child (member m) i (exp x) = member (member_with_exp m i x)
  with_child (member m) i (stmt x) = member (member_with_stmt m i x)
  with_child (member m) i (class x) = member (member_with_class m i x)
  with_child (class c) i (member x) = class (class_with_member c i x)
  with_child (unit u) i (class x) = unit (unit_with_class u i x)
  with_child n i x = n

  -- the node with f of its child of the number i there, if it has one
  abbrev pub with_found : Node A → ℕ → (Node A → Node A) → Option (Node A) → Node A
  with_found n i f None = n
  with_found n i f (Some c) = with_child n i (f c)

  -- the tree in which the node at the end of the path is x
  unfoldable pub with_node : Node A → List ℕ → Node A → Node A
  with_node n [] x = x
  with_node n (i ∷ is) x = with_found n i (λ c. with_node c is x) (child_of n i)

module _ {A : Type 0} where
  -- both are expressions, statements, members or classes
  abbrev pub SameKind : Node A → Node A → Type 0
  SameKind (exp e) (exp x) = Unit {0}
  SameKind (stmt s) (stmt x) = Unit {0}
  SameKind (member m) (member x) = Unit {0}
  SameKind (class c) (class x) = Unit {0}
  SameKind c x = ⊥

-- a child replaced is one child: the node has the new one at that number, and its others as before;
-- with its own child it is the node that it was; and a child that is replaced again leaves no
-- trace, so that a node's own child put back gives all of the node, its mark and its operator too
pub record OneChildReplaced (A : Type 0) : Type 0 where
  pub others : (n c x : Node A) (i : ℕ) → child_of n i ≡ Some c → SameKind c x
      → children_of (with_child n i x) ≡ slice_set (children_of n) i x
  pub same : (n c : Node A) (i : ℕ) → child_of n i ≡ Some c → with_child n i c ≡ n
  pub again : (n x y : Node A) (i : ℕ) → SameKind x y
      → with_child (with_child n i x) i y ≡ with_child n i y
