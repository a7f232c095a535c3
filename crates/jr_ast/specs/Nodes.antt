-- Nodes: the parts of a tree that have a mark. The children of a node are its parts that have a
-- mark, numbered from 0 in the order of the text.
use Rattle.std.specs.Prelude.{ℕ, List, [], ◌∷◌, ◌++◌, Option, Some, None, map, option_map}
use Rattle.std.specs.Prelude.{option_and_then}
use Rattle.std.specs.List.{slice_get}
use Rattle.jr_ast.specs.Tree as tree
use Rattle.jr_ast.specs.StatementTree as statement
use Rattle.jr_ast.specs.MemberTree as declared
use Rattle.jr_ast.specs.Marks.{type_mark, exp_mark, stmt_mark, class_mark, member_mark}

pub data Node (A : Type 0) : Type 0 where
  unit : (of : declared.Unit A) → Node A
  class : (of : declared.Class A) → Node A
  modifier : (of : declared.Modifier A) → Node A
  word : (of : tree.Word A) → Node A
  type : (of : tree.TypeName A) → Node A
  param : (of : declared.Param A) → Node A
  member : (of : declared.Member A) → Node A
  stmt : (of : statement.Stmt A) → Node A
  exp : (of : tree.Exp A) → Node A

module _ {A : Type 0} where
  abbrev pub mark_of : Node A → A
  mark_of (unit u) = u.mark
  mark_of (class c) = class_mark c
  mark_of (modifier m) = m.mark
  mark_of (word w) = w.mark
  mark_of (type t) = type_mark t
  mark_of (param p) = p.mark
  mark_of (member m) = member_mark m
  mark_of (stmt s) = stmt_mark s
  mark_of (exp e) = exp_mark e

  -- rows of children
  abbrev pub exps : tree.Exps A → List (Node A)
  exps tree.end = []
  exps (tree.more e es) = exp e ∷ exps es

  abbrev pub stmts : statement.Stmts A → List (Node A)
  stmts statement.end = []
  stmts (statement.more s ss) = stmt s ∷ stmts ss

  abbrev pub members : declared.Members A → List (Node A)
  members declared.end = []
  members (declared.more m ms) = member m ∷ members ms

  -- a child that may be missing
  abbrev pub maybe : Option (Node A) → List (Node A)
  maybe None = []
  maybe (Some n) = n ∷ []

  abbrev pub type_children : tree.TypeName A → List (Node A)
  type_children (tree.named m outer w) = maybe (option_map word outer) ++ word w ∷ []
  type_children _ = []

  abbrev pub target_children : tree.Target A → List (Node A)
  target_children tree.no_target = []
  target_children (tree.on e) = exp e ∷ []

  unfoldable pub exp_children : tree.Exp A → List (Node A)
  exp_children (tree.number m _) = []
  exp_children (tree.truth m _) = []
  exp_children (tree.null m) = []
  exp_children (tree.string m _) = []
  exp_children (tree.name m w) = word w ∷ []
  exp_children (tree.field m e w) = exp e ∷ word w ∷ []
  exp_children (tree.super_field m w) = word w ∷ []
  exp_children (tree.this m) = []
  exp_children (tree.class_literal m t) = type t ∷ []
  exp_children (tree.call m to w args) = target_children to ++ word w ∷ exps args
  exp_children (tree.super_call m w args) = word w ∷ exps args
  exp_children (tree.create m t args) = type t ∷ exps args
  exp_children (tree.paren m e) = exp e ∷ []
  exp_children (tree.cast m t e) = type t ∷ exp e ∷ []
  exp_children (tree.unary m op e) = exp e ∷ []
  exp_children (tree.bump m op e) = exp e ∷ []
  exp_children (tree.binary m op e f) = exp e ∷ exp f ∷ []
  exp_children (tree.assign m e f) = exp e ∷ exp f ∷ []
  exp_children (tree.compound m op e f) = exp e ∷ exp f ∷ []

  abbrev pub else_children : statement.Else A → List (Node A)
  else_children statement.no_else = []
  else_children (statement.otherwise s) = stmt s ∷ []

  unfoldable pub stmt_children : statement.Stmt A → List (Node A)
  stmt_children (statement.local m _ t w e) = type t ∷ word w ∷ exp e ∷ []
  stmt_children (statement.eval m e) = exp e ∷ []
  stmt_children (statement.branch m e s other) = exp e ∷ stmt s ∷ else_children other
  stmt_children (statement.loop m e s) = exp e ∷ stmt s ∷ []
  stmt_children (statement.return m e) = maybe (option_map exp e)
  stmt_children (statement.block m body) = stmts body
  stmt_children (statement.sync m e body) = exp e ∷ stmts body
  stmt_children (statement.empty m) = []

  abbrev pub args_children : Option (tree.Exps A) → List (Node A)
  args_children None = []
  args_children (Some es) = exps es

  unfoldable pub member_children : declared.Member A → List (Node A)
  member_children (declared.field m mods t w e) =
      map modifier mods ++ (type t ∷ (word w ∷ maybe (option_map exp e)))
  member_children (declared.method m mods t w ps body) =
      map modifier mods ++ (maybe (option_map type t) ++ (word w ∷ (map param ps ++ stmts body)))
  member_children (declared.constructor m mods w ps args body) =
      map modifier mods ++ (word w ∷ (map param ps ++ (args_children args ++ stmts body)))
  member_children (declared.inner m c) = class c ∷ []

  unfoldable pub class_children : declared.Class A → List (Node A)
  class_children (declared.class m mods w t ms) =
      map modifier mods ++ (word w ∷ (maybe (option_map type t) ++ members ms))

  abbrev pub children_of : Node A → List (Node A)
  children_of (unit u) = map word u.package_name ++ map class u.classes
  children_of (class c) = class_children c
  children_of (modifier m) = []
  children_of (word w) = []
  children_of (type t) = type_children t
  children_of (param p) = type p.type ∷ word p.name ∷ []
  children_of (member m) = member_children m
  children_of (stmt s) = stmt_children s
  children_of (exp e) = exp_children e

  -- the child of this number
  abbrev pub child_of : Node A → ℕ → Option (Node A)
  child_of n i = slice_get (children_of n) i

  -- the node to which a path leads: each step is the number of a child
  unfoldable pub node_at : Node A → List ℕ → Option (Node A)
  node_at n [] = Some n
  node_at n (i ∷ is) = option_and_then (λ c. node_at c is) (child_of n i)

  -- the node as one of its kind, if it is one
  abbrev pub as_exp : Node A → Option (tree.Exp A)
  as_exp (exp e) = Some e
  as_exp _ = None

  abbrev pub as_stmt : Node A → Option (statement.Stmt A)
  as_stmt (stmt s) = Some s
  as_stmt _ = None

  abbrev pub as_member : Node A → Option (declared.Member A)
  as_member (member m) = Some m
  as_member _ = None

  abbrev pub as_class : Node A → Option (declared.Class A)
  as_class (class c) = Some c
  as_class _ = None

  abbrev pub exp_at : Node A → List ℕ → Option (tree.Exp A)
  exp_at n path = option_and_then as_exp (node_at n path)

  abbrev pub stmt_at : Node A → List ℕ → Option (statement.Stmt A)
  stmt_at n path = option_and_then as_stmt (node_at n path)

  abbrev pub member_at : Node A → List ℕ → Option (declared.Member A)
  member_at n path = option_and_then as_member (node_at n path)
