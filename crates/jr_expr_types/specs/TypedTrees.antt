-- The tree of types of a member: a node for each of its nodes that has a mark, in the order of the
-- children, with the type of each expression that has one. What stands in words, written types,
-- modifiers and parameters is left out, since it has no type.
use Rattle.std.specs.Prelude.{ℕ, zero, suc, ◌+◌, List, length, Option, Some, None, true, false}
use Rattle.jr_ast.specs.Tree as tree
use Rattle.jr_ast.specs.StatementTree as statement
use Rattle.jr_ast.specs.MemberTree as syntax
use Rattle.jr_table.specs.Decls.{MemberKey}
use Rattle.jr_table.specs.Rows.{Row}
use Rattle.jr_table.specs.Context.{Context, local_of, in_own, after, locals_in}
use Rattle.jr_table.specs.Meanings.{type_of}
use Rattle.jr_table.specs.HeadRules.{plain, with_parameters, is_static_member}
use Rattle.jr_table.specs.Errors.{Part, class_part, member_part}
use Rattle.jr_expr_types.specs.Trees.{Tree, node, Parts, none, put}

abbrev pub leaf : Tree
leaf = node None none

abbrev pub put_leaf : Parts → Parts
put_leaf ps = put ps leaf

-- so many leaves behind other parts
abbrev pub put_leaves : (count : ℕ) → Parts → Parts
put_leaves zero ps = ps
put_leaves (suc n) ps = put_leaf (put_leaves n ps)

module _ {A : Type 0} (rows : List Row) (c : Context) where
  unfoldable mutual
    pub exp_parts : tree.Exp A → Parts
    exp_parts (tree.number m n) = none
    exp_parts (tree.truth m b) = none
    exp_parts (tree.null m) = none
    exp_parts (tree.string m s) = none
    exp_parts (tree.name m w) = put_leaf none
    exp_parts (tree.field m e w) = put_leaf (put none (node (type_of rows c e) (exp_parts e)))
    exp_parts (tree.super_field m w) = put_leaf none
    exp_parts (tree.this m) = none
    exp_parts (tree.class_literal m t) = put_leaf none
    exp_parts (tree.call m to w args) = put_row (put_leaf (target_parts to)) args
    exp_parts (tree.super_call m w args) = put_row (put_leaf none) args
    exp_parts (tree.create m t args) = put_row (put_leaf none) args
    exp_parts (tree.paren m e) = put none (node (type_of rows c e) (exp_parts e))
    exp_parts (tree.cast m t e) = put (put_leaf none) (node (type_of rows c e) (exp_parts e))
    exp_parts (tree.unary m o e) = put none (node (type_of rows c e) (exp_parts e))
    exp_parts (tree.bump m o e) = put none (node (type_of rows c e) (exp_parts e))
    exp_parts (tree.binary m o x y) = put (put none (node (type_of rows c x) (exp_parts x)))
        (node (type_of rows c y) (exp_parts y))
    exp_parts (tree.assign m x y) = put (put none (node (type_of rows c x) (exp_parts x)))
        (node (type_of rows c y) (exp_parts y))
    exp_parts (tree.compound m o x y) = put (put none (node (type_of rows c x) (exp_parts x)))
        (node (type_of rows c y) (exp_parts y))

    pub target_parts : tree.Target A → Parts
    target_parts tree.no_target = none
    target_parts (tree.on e) = put none (node (type_of rows c e) (exp_parts e))

    pub put_row : Parts → tree.Exps A → Parts
    put_row ps tree.end = ps
    put_row ps (tree.more e es) = put_row (put ps (node (type_of rows c e) (exp_parts e))) es

  abbrev pub exp_tree : tree.Exp A → Tree
  exp_tree e = node (type_of rows c e) (exp_parts e)

module _ {A : Type 0} (rows : List Row) where
  abbrev pub put_maybe : Context → Parts → Option (tree.Exp A) → Parts
  put_maybe c ps None = ps
  put_maybe c ps (Some e) = put ps (exp_tree rows c e)

  abbrev pub put_args : Context → Parts → Option (tree.Exps A) → Parts
  put_args c ps None = ps
  put_args c ps (Some args) = put_row rows c ps args

  unfoldable mutual
    -- the next local has this number
    pub stmt_parts : (number : ℕ) → Context → statement.Stmt A → Parts
    stmt_parts number c (statement.local m f t w e) = put (put_leaf (put_leaf none))
        (exp_tree rows (in_own c (local_of c number f t w)) e)
    stmt_parts number c (statement.eval m e) = put none (exp_tree rows c e)
    stmt_parts number c (statement.branch m e x other) =
        put_else (put (put none (exp_tree rows c e)) (node None (stmt_parts number c x)))
        (number + locals_in x) c other
    stmt_parts number c (statement.loop m e x) =
        put (put none (exp_tree rows c e)) (node None (stmt_parts number c x))
    stmt_parts number c (statement.return m e) = put_maybe c none e
    stmt_parts number c (statement.block m body) = put_stmts none number c body
    stmt_parts number c (statement.sync m e body) =
        put_stmts (put none (exp_tree rows c e)) number c body
    stmt_parts number c (statement.empty m) = none

    pub put_else : Parts → (number : ℕ) → Context → statement.Else A → Parts
    put_else ps number c statement.no_else = ps
    put_else ps number c (statement.otherwise x) = put ps (node None (stmt_parts number c x))

    pub put_stmts : Parts → (number : ℕ) → Context → statement.Stmts A → Parts
    put_stmts ps number c statement.end = ps
    put_stmts ps number c (statement.more x xs) =
        put_stmts (put ps (node None (stmt_parts number c x))) (number + locals_in x)
        (after number c x) xs

  abbrev pub stmt_tree : (number : ℕ) → Context → statement.Stmt A → Tree
  stmt_tree number c x = node None (stmt_parts number c x)

  abbrev pub put_type : Parts → Option (tree.TypeName A) → Parts
  put_type ps None = ps
  put_type ps (Some t) = put_leaf ps

module _ {A : Type 0} (begins : A → ℕ → ℕ) (rows : List Row) where
  abbrev pub member_parts : MemberKey → syntax.Member A → Parts
  member_parts k (syntax.field m mods t w init) = put_maybe rows
      (plain k (is_static_member begins mods)) (put_leaf (put_leaf (put_leaves (length mods) none)))
      init
  member_parts k (syntax.method m mods t w ps body) = put_stmts rows
      (put_leaves (length ps) (put_leaf (put_type rows (put_leaves (length mods) none) t)))
      (length ps) (with_parameters k (is_static_member begins mods) ps) body
  member_parts k (syntax.constructor m mods w ps args body) = put_stmts rows
      (put_args rows (with_parameters k true ps)
      (put_leaves (length ps) (put_leaf (put_leaves (length mods) none))) args)
      (length ps) (with_parameters k false ps) body
  member_parts k (syntax.inner m of) = none

  -- of a member, or of the head of a class, in which no expression stands
  abbrev pub part_tree : MemberKey → Part A → Tree
  part_tree k (class_part of) = leaf
  part_tree k (member_part x) = node None (member_parts k x)
