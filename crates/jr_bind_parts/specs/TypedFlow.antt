-- The slots and the numbers of parts of statements: exact.
use Rattle.std.specs.Prelude.{
  ℕ,
  suc,
  ◌+◌,
  List,
  [],
  ◌++◌,
  Option,
  Some,
  None,
  Bool,
}
use Rattle.jr_ast.specs.Tree as tree
use Rattle.jr_ast.specs.StatementTree as statement
use Rattle.jr_table.specs.Rows.{Row}
use Rattle.jr_table.specs.Context.{Context, local_of, in_own, after, locals_in}
use Rattle.jr_expr_types.specs.Slots.{Slot}
use Rattle.jr_expr_types.specs.Trees.{Parts, none, put, flat}
use Rattle.jr_expr_types.specs.TypedTrees.{put_leaf, exp_tree, stmt_tree}
use Rattle.jr_bind_expr.specs.TypedSlots.{row_slots, row_count}

module _ {A : Type 0} where
  abbrev pub maybe_count : Option (tree.Exp A) → ℕ
  maybe_count None = 0
  maybe_count (Some e) = 1

  abbrev pub else_count : statement.Else A → ℕ
  else_count statement.no_else = 0
  else_count (statement.otherwise x) = 1

  -- a method's type, if it isn't `void`, and its name
  abbrev pub named_count : Option (tree.TypeName A) → ℕ
  named_count None = 1
  named_count (Some t) = 2

  abbrev pub args_count : Option (tree.Exps A) → ℕ
  args_count None = 0
  args_count (Some args) = row_count args

  abbrev pub body_count : statement.Stmts A → ℕ
  body_count statement.end = 0
  body_count (statement.more x xs) = suc (body_count xs)

module _ {A : Type 0} (rows : List Row) where
  abbrev pub maybe_slots : Context → Option (tree.Exp A) → List Slot
  maybe_slots c None = []
  maybe_slots c (Some e) = flat (exp_tree rows c e)

  abbrev pub args_slots : Context → Option (tree.Exps A) → List Slot
  args_slots c None = []
  args_slots c (Some args) = row_slots rows c args

  abbrev pub else_slots : (number : ℕ) → Context → statement.Else A → List Slot
  else_slots number c statement.no_else = []
  else_slots number c (statement.otherwise x) = flat (stmt_tree rows number c x)

  abbrev pub body_slots : (number : ℕ) → Context → statement.Stmts A → List Slot
  body_slots number c statement.end = []
  body_slots number c (statement.more x xs) = flat (stmt_tree rows number c x)
      ++ body_slots (number + locals_in x) (after number c x) xs

  -- of a local, whose mark tells nothing
  abbrev pub local_parts : (number : ℕ) → Context → Bool → tree.TypeName A → tree.Word A
      → tree.Exp A → Parts
  local_parts number c f t w e = put (put_leaf (put_leaf none))
      (exp_tree rows (in_own c (local_of c number f t w)) e)
