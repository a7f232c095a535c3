-- The slots of rows of expressions, and of nodes.
use Rattle.std.specs.Prelude.{◌≡◌, ℕ, suc, ◌-◌, List, [], ◌∷◌, ◌++◌, length, Option}
use Rattle.jr_ast.specs.Tree as tree
use Rattle.jr_table.specs.Keys.{Ty}
use Rattle.jr_table.specs.Rows.{Row}
use Rattle.jr_table.specs.Context.{Context}
use Rattle.jr_expr_types.specs.Slots.{Slot}
use Rattle.jr_expr_types.specs.Trees.{flat}
use Rattle.jr_expr_types.specs.TypedTrees.{exp_tree}

abbrev pub row_count : {A : Type 0} → tree.Exps A → ℕ
row_count tree.end = 0
row_count (tree.more e es) = suc (row_count es)

module _ {A : Type 0} (rows : List Row) (c : Context) where
  abbrev pub row_slots : tree.Exps A → List Slot
  row_slots tree.end = []
  row_slots (tree.more e es) = flat (exp_tree rows c e) ++ row_slots es

-- a node of this type is put behind its parts, which are the slots behind the first `before` ones
abbrev pub Puts : (before parts : ℕ) → Option Ty → (old new : List Slot) → Type 0
Puts before parts t old new = new ≡ old
    ++ record { size = suc (length old - before); count = parts; type = t } ∷ []
