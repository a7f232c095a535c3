-- The law of trees of types, as a statement.
use Rattle.std.specs.Prelude.{◌≡◌, ◌↔◌, ℕ, List, Some}
use Rattle.jr_ast.specs.MemberTree as syntax
use Rattle.jr_table.specs.Keys.{Ty}
use Rattle.jr_table.specs.Decls.{MemberKey}
use Rattle.jr_table.specs.Rows.{Row}
use Rattle.jr_table.specs.Conditions.{AreRows}
use Rattle.jr_table.specs.LookupLaws.{KeysAreFound}
use Rattle.jr_table.specs.Errors.{member_part}
use Rattle.jr_table.specs.TypesAt.{TypeAt}
use Rattle.jr_expr_types.specs.Trees.{type_at}
use Rattle.jr_expr_types.specs.TypedTrees.{part_tree}

-- a path leads to a type in the tree exactly where it leads to an expression that has it
abbrev pub TypesAreAt : Type 0 → Type 0
TypesAreAt A = (begins : A → ℕ → ℕ) (rows : List Row) → AreRows rows → KeysAreFound rows
    → (k : MemberKey) (x : syntax.Member A) (path : List ℕ) (t : Ty)
    → (type_at (part_tree begins rows k (member_part x)) path ≡ Some t)
    ↔ TypeAt begins rows k x path t
