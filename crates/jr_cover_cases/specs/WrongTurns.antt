-- What small pieces would have by a wrong rule, and don't have.
use Rattle.std.specs.Prelude.{◌≡◌, true, [], ◌∷◌, Some}
use Rattle.jr_ast.specs.declared.operators.BinOp.TheVariants.{Or, Div}
use Rattle.jr_ast.specs.Tree as tree
use Rattle.jr_ast.specs.StatementTree as statement
use Rattle.jr_cover.specs.Sites.{reads, stores, checks}
use Rattle.jr_cover_cases.specs.Samples.{name, dot, reading, two, at, sites, list_edges}

pub record WrongTurns : Type 0 where
  -- `while(a)b;c` without the edge from the loop's body to its condition
  pub no_edge_to_the_condition : list_edges (two (statement.loop 50 (name 3) (reading 4))
      (reading 6)) ≡ (0, 1) ∷ (1, 2) ∷ (1, 3) ∷ [] → ⊥
  -- `x; if(true||a)b` with no way past the right operand
  pub no_way_past_the_right_operand : list_edges (two (reading 3) (statement.branch 50
      (tree.binary 51 Or (tree.truth 52 true) (name 4)) (reading 5) statement.no_else))
      ≡ (1, 2) ∷ (0, 1) ∷ [] → ⊥
  -- `p.f=a` with a `Check` before the right side
  pub check_before_the_right_side : sites (tree.assign 50 (dot (name 3) 24) (name 4))
      ≡ at 3 (reads 3) ∷ at 24 checks ∷ at 4 (reads 4) ∷ at 24 (stores 24) ∷ [] → ⊥
  -- `synchronized(this){if(a)return b;c}d` with an `Exit` that `return` doesn't reach
  pub exit_past_the_return : list_edges (two (statement.sync 50 (tree.this 51)
      (two (statement.branch 52 (name 3) (statement.return 53 (Some (name 4)))
      statement.no_else) (reading 5))) (reading 6))
      ≡ (1, 2) ∷ (1, 3) ∷ (0, 1) ∷ (3, 4) ∷ (4, 5) ∷ [] → ⊥
  -- `a/2` with a `Check`, `a/0` with none
  pub check_for_a_literal : sites (tree.binary 50 Div (name 3) (tree.number 61 2))
      ≡ at 3 (reads 3) ∷ at 61 checks ∷ [] → ⊥
  pub no_check_for_zero : sites (tree.binary 50 Div (name 3) (tree.number 61 0))
      ≡ at 3 (reads 3) ∷ [] → ⊥
