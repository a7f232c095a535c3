-- The edges of small pieces, one for each sentence of the rules on edges (JLS 14). A comment has
-- the code, in which a letter is a local that is read; sites are numbered in the order in which
-- they stand.
use Rattle.std.specs.Prelude.{◌≡◌, true, [], ◌∷◌, Some, None}
use Rattle.jr_ast.specs.declared.operators.BinOp.TheVariants.{And, Or}
use Rattle.jr_ast.specs.Tree as tree
use Rattle.jr_ast.specs.StatementTree as statement
use Rattle.jr_cover_cases.specs.Samples.{
  name,
  reading,
  only,
  two,
  stmt_edges,
  list_edges,
}

-- in evaluation order
pub record OrderEdges : Type 0 where
  -- `a b`
  pub one_behind_another : list_edges (two (reading 3) (reading 4)) ≡ (0, 1) ∷ []
  -- `a ; b`
  pub past_what_has_no_site : list_edges (statement.more (reading 3)
      (two (statement.empty 70) (reading 4))) ≡ (0, 1) ∷ []

-- branches at `if`, `&&`, `||`: each last site of a condition leads to both, whatever its outcome
pub record BranchEdges : Type 0 where
  -- `if(a){b}else{c}d`
  pub two_branches : list_edges (two (statement.branch 50 (name 3) (reading 4)
      (statement.otherwise (reading 5))) (reading 6)) ≡ (0, 1) ∷ (0, 2) ∷ (1, 3) ∷ (2, 3) ∷ []
  -- `if(a){b}c`
  pub one_branch : list_edges (two (statement.branch 50 (name 3) (reading 4) statement.no_else)
      (reading 6)) ≡ (0, 1) ∷ (1, 2) ∷ (0, 2) ∷ []
  -- `a && b; c`, `a || b; c`
  pub and_may_stop : list_edges (two (statement.eval 50
      (tree.binary 51 And (name 3) (name 4))) (reading 6)) ≡ (0, 1) ∷ (1, 2) ∷ (0, 2) ∷ []
  pub or_may_stop : list_edges (two (statement.eval 50
      (tree.binary 51 Or (name 3) (name 4))) (reading 6)) ≡ (0, 1) ∷ (1, 2) ∷ (0, 2) ∷ []
  -- `x; if(true||a)b`: a way past the right operand
  pub past_the_right_operand : list_edges (two (reading 3) (statement.branch 50
      (tree.binary 51 Or (tree.truth 52 true) (name 4)) (reading 5) statement.no_else))
      ≡ (1, 2) ∷ (0, 1) ∷ (0, 2) ∷ []
  -- `if(a&&b){c}else{d}`
  pub both_last_sites_to_both : stmt_edges (statement.branch 50
      (tree.binary 51 And (name 3) (name 4)) (reading 5) (statement.otherwise (reading 6)))
      ≡ (0, 1) ∷ (1, 2) ∷ (1, 3) ∷ (0, 2) ∷ (0, 3) ∷ []

pub record LoopEdges : Type 0 where
  -- `while(a)b;c`: from the body to the condition, from the condition to the body and behind the
  -- loop
  pub with_condition : list_edges (two (statement.loop 50 (name 3) (reading 4)) (reading 6))
      ≡ (0, 1) ∷ (1, 2) ∷ (2, 1) ∷ (1, 3) ∷ []
  -- `while(a&&b)c;d`: so from each last site of a way through the condition
  pub with_two_last_sites : list_edges (two (statement.loop 50
      (tree.binary 51 And (name 3) (name 4)) (reading 5)) (reading 6))
      ≡ (1, 2) ∷ (0, 1) ∷ (2, 3) ∷ (1, 3) ∷ (3, 1) ∷ (2, 4) ∷ (1, 4) ∷ []
  -- `while(true)b;c`: the body leads to the `Loop` site, and this to both
  pub without_condition : list_edges (two (statement.loop 50 (tree.truth 51 true) (reading 4))
      (reading 6)) ≡ (0, 1) ∷ (1, 0) ∷ (0, 2) ∷ []
  -- `while(true||a)b;c`: each site that leads to the condition leads to both
  pub past_its_condition : list_edges (two (statement.loop 50
      (tree.binary 51 Or (tree.truth 52 true) (name 3)) (reading 4)) (reading 6))
      ≡ (0, 1) ∷ (1, 2) ∷ (0, 2) ∷ (2, 2) ∷ (2, 1) ∷ (1, 3) ∷ (0, 3) ∷ (2, 3) ∷ []
  -- `while(a);`: a body without sites leads from the condition back to it
  pub without_body : stmt_edges (statement.loop 50 (name 3) (statement.empty 70))
      ≡ (0, 1) ∷ (1, 1) ∷ []
  -- `while(a)if(true)b;`: so does a way through the body that meets none
  pub past_its_body : stmt_edges (statement.loop 50 (name 3)
      (statement.branch 51 (tree.truth 52 true) (reading 4) statement.no_else))
      ≡ (0, 1) ∷ (1, 2) ∷ (2, 1) ∷ (1, 1) ∷ []
  -- `while(a)return;`: but not where it returns
  pub body_that_returns : stmt_edges (statement.loop 50 (name 3) (statement.return 70 None))
      ≡ (0, 1) ∷ []
  -- `while(true);`
  pub alone : stmt_edges (statement.loop 50 (tree.truth 51 true) (statement.empty 70))
      ≡ (0, 0) ∷ []

-- from `return` through each open `Exit` to the end; an `Exit` leads on where its block may
-- complete
pub record ReturnEdges : Type 0 where
  -- `synchronized(this){if(a)return b;c}d`: Enter 0, a 1, b 2, c 3, Exit 4, d 5
  pub return_to_exit : list_edges (two (statement.sync 50 (tree.this 51) (two (statement.branch 52
      (name 3) (statement.return 53 (Some (name 4))) statement.no_else) (reading 5))) (reading 6))
      ≡ (1, 2) ∷ (1, 3) ∷ (0, 1) ∷ (3, 4) ∷ (2, 4) ∷ (4, 5) ∷ []
  -- `synchronized(this){synchronized(this){return;}}d`: through both, and to nothing behind them
  pub return_to_both_exits : list_edges (two (statement.sync 50 (tree.this 51)
      (only (statement.sync 52 (tree.this 53) (only (statement.return 54 None))))) (reading 6))
      ≡ (1, 2) ∷ (0, 1) ∷ (2, 3) ∷ []
  -- `synchronized(this){while(a)return;}d`: from the condition too, behind which it returns at once
  pub return_in_a_loop : list_edges (two (statement.sync 50 (tree.this 51)
      (only (statement.loop 52 (name 3) (statement.return 54 None)))) (reading 6))
      ≡ (1, 2) ∷ (0, 1) ∷ (2, 3) ∷ (2, 3) ∷ (3, 4) ∷ []
  -- `return a;b`
  pub nothing_behind_return :
      list_edges (two (statement.return 50 (Some (name 3))) (reading 6)) ≡ []
  -- `synchronized(this){}d`
  pub empty_block : list_edges (two (statement.sync 50 (tree.this 51) statement.end) (reading 6))
      ≡ (0, 1) ∷ (1, 2) ∷ []

pub record EdgeCases : Type 0 where
  pub in_order : OrderEdges
  pub of_branches : BranchEdges
  pub of_loops : LoopEdges
  pub of_returns : ReturnEdges
