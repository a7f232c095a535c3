use Rattle.std.proofs.Common.{◌≡◌, ◌+◌, ◌*◌, ◌≤◌, ℕ, drop}
use Rattle.std.specs.Prelude.{slice_get}
use Rattle.jr_ast.specs.View.{stmt_of, stmts_of, else_of}
use Rattle.jr_ast.proofs.Sizes.{stmt_size, stmts_size, else_size}
use Rattle.jr_grammar.specs.Layout.{itself}
use Rattle.jr_pieces.specs.Returns.{returns_in, returns_in_list}
use Rattle.jr_piece_search.proofs.returns.+return_walk.Given as goal

abbrev pub decreases-head : goal.decreases-head
decreases-head l = 4 * stmt_size (stmt_of l.of.now)

abbrev pub decreases-in_branches : goal.decreases-in_branches
decreases-in_branches l = 4 * (stmt_size (stmt_of l.yes.now) + else_size (else_of l.no.now)) + 3

abbrev pub decreases-in_stmt : goal.decreases-in_stmt
decreases-in_stmt l = 4 * stmt_size (stmt_of l.of.now) + 1

abbrev pub decreases-first_return : goal.decreases-first_return
decreases-first_return l = 4 * stmts_size (stmts_of l.list.now) + 2

abbrev pub invariant-in_stmt-loop-span : goal.invariant-in_stmt-loop-span
invariant-in_stmt-loop-span l = record {
  size : stmt_size (stmt_of l.of) ≤ stmt_size (stmt_of l.fn.of);
  first : (base other : ℕ) → slice_get (returns_in itself base (stmt_of l.fn.of)) 0 ≡ slice_get (returns_in itself other (stmt_of l.of)) 0;
}

abbrev pub decreases-in_stmt-loop-span : goal.decreases-in_stmt-loop-span
decreases-in_stmt-loop-span l = stmt_size (stmt_of l.of)

abbrev pub invariant-first_return-loop-of : goal.invariant-first_return-loop-of
invariant-first_return-loop-of l = (base other : ℕ) → slice_get (returns_in_list itself base (stmts_of l.list)) 0 ≡ slice_get (returns_in_list itself other (stmts_of (drop l.of-index l.list))) 0
