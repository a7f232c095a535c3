use Rattle.std.proofs.Common.{◌≡◌, ◌+◌, ◌*◌, ◌≤◌, drop, option_map}
use Rattle.jr_ast.specs.View.{stmt_of, stmts_of, else_of}
use Rattle.jr_ast.proofs.Sizes.{stmt_size, stmts_size, else_size}
use Rattle.jr_table.specs.Context.{locals_in, locals_in_row}
use Rattle.jr_local_search.specs.Declarations.{declarations, declarations_in, first_wanted}
use Rattle.jr_local_search.specs.Walking.{wanted_of}
use Rattle.jr_local_search.proofs.declarations.+declared_walk.Given as goal

abbrev pub decreases-head : goal.decreases-head
decreases-head l = 4 * stmt_size (stmt_of l.of.now)

abbrev pub decreases-in_branches : goal.decreases-in_branches
decreases-in_branches l = 4 * (stmt_size (stmt_of l.yes.now) + else_size (else_of l.no.now)) + 3

abbrev pub decreases-in_stmt : goal.decreases-in_stmt
decreases-in_stmt l = 4 * stmt_size (stmt_of l.of.now) + 1

abbrev pub decreases-in_list : goal.decreases-in_list
decreases-in_list l = 4 * stmts_size (stmts_of l.list.now) + 2

abbrev pub invariant-in_stmt-loop-walk : goal.invariant-in_stmt-loop-walk
invariant-in_stmt-loop-walk l = record {
  size : stmt_size (stmt_of l.of) ≤ stmt_size (stmt_of l.fn.of);
  first : first_wanted (wanted_of l.fn.wanted) (declarations (option_map (λ x. stmts_of x.now) l.fn.here) l.fn.next (stmt_of l.fn.of))
      ≡ first_wanted (wanted_of l.fn.wanted) (declarations (option_map (λ x. stmts_of x.now) l.here) l.next (stmt_of l.of));
  count : l.fn.next + locals_in (stmt_of l.fn.of) ≡ l.next + locals_in (stmt_of l.of);
}

abbrev pub decreases-in_stmt-loop-walk : goal.decreases-in_stmt-loop-walk
decreases-in_stmt-loop-walk l = stmt_size (stmt_of l.of)

abbrev pub invariant-in_list-loop-of : goal.invariant-in_list-loop-of
invariant-in_list-loop-of l = record {
  at : l.count ≡ l.of-index;
  first : first_wanted (wanted_of l.wanted) (declarations_in l.fn.next (stmts_of l.list))
      ≡ first_wanted (wanted_of l.wanted) (declarations_in l.next (stmts_of (drop l.of-index l.list)));
  count : l.fn.next + locals_in_row (stmts_of l.list) ≡ l.next + locals_in_row (stmts_of (drop l.of-index l.list));
}
