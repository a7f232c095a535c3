use Rattle.std.proofs.Common.{◌≡◌, drop}
use Rattle.jr_ast.specs.View.{stmts_of}
use Rattle.jr_piece_search.specs.StatementSteps.{choose}
use Rattle.jr_piece_search.proofs.statement_steps.choose_stmt.Given as goal

-- what is chosen from here on is what is chosen from the first element on
abbrev pub invariant-loop-of : goal.invariant-loop-of
invariant-loop-of l = record {
  left : choose l.span l.number (stmts_of (drop l.of-index l.list)) ≡ choose l.span l.fn.first (stmts_of l.list);
  count : l.count ≡ l.of-index;
}
