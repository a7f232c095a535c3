use Rattle.std.proofs.Common.{◌≡◌, drop}
use Rattle.jr_ast.specs.View.{stmts_of}
use Rattle.jr_cursor.specs.Searches.{in_stmts}
use Rattle.jr_cursor.proofs.searches.+search_walk.Given as goal

-- what is found from here on is what is found from the first statement on
abbrev pub invariant-in_stmts-loop-of : goal.invariant-in_stmts-loop-of
invariant-in_stmts-loop-of l = in_stmts l.at l.search (stmts_of (drop l.of-index l.body)) ≡ in_stmts l.at l.fn.before (stmts_of l.body)
