use Rattle.jr_ast.specs.View.{stmts_of}
use Rattle.jr_piece_search.specs.StatementView.{turn_of}
use Rattle.jr_piece_search.proofs.StatementGoing.{Holds, turn_size}
use Rattle.jr_piece_search.proofs.search.find.Given as goal

abbrev pub invariant-loop-turn : goal.invariant-loop-turn
invariant-loop-turn l = Holds l.span (stmts_of l.list) l.first l.fn.path.items l.path.items (turn_of l.turn)

abbrev pub decreases-loop-turn : goal.decreases-loop-turn
decreases-loop-turn l = turn_size (turn_of l.turn)
