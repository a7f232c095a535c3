use Rattle.std.proofs.Common.{map}
use Rattle.jr_ast.specs.View.{stmts_of}
use Rattle.jr_local_search.specs.NamingView.{naming_of}
use Rattle.jr_local_search.proofs.NameRows.{Gathered}
use Rattle.jr_local_search.proofs.names.namings.Given as goal

abbrev pub invariant-loop-at : goal.invariant-loop-at
invariant-loop-at l = Gathered l.places l.size (stmts_of l.list) l.at-index (map naming_of l.namings.items)
