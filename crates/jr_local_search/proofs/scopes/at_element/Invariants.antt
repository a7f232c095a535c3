use Rattle.std.proofs.Common.{drop}
use Rattle.jr_ast.specs.View.{stmts_of}
use Rattle.jr_local_search.specs.Descending.{at_of, place_of}
use Rattle.jr_local_search.proofs.Descents.{Leads}
use Rattle.jr_local_search.proofs.scopes.at_element.Given as goal

abbrev pub invariant-loop-number : goal.invariant-loop-number
invariant-loop-number l = Leads l.name l.first (stmts_of l.list) l.path (at_of l.fn.at) (place_of l.place) (drop l.number-index l.path)
