use Rattle.jr_ast.specs.View.{stmts_of}
use Rattle.jr_local_search.specs.Descending.{at_of}
use Rattle.jr_local_search.proofs.PlaceCases.{is_taken, is_open}
use Rattle.jr_local_search.proofs.places.unbarred.Goals as goal

pub returns-in-None : goal.returns-in-None
returns-in-None c = is_open c.args.name.now (at_of c.args.at) (stmts_of c.args.held.now) c.in_ok-taken.taken c.in_ok-taken.ensures c.in-None.is

pub returns-in-Some : goal.returns-in-Some
returns-in-Some c = is_taken c.args.name.now (at_of c.args.at) (stmts_of c.args.held.now) c.in_ok-taken.taken c.in_ok-taken.ensures c.in-Some.number c.in-Some.is
