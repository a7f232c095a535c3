use Rattle.std.proofs.lemmas.Result.{IfOk-weaker}
use Rattle.jr_ast.specs.View.{stmts_of}
use Rattle.jr_piece_search.specs.StatementView.{found_of}
use Rattle.jr_local_search.specs.Descending.{at_of}
use Rattle.jr_local_search.specs.Places.{IsUnbarred, IsExtractPlace}
use Rattle.jr_local_search.specs.PlaceView.{extract_of}
use Rattle.jr_local_search.proofs.PlaceCases.{is_barred, is_unbarred}
use Rattle.jr_local_search.proofs.places.extract_place.Goals as goal

pub returns-in-Some : goal.returns-in-Some
returns-in-Some c = is_barred c.args.name.now (at_of c.args.at) c.args.first (stmts_of c.args.list.now) c.args.path.now (found_of c.args.found.now) c.in-Some.byte c.in-Some.is

pub returns-in_ok-element-in-None : goal.returns-in_ok-element-in-None
returns-in_ok-element-in-None c =
    let name = c.args.name.now in
    let x = found_of c.args.found.now in
    let inner = at_of c.in_ok-element-in-None.element in
    IfOk-weaker c.unbarred.result (λ r. IsUnbarred name inner x.list (extract_of r)) (λ r. IsExtractPlace name (at_of c.args.at) c.args.first (stmts_of c.args.list.now) c.args.path.now x (extract_of r))
    (λ r. is_unbarred name (at_of c.args.at) c.args.first (stmts_of c.args.list.now) c.args.path.now x c.in-None.is inner c.in_ok-element-in-None.ensures (extract_of r)) c.unbarred.ensures
