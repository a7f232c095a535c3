use Rattle.std.proofs.Common.{◌≡◌, sym, subst}
use Rattle.jr_ast.specs.View.{stmts_of}
use Rattle.jr_local_search.specs.Scopes.{AtElement, IsAtElement}
use Rattle.jr_local_search.specs.Descending.{at_of, place_of}
use Rattle.jr_local_search.proofs.Descents.{starts, goes_on, ends_there}
use Rattle.jr_local_search.proofs.scopes.at_element.Goals as goal

pub loop-number-init : goal.loop-number-init
loop-number-init c = starts c.args.name.now c.args.first (stmts_of c.args.list.now) c.args.path.now (at_of c.args.at)

pub loop-number-preserved : goal.loop-number-preserved
loop-number-preserved c =
    let l = c.loop-number in
    goes_on c.args.name.now c.args.first (stmts_of c.args.list.now) c.args.path.now (at_of c.args.at) (place_of l.place) (place_of c.in_ok-place.place) c.args.path.now l.number-index _
    c.loop-number-test.true c.in_ok-place.ensures l.invariant

pub returns : goal.returns
returns c =
    let l = c.loop-number in
    subst (IsAtElement c.args.name.now c.args.first (stmts_of c.args.list.now) c.args.path.now (at_of c.args.at)) (sym c.element.ensures)
    (ends_there c.args.name.now c.args.first (stmts_of c.args.list.now) c.args.path.now (at_of c.args.at) (place_of l.place) c.args.path.now l.number-index c.loop-number-test.false l.invariant)
