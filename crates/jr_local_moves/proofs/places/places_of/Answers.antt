use Rattle.std.proofs.Common.{◌++◌, ◌∙◌, map, ap}
use Rattle.jr_table.specs.KeyView.{decl_of}
use Rattle.jr_bind.specs.BoundView.{reference_of}
use Rattle.jr_local_moves.specs.ReferencePlaces.{places_of as pure}
use Rattle.jr_local_moves.proofs.Referring.{goes_on, all_told, left_is}
use Rattle.jr_local_moves.proofs.places.places_of.Goals as goal

pub loop-reference-init : goal.loop-reference-init
loop-reference-init c = ap (λ ps. ps ++ pure c.args.start (decl_of c.args.wanted.now) c.args.bound.now.references (map reference_of c.references-reference-items.result.now)) c.new-places.ensures.items

pub loop-reference-preserved : goal.loop-reference-preserved
loop-reference-preserved c =
    let l = c.loop-reference in
    goes_on c.args.start (decl_of c.args.wanted.now) c.args.bound.now.references c.references-reference-items.result.now l.places.items c.add_place.new.places.items l.reference-index c.reference-item.result
    (left_is c.references-reference-items.result.now l.reference-index c.reference-item.result c.loop-reference-test.true c.reference-item.is) c.in_ok-add_place.ensures l.invariant

pub returns : goal.returns
returns c =
    let l = c.loop-reference in
    let all = c.args.bound.now.references in
    all_told c.args.start (decl_of c.args.wanted.now) all c.references-reference-items.result.now l.places.items l.reference-index c.loop-reference-test.false l.invariant
    ∙ ap (pure c.args.start (decl_of c.args.wanted.now) all) c.references-reference-items.ensures
