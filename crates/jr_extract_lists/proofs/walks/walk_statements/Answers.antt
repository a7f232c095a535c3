use Rattle.std.proofs.Common.{map}
use Rattle.std.proofs.lemmas.Result.{IfOk-weaker}
use Rattle.jr_new_bodies.specs.OutputView.{gathered}
use Rattle.jr_new_bodies.specs.SpotView.{part_of}
use Rattle.jr_extract_lists.proofs.Passing.{first_known, first_then, both_listed}
use Rattle.jr_extract_lists.proofs.walks.walk_statements.Goals as goal

pub walk_rest-requires : goal.walk_rest-requires
walk_rest-requires c =
    let ps = map part_of c.args.spots.now in
    record {
      known = first_known c.args.of.now c.args.at.now c.args.here.now c.walk_first.new.here ps c.in_ok-number.number (gathered c.args.out.now) (gathered c.walk_first.new.out) c.requires.walks c.in_ok-number.ensures;
      walks = first_then c.args.of.now c.args.at.now c.args.here.now c.walk_first.new.here ps c.in_ok-number.number (gathered c.args.out.now) (gathered c.walk_first.new.out) c.requires.walks c.in_ok-number.ensures;
    }

pub returns : goal.returns
returns c = λ p x a e puts.
    let first = c.in_ok-number.ensures p x a e puts in
    IfOk-weaker c.walk_rest.result _ _ (λ u rest. both_listed p c.args.of.now x (gathered c.args.out.now) (gathered c.walk_first.new.out) (gathered c.walk_rest.new.out) first.gives rest) (c.walk_rest.ensures p x first.behind e)
