use Rattle.std.proofs.Common.{map, subst}
use Rattle.jr_new_words.specs.Mappings.{Renumbering}
use Rattle.jr_new_words.specs.MappingView.{renumbering_of}
use Rattle.jr_new_bodies.specs.OutputView.{gathered}
use Rattle.jr_new_bodies.specs.SpotView.{part_of}
use Rattle.jr_local_parts.specs.Begun.{BeginsBody}
use Rattle.jr_extract_lists.proofs.Numbers.{frames_list_can, frames_list_bare, frames_list_walks}
use Rattle.jr_extract_lists.proofs.Places.{known_tables}
use Rattle.jr_extract_lists.proofs.walks.list_by.Goals as goal

pub begin_body-requires : goal.begin_body-requires
begin_body-requires c =
    let t = c.args.of.now in
    let o = renumbering_of c.args.frames.now.outer in
    let r = renumbering_of c.args.frames.now.inner in
    let ps = map part_of c.args.frames.now.spots.now in
    record { tables = known_tables t (frames_list_can t o r ps (gathered c.args.piece) c.requires); bare = frames_list_bare t o r ps (gathered c.args.piece) c.requires }

pub walk_list-listed-requires : goal.walk_list-listed-requires
walk_list-listed-requires c = record {
  known = c.in_ok-here.ensures.known;
  walks = frames_list_walks c.args.of.now (renumbering_of c.args.frames.now.outer) (renumbering_of c.args.frames.now.inner) (map part_of c.args.frames.now.spots.now) (gathered c.args.piece) c.in_ok-here.here c.in_ok-here.ensures c.requires;
}

pub returns : goal.returns
returns c = λ p x o i puts moves. c.walk_list-listed.ensures p x (subst (λ (r : Renumbering). BeginsBody c.args.of.now.body r c.in_ok-here.here) o c.in_ok-here.ensures) i puts moves
