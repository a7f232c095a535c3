use Rattle.std.proofs.Common.{subst}
use Rattle.jr_new_words.specs.Mappings.{Renumbering}
use Rattle.jr_new_words.specs.MappingView.{renumbering_of}
use Rattle.jr_local_parts.specs.Begun.{BeginsBody}
use Rattle.jr_extract_lists.proofs.Numbers.{frames_piece_can, frames_piece_bare, frames_piece_walks}
use Rattle.jr_extract_lists.proofs.Places.{known_tables}
use Rattle.jr_extract_lists.proofs.walks.piece_by.Goals as goal

pub begin_body-requires : goal.begin_body-requires
begin_body-requires c =
    let t = c.args.of.now in
    let o = renumbering_of c.args.frames.now.outer in
    let r = renumbering_of c.args.frames.now.inner in
    record { tables = known_tables t (frames_piece_can t o r c.requires); bare = frames_piece_bare t o r c.requires }

pub walk_piece-out-requires : goal.walk_piece-out-requires
walk_piece-out-requires c = record {
  known = c.in_ok-here.ensures.known;
  walks = frames_piece_walks c.args.of.now (renumbering_of c.args.frames.now.outer) (renumbering_of c.args.frames.now.inner) c.in_ok-here.here c.in_ok-here.ensures c.requires;
}

pub returns : goal.returns
returns c = λ p x o i. c.walk_piece-out.ensures p x (subst (λ (r : Renumbering). BeginsBody c.args.of.now.body r c.in_ok-here.here) o c.in_ok-here.ensures) i
