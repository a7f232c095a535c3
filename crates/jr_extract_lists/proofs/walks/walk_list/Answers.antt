use Rattle.std.proofs.Common.{map, refl, sym, ap}
use Rattle.jr_ast.specs.View.{stmt_of, stmts_of}
use Rattle.jr_ast.proofs.Rows.{stmt_mark_is}
use Rattle.jr_rewrite.specs.ChangeView.{changes_of}
use Rattle.jr_new_words.specs.MappingView.{renumbering_of}
use Rattle.jr_new_bodies.specs.OutputView.{gathered}
use Rattle.jr_new_bodies.specs.SpotView.{part_of}
use Rattle.jr_extract_lists.specs.Walked.{from_there}
use Rattle.jr_extract_lists.proofs.Places.{known_statement}
use Rattle.jr_extract_lists.proofs.Walking.{list_known, list_makes, list_can, list_type, list_begins, list_fits, the_list, some_list, first_mark, value_mark}
use Rattle.jr_extract_lists.proofs.Listing.{writes, all_listed}
use Rattle.jr_extract_lists.proofs.walks.walk_list.Goals as goal

pub go-requires : goal.go-requires
go-requires c = c.requires.known

pub make-requires : goal.make-requires
make-requires c =
    let r = renumbering_of c.args.inside.numbers.now in
    let ps = map part_of c.args.inside.spots.now in
    let e = gathered c.args.piece in
    record {
      known = list_known c.args.of.now c.args.here.now c.go.new.here r ps e c.in_ok-at.at c.requires.walks c.in_ok-at.ensures;
      makes = list_makes c.args.of.now c.args.here.now c.go.new.here r ps e c.in_ok-at.at c.requires.walks c.in_ok-at.ensures;
    }

pub written_type-requires : goal.written_type-requires
written_type-requires c = record {
  known = c.in_ok-make.ensures.known;
  kept = list_type c.args.of.now c.args.here.now (renumbering_of c.args.inside.numbers.now) (map part_of c.args.inside.spots.now) (gathered c.args.piece) c.requires.walks;
}

pub statement_of-requires : goal.statement_of-requires
statement_of-requires c = known_statement c.args.of.now (list_can c.args.of.now c.args.here.now (renumbering_of c.args.inside.numbers.now) (map part_of c.args.inside.spots.now) (gathered c.args.piece) c.requires.walks)

pub declaration-requires : goal.declaration-requires
declaration-requires c =
    let t = c.args.of.now in
    let s = c.statement_of.result in
    let r = renumbering_of c.args.inside.numbers.now in
    let ps = map part_of c.args.inside.spots.now in
    record {
      begins = list_begins c.pieces_fit.ensures t c.args.here.now r ps (gathered c.args.piece) c.requires.walks (stmt_of s.0.now) (stmts_of s.1.now) c.statement_of.ensures _ (ap (λ m. m.from) (sym (stmt_mark_is s.0.now)));
      fits = list_fits c.pieces_fit.ensures t c.args.here.now r ps (gathered c.args.piece) c.requires.walks _ (ap changes_of c.as_slice-changes.ensures.value);
    }

pub walk_statements-requires : goal.walk_statements-requires
walk_statements-requires c = record {
  known = c.in_ok-make.ensures.known;
  walks = some_list c.args.of.now c.args.here.now c.go.new.here c.make.new.here c.in_ok-at.at (renumbering_of c.args.inside.numbers.now) c.in_ok-at.ensures c.in_ok-make.ensures (map part_of c.args.inside.spots.now) (gathered c.args.piece) c.requires.walks;
}

pub single-requires : goal.single-requires
single-requires c = (c.in_ok-ty.ensures c.args.of.now.value.now.mark).2.few

pub returns : goal.returns
returns c = λ p x begins same puts moves.
    let t = c.args.of.now in
    let s = c.statement_of.result in
    let r = renumbering_of c.args.inside.numbers.now in
    let three = c.make.new.here in
    let a = the_list t c.args.here.now c.go.new.here three c.in_ok-at.at r c.in_ok-at.ensures c.in_ok-make.ensures p x begins same in
    let type = writes p t x c.selected_are_ready.ensures c.types_are_written.ensures three a c.in_ok-ty.ty c.in_ok-ty.ensures in
    let place = c.in_ok-at.ensures p x (from_there x) begins in
    let listed = c.in_ok-walk_statements.ensures p x a place.place.element_is puts in
    all_listed p t x (gathered c.args.piece) moves c.in_ok-ty.ty type.0 type.1 type.2 c.in_ok-put.put s.0.now.mark.from (first_mark p t x s.0.now (stmts_of s.1.now) c.statement_of.ensures) (value_mark p t x) _ (ap changes_of c.as_slice-changes.ensures.value) c.in_ok-put.ensures
    (gathered c.in_ok-out.out) (gathered c.walk_statements.new.out) c.in_ok-out.ensures listed c.walk_statements.new.out c.single.result c.single.ensures refl
