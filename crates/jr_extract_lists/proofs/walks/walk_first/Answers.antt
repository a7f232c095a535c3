use Rattle.std.proofs.Common.{map, refl, sym, subst}
use Rattle.std.proofs.lemmas.Result.{IfOk-weaker}
use Rattle.jr_ast.specs.View.{stmt_of, stmts_of}
use Rattle.jr_new_bodies.specs.Known.{IsKnown}
use Rattle.jr_new_bodies.specs.OutputView.{gathered}
use Rattle.jr_new_bodies.specs.SpotView.{part_of}
use Rattle.jr_extract_lists.proofs.Places.{known_statement}
use Rattle.jr_extract_lists.proofs.Passing.{statements_can, statements_deep, first_may, first_passes}
use Rattle.jr_extract_lists.proofs.walks.walk_first.Goals as goal

pub path_to-requires : goal.path_to-requires
path_to-requires c = statements_deep c.selected_are_ready.ensures c.args.of.now c.args.at.now c.args.here.now (map part_of c.args.spots.now) c.requires.walks

pub statement_of-requires : goal.statement_of-requires
statement_of-requires c = known_statement c.args.of.now (statements_can c.args.of.now c.args.at.now c.args.here.now (map part_of c.args.spots.now) c.requires.walks)

pub stmt-requires : goal.stmt-requires
stmt-requires c =
    let s = c.statement_of.result in
    record {
      known = subst IsKnown (sym c.set_spots.ensures) c.requires.known;
      ready = first_may c.selected_are_ready.ensures c.args.of.now c.args.at.now c.args.here.now c.set_spots.new.here (stmt_of s.0.now) (stmts_of s.1.now) c.statement_of.ensures _ c.set_spots.ensures (map part_of c.args.spots.now) c.requires.walks _ c.in_ok-path.ensures;
    }

pub returns : goal.returns
returns c = λ p x a e puts.
    let s = c.statement_of.result in
    IfOk-weaker c.stmt.result _ _
    (λ n passes. first_passes c.selected_are_ready.ensures c.args.of.now c.args.at.now c.args.here.now c.set_spots.new.here (stmt_of s.0.now) (stmts_of s.1.now) c.statement_of.ensures c.extract_is_walked.ensures p x e (gathered c.args.out.now) (gathered c.stmt.new.out) c.stmt.new.here
    _ c.set_spots.ensures (map part_of c.args.spots.now) refl a puts n passes) c.stmt.ensures
