use Rattle.std.proofs.Common.{refl, sym, subst}
use Rattle.jr_ast.specs.View.{stmt_of, stmts_of}
use Rattle.jr_new_bodies.specs.Known.{IsKnown}
use Rattle.jr_new_bodies.specs.OutputView.{gathered}
use Rattle.jr_extract_lists.proofs.Places.{known_statement}
use Rattle.jr_extract_lists.proofs.Passing.{rest_can, rest_may, rest_passes}
use Rattle.jr_extract_lists.proofs.walks.walk_rest.Goals as goal

pub statement_of-requires : goal.statement_of-requires
statement_of-requires c = known_statement c.args.of.now (rest_can c.args.of.now c.args.at.now c.args.here.now c.args.number c.requires.walks)

pub stmts-requires : goal.stmts-requires
stmts-requires c =
    let s = c.statement_of.result in
    record {
      known = subst IsKnown (sym c.set_spots.ensures) c.requires.known;
      ready = rest_may c.selected_are_ready.ensures c.args.of.now c.args.at.now c.args.here.now c.set_spots.new.here (stmt_of s.0.now) (stmts_of s.1.now) c.statement_of.ensures _ c.set_spots.ensures c.args.number c.requires.walks _ _ c.in_ok-around.ensures c.in_ok-step.ensures;
    }

pub returns : goal.returns
returns c = λ p x a e.
    let s = c.statement_of.result in
    rest_passes c.selected_are_ready.ensures c.args.of.now c.args.at.now c.args.here.now c.set_spots.new.here (stmt_of s.0.now) (stmts_of s.1.now) c.statement_of.ensures c.extract_is_walked.ensures p x e (gathered c.args.out.now) (gathered c.stmts.new.out) c.stmts.new.here
    _ c.set_spots.ensures refl c.args.number a _ c.in_ok-stmts.ensures
