use Rattle.std.proofs.Common.{subst}
use Rattle.jr_ast.specs.View.{expr_of, stmt_of, stmts_of}
use Rattle.jr_grammar.specs.Layout.{itself}
use Rattle.jr_table.specs.Binding.{value}
use Rattle.jr_new_words.specs.MappingView.{renumbering_of}
use Rattle.jr_new_bodies.specs.Effects.{Effect}
use Rattle.jr_new_bodies.specs.OutputView.{gathered}
use Rattle.jr_new_bodies.specs.Walks.{ExpGathers}
use Rattle.jr_extract_lists.proofs.Places.{known_statement}
use Rattle.jr_extract_lists.proofs.Pieces.{piece_ready, piece_moves}
use Rattle.jr_extract_lists.proofs.Walking.{can_walk_piece, piece_known, piece_makes, the_piece, some_piece}
use Rattle.jr_extract_lists.proofs.walks.walk_piece.Goals as goal

pub go-requires : goal.go-requires
go-requires c = c.requires.known

pub make-requires : goal.make-requires
make-requires c =
    let r = renumbering_of c.args.numbers.now in
    record {
      known = piece_known c.args.of.now c.args.here.now c.go.new.here r c.in_ok-at.at c.requires.walks c.in_ok-at.ensures;
      makes = piece_makes c.args.of.now c.args.here.now c.go.new.here r c.in_ok-at.at c.requires.walks c.in_ok-at.ensures;
    }

pub statement_of-requires : goal.statement_of-requires
statement_of-requires c = known_statement c.args.of.now (can_walk_piece c.args.of.now c.args.here.now (renumbering_of c.args.numbers.now) c.requires.walks)

pub enter-requires : goal.enter-requires
enter-requires c = c.in_ok-make.ensures.known

pub piece-requires : goal.piece-requires
piece-requires c =
    let t = c.args.of.now in
    let s = c.statement_of.result in
    let h = c.enter.new.here in
    let a = some_piece c.elements_hold_it.ensures t c.args.here.now c.go.new.here c.make.new.here h c.in_ok-at.at (renumbering_of c.args.numbers.now) (stmt_of s.0.now) (stmts_of s.1.now) c.in_ok-at.ensures c.in_ok-make.ensures c.statement_of.ensures
    c.in_ok-enter.ensures c.requires.walks in
    record { known = c.in_ok-enter.ensures.known; ready = piece_ready a.0 t a.1.0 h a.1.1 c.in_ok-at.at.element.base c.selected_are_ready.ensures }

pub returns : goal.returns
returns c = λ p x begins same.
    let t = c.args.of.now in
    let s = c.statement_of.result in
    let h = c.enter.new.here in
    let base = c.in_ok-at.at.element.base in
    let a = the_piece c.elements_hold_it.ensures t c.args.here.now c.go.new.here c.make.new.here h c.in_ok-at.at (renumbering_of c.args.numbers.now) (stmt_of s.0.now) (stmts_of s.1.now) c.in_ok-at.ensures c.in_ok-make.ensures c.statement_of.ensures
    c.in_ok-enter.ensures p x begins same in
    let out = gathered c.piece.new.out in
    piece_moves p t x h a base c.selected_are_ready.ensures c.extract_is_walked.ensures c.spans_have_no_base.ensures out
    (subst (λ (old : Effect). ExpGathers itself h value base (expr_of t.value.now) old out) c.new_output-out.ensures c.in_ok-piece.ensures)
