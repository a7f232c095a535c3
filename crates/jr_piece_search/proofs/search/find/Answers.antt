use Rattle.std.proofs.Common.{◌<◌, subst, sym}
use Rattle.jr_ast.specs.View.{stmts_of}
use Rattle.jr_piece_search.specs.declared.search.Turn.{Turn}
use Rattle.jr_piece_search.specs.StatementView.{place_of, turn_of}
use Rattle.jr_piece_search.proofs.StatementGoing.{Holds, starts, turns, smaller, turn_size}
use Rattle.jr_piece_search.proofs.search.find.Goals as goal

pub loop-turn-init : goal.loop-turn-init
loop-turn-init c = starts c.args.span.now (stmts_of c.args.list.now) c.args.first c.args.path.now.items _ (turn_of c.in_ok-turn.turn) c.in_ok-turn.ensures

pub returns-in-Ended : goal.returns-in-Ended
returns-in-Ended c =
    let l = c.loop-turn in
    subst (λ (t : Turn). Holds c.args.span.now (stmts_of c.args.list.now) c.args.first c.args.path.now.items l.path.items (turn_of t)) c.in-Ended.is l.invariant

pub loop-turn-smaller : goal.loop-turn-smaller
loop-turn-smaller c =
    let next = turn_of c.in_ok-turn-in-At.turn in
    subst (λ (t : Turn). turn_size next < turn_size (turn_of t)) (sym c.in-At.is)
    (smaller c.args.span.now (place_of c.in-At.place) c.loop-turn.path.items c.turn_from.new.path.items next c.in_ok-turn-in-At.ensures)

pub loop-turn-preserved : goal.loop-turn-preserved
loop-turn-preserved c =
    let l = c.loop-turn in
    let s = c.args.span.now in
    let b = stmts_of c.args.list.now in
    let old = c.args.path.now.items in
    let here = subst (λ (t : Turn). Holds s b c.args.first old l.path.items (turn_of t)) c.in-At.is l.invariant in
    turns s b c.args.first old (place_of c.in-At.place) l.path.items c.turn_from.new.path.items here (turn_of c.in_ok-turn-in-At.turn) c.in_ok-turn-in-At.ensures
