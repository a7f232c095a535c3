use Rattle.std.proofs.Common.{◌≡◌, ◌++◌, ◌∙◌, ℕ, nat_eq, subst}
use Rattle.jr_way_graph.specs.Pieces as pure
use Rattle.jr_way_graph.specs.PieceView.{piece_view}
use Rattle.jr_way_graph.proofs.Growing.{join_goes}
use Rattle.jr_way_graph.proofs.machine.Machine.turns.Goals as goal

pub returns : goal.returns
returns c =
    let f = c.in-Some-Some.condition in
    let g = c.in-Some-Some.body in
    let bare = nat_eq g.begin f.begin in
    join_goes pure.loop_piece pure.loop_edges c.args.self.now.count c.args.self.now.pieces.items c.pop.new.self.items c.pop-2.new.self.items c.push.new.self.items c.args.self.now.edges.items c.turns_edges.new.edges.items
    f g c.in_ok-piece.piece c.in-Some-Some.ensures.items c.in-Some-Some.ensures'.items c.in_ok-push.ensures.items
    (subst (λ (n : ℕ). piece_view c.in_ok-piece.piece ≡ pure.turns_piece bare n (piece_view f) (piece_view g)) c.saturating_sub-number.ensures (c.in_ok-piece.ensures bare (piece_view f) c.in_ok-ends.ensures))
    (subst (λ (n : ℕ). c.turns_edges.new.edges.items ≡ c.args.self.now.edges.items ++ pure.turns_edges bare n (piece_view f) (piece_view g)) c.saturating_sub-number.ensures (c.in_ok-turns_edges.ensures bare (c.as_slice.ensures.value ∙ c.in_ok-ends.ensures) (c.as_slice-2.ensures.value ∙ c.in_ok-again.ensures)))
