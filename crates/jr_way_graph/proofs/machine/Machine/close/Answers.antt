use Rattle.std.proofs.Common.{◌≡◌, ◌++◌, ℕ, refl, subst}
use Rattle.jr_way_graph.specs.Pieces as pure
use Rattle.jr_way_graph.specs.PieceView.{piece_view}
use Rattle.jr_way_graph.proofs.Growing.{close_goes}
use Rattle.jr_way_graph.proofs.machine.Machine.close.Goals as goal

pub returns : goal.returns
returns c =
    let exit = c.args.self.now.count in
    let g = c.in-Some.block in
    close_goes exit _ c.args.self.now.pieces.items c.pop.new.self.items c.push.new.self.items c.args.self.now.edges.items c.inside_edges.new.edges.items g c.in_ok-piece.piece refl c.in-Some.ensures.items c.in_ok-push.ensures.items
    (subst (λ (n : ℕ). piece_view c.in_ok-piece.piece ≡ pure.inside_piece n exit (piece_view g)) c.saturating_sub-entry.ensures c.in_ok-piece.ensures)
    (subst (λ (n : ℕ). c.inside_edges.new.edges.items ≡ c.args.self.now.edges.items ++ pure.inside_edges n exit (piece_view g)) c.saturating_sub-entry.ensures c.in_ok-inside_edges.ensures)
