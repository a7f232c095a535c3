-- Pieces and their stack as contracts see them.
use Rattle.std.specs.Prelude.{List, [], ◌∷◌}
use Rattle.jr_way_graph.specs.declared.pieces.Piece.{Piece}
use Rattle.jr_way_graph.specs.declared.machine.Machine as raw
use Rattle.jr_way_graph.specs.Pieces as pure

abbrev pub piece_view : Piece → pure.Piece
piece_view p = record {
  begin = p.begin;
  firsts = p.firsts.items;
  lasts = p.lasts.items;
  leaves = p.leaves.items;
  passes = p.passes;
  leaves_at_once = p.leaves_at_once;
}

abbrev pub onto : List Piece → List pure.Piece → List pure.Piece
onto [] below = below
onto (p ∷ ps) below = onto ps (piece_view p ∷ below)

-- the last stands in front
abbrev pub stack_view : List Piece → List pure.Piece
stack_view ps = onto ps []

abbrev pub machine_view : raw.Machine → pure.Machine
machine_view m = record {
  count = m.count;
  stack = stack_view m.pieces.items;
  edges = m.edges.items;
}
