-- A way as a row of shapes, each behind its parts.
use Rattle.std.specs.Prelude.{List, [], ◌∷◌, ◌++◌}
use Rattle.jr_cover.specs.Ways.{Way, pass, one, row, fork, leave, turns, inside}
use Rattle.jr_way_graph.specs.declared.shapes.Shape.{Shape}
use Rattle.jr_way_graph.specs.declared.shapes.Shape.TheVariants as shape

abbrev pub shapes_of : {S : Type 0} → Way S → List Shape
shapes_of pass = shape.Pass ∷ []
shapes_of (one s) = shape.Site ∷ []
shapes_of (row a b) = shapes_of a ++ (shapes_of b ++ shape.Row ∷ [])
shapes_of (fork a b) = shapes_of a ++ (shapes_of b ++ shape.Fork ∷ [])
shapes_of leave = shape.Leave ∷ []
shapes_of (turns s c b) = shape.Opens ∷ (shapes_of c ++ (shapes_of b ++ shape.Turns ∷ []))
shapes_of (inside e b x) = shape.Opens ∷ (shapes_of b ++ shape.Closes ∷ [])
