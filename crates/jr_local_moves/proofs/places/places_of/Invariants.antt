use Rattle.jr_table.specs.KeyView.{decl_of}
use Rattle.jr_local_moves.proofs.Referring.{AreSo}
use Rattle.jr_local_moves.proofs.places.places_of.Given as goal

abbrev pub invariant-loop-reference : goal.invariant-loop-reference
invariant-loop-reference l = AreSo l.start (decl_of l.wanted) l.bound.references l.reference-items l.places.items l.reference-index
