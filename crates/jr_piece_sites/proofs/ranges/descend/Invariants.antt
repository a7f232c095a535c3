use Rattle.std.proofs.Common.{◌≡◌, ◌++◌, take, drop}
use Rattle.jr_expr_sites.specs.StepView.{given}
use Rattle.jr_piece_sites.specs.PieceView.{piece_of}
use Rattle.jr_piece_sites.specs.Descent.{Descended}
use Rattle.jr_piece_sites.proofs.ranges.descend.Given as goal

abbrev pub invariant-loop-step : goal.invariant-loop-step
invariant-loop-step g l = record {
  gone : Descended g.A.Mark.span_from g.A.Mark.fits_at (given g.F.Facts.decls g.F.Facts.types l.here) l.start.number l.start.base l.path.steps.items (piece_of l.start.of) l.steps (drop l.step-index l.steps) l.found.number l.found.base (piece_of l.found.of) l.place.steps.items l.fn.out.items l.out.items;
  place : l.place.steps.items ≡ l.path.steps.items ++ take l.step-index l.steps;
}
