use Rattle.jr_expr_sites.specs.StepView.{given}
use Rattle.jr_piece_sites.specs.PieceView.{piece_of}
use Rattle.jr_piece_sites.proofs.Putting.{Putting}
use Rattle.jr_piece_sites.proofs.member_footprints.put_parts.Given as goal

abbrev pub invariant-loop-step : goal.invariant-loop-step
invariant-loop-step g l = Putting g.A.Mark.span_from (given g.F.Facts.decls g.F.Facts.types l.here) l.found.number l.found.base l.path.steps.items (piece_of l.found.of) l.from l.to l.fn.out.items l.step l.number l.out.items
