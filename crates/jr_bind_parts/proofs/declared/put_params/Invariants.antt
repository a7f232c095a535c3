use Rattle.std.proofs.Common.{drop}
use Rattle.jr_bind_parts.proofs.Declaring.{Left}
use Rattle.jr_bind_parts.proofs.declared.put_params.Given as goal

abbrev pub invariant-loop-param : goal.invariant-loop-param
invariant-loop-param g l =
    Left (λ m b. (g.A.Mark.span_from m b).from) g.A.Mark.fits_at l.table l.class l.base l.params l.fn.log.items l.log.items (drop l.param-index l.params)
