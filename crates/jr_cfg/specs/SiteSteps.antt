-- The site of a step, if it has one.
use Rattle.std.specs.Prelude.{Option, Some, None}
use Rattle.jr_expr_sites.specs.Steps as step
use Rattle.jr_expr_sites.specs.Steps.{Step}

abbrev pub site_in : {S : Type 0} → Step S → Option S
site_in step.pass = None
site_in (step.site s) = Some s
site_in (step.opens s) = Some s
site_in step.row = None
site_in step.fork = None
site_in step.leave = None
site_in step.turns = None
site_in (step.closes s) = Some s
