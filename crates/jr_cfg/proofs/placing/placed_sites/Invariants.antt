use Rattle.std.proofs.Common.{◌≡◌, map, take}
use Rattle.jr_sites.specs.SiteView.{placed_of}
use Rattle.jr_cfg.specs.Placed.{placed}
use Rattle.jr_expr_sites.specs.Steps.{sites_in}
use Rattle.jr_expr_sites.specs.StepView.{given, steps_in}
use Rattle.jr_cfg.proofs.placing.placed_sites.Given as goal

abbrev pub invariant-loop-step : goal.invariant-loop-step
invariant-loop-step g l =
    map placed_of l.list.items ≡ map (placed (given g.F.Facts.decls g.F.Facts.types l.here)) (sites_in (steps_in (given g.F.Facts.decls g.F.Facts.types l.here).member (take l.step-index l.steps)))
