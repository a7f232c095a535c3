use Rattle.std.proofs.Common.{◌≡◌, map, take}
use Rattle.jr_table.specs.Decls.{MemberKey}
use Rattle.jr_expr_sites.specs.Steps.{shape_of}
use Rattle.jr_expr_sites.specs.StepView.{steps_in}
use Rattle.jr_cfg.proofs.member_graph.shapes.Given as goal

abbrev pub invariant-loop-step : goal.invariant-loop-step
invariant-loop-step l = (key : MemberKey) → l.list.items ≡ map shape_of (steps_in key (take l.step-index l.steps))
