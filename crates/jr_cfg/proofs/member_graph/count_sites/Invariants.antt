use Rattle.std.proofs.Common.{◌≡◌, ◌≤◌, length, take}
use Rattle.jr_table.specs.Decls.{MemberKey}
use Rattle.jr_expr_sites.specs.Steps.{sites_in}
use Rattle.jr_expr_sites.specs.StepView.{steps_in}
use Rattle.jr_cfg.proofs.member_graph.count_sites.Given as goal

abbrev pub invariant-loop-step : goal.invariant-loop-step
invariant-loop-step l = record {
  few : l.count ≤ l.step-index;
  counted : (key : MemberKey) → l.count ≡ length (sites_in (steps_in key (take l.step-index l.steps)));
}
