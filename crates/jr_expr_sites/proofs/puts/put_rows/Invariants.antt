use Rattle.std.proofs.Common.{◌≡◌, ◌++◌}
use Rattle.jr_table.specs.Decls.{MemberKey}
use Rattle.jr_expr_sites.specs.Steps as step
use Rattle.jr_expr_sites.specs.StepView.{steps_in}
use Rattle.jr_expr_sites.proofs.puts.put_rows.Given as goal

abbrev pub invariant-loop-number : goal.invariant-loop-number
invariant-loop-number l = (key : MemberKey) → steps_in key l.out.items ≡ steps_in key l.fn.out.items ++ step.rows l._number
