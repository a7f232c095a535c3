use Rattle.std.proofs.Common.{◌≡◌, ◌++◌}
use Rattle.jr_table.specs.Decls.{MemberKey}
use Rattle.jr_expr_sites.specs.StepView.{steps_in}
use Rattle.jr_cfg.specs.StatementRoutes.{endings_steps}
use Rattle.jr_cfg.proofs.statements.put_endings.Given as goal

abbrev pub invariant-loop-endings : goal.invariant-loop-endings
invariant-loop-endings l = (key : MemberKey) → steps_in key l.out.items ++ endings_steps l.endings.items ≡ steps_in key l.fn.out.items ++ endings_steps l.fn.endings.items

abbrev pub decreases-loop-endings : goal.decreases-loop-endings
decreases-loop-endings l = l.endings.len
