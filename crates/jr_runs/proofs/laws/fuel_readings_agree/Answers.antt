use Rattle.jr_runs.proofs.BudgetRuns as budgets
use Rattle.jr_runs.proofs.laws.fuel_readings_agree.Goals as goal

pub returns : goal.returns
returns g c = budgets.same_by_budget
