use Rattle.jr_plans.proofs.Budgets as laws
use Rattle.jr_plans.proofs.laws.fuel_readings_agree.Goals as goal

pub returns : goal.returns
returns g c = record { budget = laws.spends_its_budget; agree = laws.fuel_readings_agree }
