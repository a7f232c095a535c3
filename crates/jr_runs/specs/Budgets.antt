-- Runs of a program with fuel as a budget that each call, constructor run and turn takes a unit of,
-- and hands on.
use Rattle.std.specs.Prelude.{◌≡◌, ℕ, List, ◌++◌}
use Rattle.jr_plans.specs.Run.{ended}
use Rattle.jr_plans.specs.Budget.{BudgetRun, budget_runner}
use Rattle.jr_runs.specs.Keys.{Keys, keys_of}
use Rattle.jr_runs.specs.Values.{Value}
use Rattle.jr_runs.specs.Actions.{Event, Trace}
use Rattle.jr_runs.specs.Arithmetic.{Out}
use Rattle.jr_runs.specs.Core.{Program}
use Rattle.jr_runs.specs.Evaluation.{Flow, table}
use Rattle.jr_runs.specs.Running.{Start, call_of, actions_of, Ending, ending_of, Whole, Bounded}

abbrev pub budget_run_of : {K : Keys} → Program K → Start K → List (Value K) → ℕ
    → BudgetRun (Value K) (Event K) (Out (Flow K))
budget_run_of P c answers fuel = budget_runner (table P) (call_of c) fuel answers

-- with some answers and some budget the program makes just these actions, and ends so
pub record WholeByBudget {K : Keys} (P : Program K) (c : Start K) (t : Trace K)
    (e : Ending K) : Type 0 where
  pub answers : List (Value K)
  pub fuel : ℕ
  pub out : Out (Flow K)
  pub trace_is : actions_of (budget_run_of P c answers fuel).trace ≡ t
  pub end_is : (budget_run_of P c answers fuel).end ≡ ended out
  pub ending_is : ending_of out ≡ e

-- with some answers and some budget it makes actions that begin so
pub record BoundedByBudget {K : Keys} (P : Program K) (c : Start K) (t : Trace K) : Type 0 where
  pub answers : List (Value K)
  pub fuel : ℕ
  pub rest : Trace K
  pub trace_is : actions_of (budget_run_of P c answers fuel).trace ≡ t ++ rest

-- Whole and bounded runs are the same, whether fuel is a depth or a budget.
pub record SameByBudget {K : Keys} (P : Program K) (c : Start K) : Type 0 where
  pub whole : (t : Trace K) (e : Ending K) → Whole P c t e → WholeByBudget P c t e
  pub whole_back : (t : Trace K) (e : Ending K) → WholeByBudget P c t e → Whole P c t e
  pub bounded : (t : Trace K) → Bounded P c t → BoundedByBudget P c t
  pub bounded_back : (t : Trace K) → BoundedByBudget P c t → Bounded P c t

abbrev pub FuelReadingsAgree : (C F M N A : Type 0) → Type 0
FuelReadingsAgree C F M N A =
    (P : Program (keys_of C F M N A)) (c : Start (keys_of C F M N A)) → SameByBudget P c
