-- Runs with a budget of fuel that is handed on: a call takes a unit of what there is, and its
-- caller goes on with what the call leaves.
use Rattle.std.specs.Prelude.{◌≡◌, ℕ, zero, suc, Bool, true, false, List, [], ◌∷◌, ◌++◌}
use Rattle.jr_plans.specs.Plan.{Plan, done, act, ask, call}
use Rattle.jr_plans.specs.Run.{End, ended, cut, ill_typed, Outcome, runner, Grows}

pub record BudgetRun (V E A : Type 0) : Type 0 where
  pub trace : List E
  pub end : End A
  pub left : List V
  -- the units that weren't taken
  pub fuel : ℕ

abbrev pub budget_after : {V E A : Type 0} → List E → BudgetRun V E A → BudgetRun V E A
budget_after t o = record { trace = t ++ o.trace; end = o.end; left = o.left; fuel = o.fuel }

abbrev pub budget_on : {V E A B : Type 0} → List E → End A → List V → ℕ
    → (A → List V → ℕ → BudgetRun V E B) → BudgetRun V E B
budget_on t (ended a) vs n k = budget_after t (k a vs n)
budget_on t cut vs n k = record { trace = t; end = cut; left = vs; fuel = n }
budget_on t ill_typed vs n k = record { trace = t; end = ill_typed; left = vs; fuel = n }

abbrev pub budget_answer : {V E A : Type 0} → Bool → E → List V → ℕ → BudgetRun V E A
    → BudgetRun V E A
budget_answer true x vs n o = budget_after (x ∷ []) o
budget_answer false x vs n o = record { trace = []; end = ill_typed; left = vs; fuel = n }

-- how calls are run: with so many units, and these answers
abbrev pub BudgetRunner : Type 0 → Type 0 → Type 0 → Type 0 → Type 0
BudgetRunner V E S R = S → ℕ → List V → BudgetRun V E R

abbrev pub budget_run : {V E S R A : Type 0} → BudgetRunner V E S R → Plan V E S R A → ℕ → List V
    → BudgetRun V E A
budget_run H (done a) n vs = record { trace = []; end = ended a; left = vs; fuel = n }
budget_run H (act x p) n vs = budget_after (x ∷ []) (budget_run H p n vs)
budget_run H (ask f s p) n [] = record { trace = []; end = cut; left = []; fuel = n }
budget_run H (ask f s p) n (v ∷ vs) =
    budget_answer (f v) (s v) vs n (budget_run H (p v) n vs)
budget_run H (call c p) n vs =
    let o = H c n vs in
    budget_on o.trace o.end o.left o.fuel (λ r ws m. budget_run H (p r) m ws)

-- Calls that are run by a table of plans, none deeper than so many calls in one another.
abbrev pub budget_within : {V E S R : Type 0} → (S → Plan V E S R R) → ℕ → BudgetRunner V E S R
budget_within table zero c n vs = record { trace = []; end = cut; left = vs; fuel = n }
budget_within table (suc d) c zero vs = record { trace = []; end = cut; left = vs; fuel = zero }
budget_within table (suc d) c (suc n) vs = budget_run (budget_within table d) (table c) n vs

-- No call is deeper than it has units, so these bound the depth. `SpendsItsBudget` says what is
-- run.
abbrev pub budget_runner : {V E S R : Type 0} → (S → Plan V E S R R) → BudgetRunner V E S R
budget_runner table c n vs = budget_within table n c n vs

-- Without a unit there is no run. A call takes one, and its plan is run with those that are left,
-- which its calls hand on.
pub record SpendsItsBudget (V E S R : Type 0) : Type 0 where
  pub none : (table : S → Plan V E S R R) (c : S) (vs : List V)
      → budget_runner table c zero vs
      ≡ record { trace = []; end = cut; left = vs; fuel = zero }
  pub call : (table : S → Plan V E S R R) (c : S) (n : ℕ) (vs : List V)
      → budget_runner table c (suc n) vs ≡ budget_run (budget_runner table) (table c) n vs

-- the run without what it leaves
abbrev pub without_fuel : {V E A : Type 0} → BudgetRun V E A → Outcome V E A
without_fuel o = record { trace = o.trace; end = o.end; left = o.left }

-- Fuel as a budget and fuel as a depth have the same runs: what came to an end in the one reading
-- comes to it in the other, and the trace of a cut run is the front of one of the other's.
pub record FuelReadingsAgree (V E S R : Type 0) : Type 0 where
  -- a budget is enough as a depth
  pub as_depth : (table : S → Plan V E S R R) (n : ℕ) (c : S) (vs more : List V)
      → Grows more (without_fuel (budget_runner table c n vs)) (runner table n c (vs ++ more))
  -- what is run within a depth needs some budget
  pub as_budget : (table : S → Plan V E S R R) (n : ℕ) (c : S) (vs : List V)
      → (k : ℕ) × ((more : List V)
      → Grows more (runner table n c vs) (without_fuel (budget_runner table c k (vs ++ more))))
