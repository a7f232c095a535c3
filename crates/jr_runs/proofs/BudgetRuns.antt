-- A program has the same runs, whether fuel is a depth or a budget.
use Rattle.std.proofs.Common.{◌≡◌, List, [], ◌++◌, sym, ap, ◌∙◌, subst, append_assoc, append-nil}
use Rattle.jr_plans.specs.Run.{End, ended, cut, ill_typed, Outcome, Keeps, Grows}
use Rattle.jr_plans.specs.Budget.{FuelReadingsAgree, without_fuel}
use Rattle.jr_plans.proofs.Budgets.{fuel_readings_agree}
use Rattle.jr_runs.specs.Keys.{Keys}
use Rattle.jr_runs.specs.Values.{Value}
use Rattle.jr_runs.specs.Actions.{Event, Trace}
use Rattle.jr_runs.specs.Arithmetic.{Out}
use Rattle.jr_runs.specs.Core.{Program}
use Rattle.jr_runs.specs.Evaluation.{Flow, Call, table}
use Rattle.jr_runs.specs.Running.{Start, call_of, plain_run, actions_of}
use Rattle.jr_runs.specs.Budgets.{budget_run_of, SameByBudget}
use Rattle.jr_runs.proofs.Halves.{actions_append}

-- a longer run begins with the shorter one's trace
keeps_front : {V E A : Type 0} (more : List V) (t : List E) (e : End A) (vs : List V) (o : Outcome V E A) → Keeps more t e vs o → (u : List E) × (o.trace ≡ t ++ u)
keeps_front more t (ended a) vs o h = ([], h.0 ∙ sym (append-nil t))
keeps_front more t cut vs o h = h
keeps_front more t ill_typed vs o h = ([], h.0 ∙ sym (append-nil t))

module _ {K : Keys} (P : Program K) (c : Start K) where
  abbrev agree : FuelReadingsAgree (Value K) (Event K) (Call K) (Out (Flow K))
  agree = fuel_readings_agree

  abbrev Run : Type 0
  Run = Outcome (Value K) (Event K) (Out (Flow K))

  -- what has ended stays so
  whole_grows : (o q : Run) → Grows [] o q → (out : Out (Flow K)) → o.end ≡ ended out → (q.trace ≡ o.trace) × (q.end ≡ ended out) × (q.left ≡ o.left ++ [])
  whole_grows o q g out e = subst (λ x. Keeps [] o.trace x o.left q) e g

  begun_grows : (o q : Run) → Grows [] o q → (t rest : Trace K) → actions_of o.trace ≡ t ++ rest → (more : Trace K) × (actions_of q.trace ≡ t ++ more)
  begun_grows o q g t rest e =
      let f = keeps_front [] o.trace o.end o.left q g in
      (rest ++ actions_of f.0, ap actions_of f.1 ∙ actions_append o.trace f.0 ∙ ap (λ w. w ++ actions_of f.0) e ∙ append_assoc t rest (actions_of f.0))

  pub same_by_budget : SameByBudget P c
  same_by_budget = record {
    whole = λ t e w.
        let d = agree.as_budget (table P) w.fuel (call_of c) w.answers in
        let g = whole_grows (plain_run P c w.answers w.fuel) (without_fuel (budget_run_of P c (w.answers ++ []) d.0)) (d.1 []) w.out w.end_is in
        record { answers = w.answers ++ []; fuel = d.0; out = w.out; trace_is = ap actions_of g.0 ∙ w.trace_is; end_is = g.1; ending_is = w.ending_is };
    whole_back = λ t e w.
        let g = whole_grows (without_fuel (budget_run_of P c w.answers w.fuel)) (plain_run P c (w.answers ++ []) w.fuel) (agree.as_depth (table P) w.fuel (call_of c) w.answers []) w.out w.end_is in
        record { answers = w.answers ++ []; fuel = w.fuel; out = w.out; trace_is = ap actions_of g.0 ∙ w.trace_is; end_is = g.1; ending_is = w.ending_is };
    bounded = λ t w.
        let d = agree.as_budget (table P) w.fuel (call_of c) w.answers in
        let g = begun_grows (plain_run P c w.answers w.fuel) (without_fuel (budget_run_of P c (w.answers ++ []) d.0)) (d.1 []) t w.rest w.trace_is in
        record { answers = w.answers ++ []; fuel = d.0; rest = g.0; trace_is = g.1 };
    bounded_back = λ t w.
        let g = begun_grows (without_fuel (budget_run_of P c w.answers w.fuel)) (plain_run P c (w.answers ++ []) w.fuel) (agree.as_depth (table P) w.fuel (call_of c) w.answers []) t w.rest w.trace_is in
        record { answers = w.answers ++ []; fuel = w.fuel; rest = g.0; trace_is = g.1 };
  }
